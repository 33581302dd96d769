use Rattle.std.proofs.Common.{◌≡◌, drop, map}
use Rattle.rl_builder.proofs.Renaming.{with_renames}
use Rattle.rl_builder.specs.Names.{renamed}
use Rattle.rl_builder.proofs.resolve.rename_all.Given as goal

-- The names so far, with those of the references that are left, are all names.
abbrev pub invariant-loop-reference : goal.invariant-loop-reference
invariant-loop-reference l = with_renames l.env (map (renamed l.free) (drop l.reference-index l.references)) ≡ with_renames l.fn.env (map (renamed l.free) l.references)
