use Rattle.std.proofs.Common.{◌≡◌, drop}
use Rattle.rl_builder.specs.Dropped.{first_function}
use Rattle.rl_builder.proofs.graph.first_function.Given as goal

-- The first of those that are left is the first of all.
abbrev pub invariant-loop-id : goal.invariant-loop-id
invariant-loop-id l = first_function l.table (drop l.id-index l.listed) ≡ first_function l.table l.listed
