use Rattle.std.proofs.Common.{◌≡◌, drop}
use Rattle.rl_used_names.specs.Merged.{merged_bindings}
use Rattle.rl_used_names.proofs.names.Bindings.merge.Given as goal

-- The pairs that are left are merged into those that are there.
abbrev pub invariant-loop-index : goal.invariant-loop-index
invariant-loop-index l = merged_bindings l.self (drop l.index l.child) ≡ merged_bindings l.initial.self l.child
