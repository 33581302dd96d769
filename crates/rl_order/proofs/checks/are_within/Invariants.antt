use Rattle.std.proofs.Common.{ℕ, ◌<◌, get_or}
use Rattle.rl_base.specs.declared.ids.InstructionId.{InstructionId}
use Rattle.rl_order.proofs.checks.are_within.Given as goal

abbrev pub invariant-loop-id : goal.invariant-loop-id
invariant-loop-id l = (k : ℕ) → k < l.id-index → (d : InstructionId) → (get_or l.listed k d).0 < l.table
