use Rattle.std.proofs.Common.{◌≡◌, ℕ, ◌+◌, ◌-◌, length}
use Rattle.rl_semantic.specs.Buckets.{first_at}
use Rattle.rl_context.proofs.index.make_place.Given as goal

abbrev pub invariant-loop-entries : goal.invariant-loop-entries
invariant-loop-entries l = (n : ℕ) → first_at l.entries.items n ≡ first_at l.initial.entries.items n

abbrev pub decreases-loop-entries : goal.decreases-loop-entries
decreases-loop-entries l = l.reference + 1 - length l.entries.items
