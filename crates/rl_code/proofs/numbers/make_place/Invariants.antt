use Rattle.std.proofs.Common.{◌≡◌, ℕ, ◌+◌, ◌-◌, length}
use Rattle.rl_code.specs.Flags.{flag_at}
use Rattle.rl_code.proofs.numbers.make_place.Given as goal

abbrev pub invariant-loop-flags : goal.invariant-loop-flags
invariant-loop-flags l = (n : ℕ) → flag_at l.flags.items n ≡ flag_at l.initial.flags.items n

abbrev pub decreases-loop-flags : goal.decreases-loop-flags
decreases-loop-flags l = l.number + 1 - length l.flags.items
