use Rattle.std.proofs.Common.{◌≡◌, ℕ, ◌||◌, drop}
use Rattle.rl_code.specs.Flags.{flag_at}
use Rattle.rl_model.specs.Code.{contains}
use Rattle.rl_code.proofs.numbers.flags_among.Given as goal

abbrev pub invariant-numbers : goal.invariant-numbers
invariant-numbers l = (n : ℕ) → (flag_at l.flags.items n || contains (drop l.number-index l.numbers) n) ≡ contains l.numbers n
