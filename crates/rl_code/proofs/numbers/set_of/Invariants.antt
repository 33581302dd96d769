use Rattle.std.proofs.Common.{◌≡◌, ℕ, ◌||◌, drop}
use Rattle.std.specs.BTreeSet.{contains_by}
use Rattle.std.specs.Ordering.{nat_cmp}
use Rattle.rl_model.specs.Code.{contains}
use Rattle.rl_code.proofs.numbers.set_of.Given as goal

abbrev pub invariant-numbers : goal.invariant-numbers
invariant-numbers l = (n : ℕ) → (contains_by (nat_cmp n) l.set || contains (drop l.number-index l.numbers) n) ≡ contains l.numbers n
