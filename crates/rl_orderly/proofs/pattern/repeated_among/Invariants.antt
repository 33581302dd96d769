use Rattle.std.proofs.Common.{◌≡◌, ℕ, false, drop}
use Rattle.std.specs.BTreeSet.{contains_by}
use Rattle.std.specs.Ordering.{nat_cmp}
use Rattle.rl_orderly.specs.Repeats.{repeats}
use Rattle.rl_orderly.proofs.pattern.repeated_among.Given as goal

abbrev pub invariant-numbers : goal.invariant-numbers
invariant-numbers l =
    (n : ℕ) → repeats (contains_by (nat_cmp n) l.once) (contains_by (nat_cmp n) l.twice) n (drop l.number-index l.numbers)
    ≡ repeats false false n l.numbers
