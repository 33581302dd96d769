use Rattle.rl_used_names.specs.NameSearch.{KeepsTried}
use Rattle.rl_used_names.proofs.names.merge_numbers.Given as goal

-- The numbers that were raised stay right.
abbrev pub invariant-loop-index : goal.invariant-loop-index
invariant-loop-index l = KeepsTried l.initial.numbers.items l.numbers.items l.entries l.child
