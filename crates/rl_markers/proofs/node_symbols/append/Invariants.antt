use Rattle.std.proofs.Common.{◌≡◌, ◌++◌, drop}
use Rattle.rl_markers.proofs.node_symbols.append.Given as goal

abbrev pub invariant-numbers : goal.invariant-numbers
invariant-numbers l = l.out.items ++ drop l.number-index l.numbers ≡ l.initial.out.items ++ l.numbers
