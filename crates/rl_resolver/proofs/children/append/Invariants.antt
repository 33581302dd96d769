use Rattle.std.proofs.Common.{◌≡◌, ◌++◌, drop}
use Rattle.rl_resolver.proofs.children.append.Given as goal

abbrev pub invariant-loop-symbol : goal.invariant-loop-symbol
invariant-loop-symbol l = l.found ++ drop l.symbol-index l.symbols ≡ l.initial.found ++ l.symbols
