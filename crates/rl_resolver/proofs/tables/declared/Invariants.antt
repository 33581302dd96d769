use Rattle.std.proofs.Common.{◌≡◌, ◌++◌, drop}
use Rattle.rl_resolver.specs.Listed.{declared_from}
use Rattle.rl_resolver.proofs.tables.declared.Given as goal

abbrev pub invariant-loop-symbol : goal.invariant-loop-symbol
invariant-loop-symbol l = l.pairs ++ declared_from l.number (drop l.symbol-index l.symbols) ≡ declared_from 0 l.symbols
