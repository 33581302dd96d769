use Rattle.std.proofs.Common.{◌≡◌, ◌++◌, drop}
use Rattle.rl_resolver.specs.Listed.{bound_from}
use Rattle.rl_resolver.proofs.tables.bound.Given as goal

abbrev pub invariant-loop-symbol : goal.invariant-loop-symbol
invariant-loop-symbol l = record {
  pairs : l.pairs ++ bound_from l.symbols l.number (drop l.symbol-index l.symbol-items) ≡ bound_from l.symbols 0 l.symbol-items;
  at : l.number ≡ l.symbol-index;
}
