use Rattle.std.proofs.Common.{◌≡◌, ◌++◌, drop}
use Rattle.rl_markers.specs.NodeSymbols.{pairs_from}
use Rattle.rl_markers.proofs.node_symbols.pairs_of.Given as goal

abbrev pub invariant-symbols : goal.invariant-symbols
invariant-symbols l = l.pairs.items ++ pairs_from l.number (drop l.bound-index l.symbols) ≡ pairs_from 0 l.symbols
