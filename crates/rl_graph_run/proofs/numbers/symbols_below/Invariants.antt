use Rattle.std.proofs.Common.{◌≡◌, filter, map}
use Rattle.rl_base.specs.declared.ids.SymbolId.{SymbolId}
use Rattle.rl_model.specs.Code.{below}
use Rattle.rl_graph_run.specs.Symbols.{symbol_flag}
use Rattle.rl_graph_run.proofs.numbers.symbols_below.Given as goal

-- Those found are those below the number.
abbrev pub invariant-numbers : goal.invariant-numbers
invariant-numbers l = map (λ (s : SymbolId). s.0) l.found.items ≡ filter (symbol_flag l.flags) (below l.number)
