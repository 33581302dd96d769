use Rattle.std.proofs.Common.{◌≡◌, ◌++◌, map, drop}
use Rattle.rl_base.specs.declared.ids.SymbolId.{SymbolId}
use Rattle.rl_source_scene.proofs.shared.symbols_of.Given as goal

abbrev pub invariant-numbers : goal.invariant-numbers
invariant-numbers l = map (λ (symbol : SymbolId). symbol.0) l.symbols.items ++ drop l.number-index l.numbers ≡ l.numbers
