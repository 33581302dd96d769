use Rattle.std.proofs.Common.{◌≡◌, ◌||◌, ◌&&◌, drop}
use Rattle.std.specs.List.{list_any}
use Rattle.rl_base.specs.declared.ids.SymbolId.{SymbolId}
use Rattle.rl_context.specs.Context.{has, captures}
use Rattle.rl_context.proofs.context.captured.Given as goal

abbrev pub invariant-loop-site : goal.invariant-loop-site
invariant-loop-site l = (symbol : SymbolId) → (has l.found symbol || (has l.symbols symbol && list_any (captures l.scope.semantic.now.bindings symbol.0) (drop l.site-index l.sites))) ≡ (has l.symbols symbol && list_any (captures l.scope.semantic.now.bindings symbol.0) l.sites)
