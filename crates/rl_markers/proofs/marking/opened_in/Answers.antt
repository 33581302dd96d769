use Rattle.std.proofs.Common.{ℕ, ◌&&◌, List, [], subst}
use Rattle.rl_base.specs.declared.ids.SymbolId.{SymbolId}
use Rattle.rl_markers.proofs.Opening.{any_of, opened}
use Rattle.rl_markers.specs.Lists.{seen}
use Rattle.rl_markers.specs.Named.{AddsSymbols, is_candidate, tables}
use Rattle.rl_markers.proofs.marking.opened_in.Goals as goal

pub returns : goal.returns
returns c =
    let b = tables c.args.variables.now in
    let direct : List ℕ = c.in_ok-direct.direct.list.items in
    opened b direct c.in_ok-opened.opened.list.items (seen c.args.list) c.in_ok-bound.bound c.in_ok-direct.ensures c.in_ok-bound.ensures
    (subst (λ (l : List SymbolId). AddsSymbols b [] c.in_ok-opened.opened.list.items
    (λ other first. any_of l other && is_candidate b direct c.args.list.scope.0 other first)) c.as_slice.ensures c.in_ok-opened.ensures)
