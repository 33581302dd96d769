use Rattle.std.proofs.Common.{◌≡◌, ℕ, ◌&&◌, ◌||◌, Some, List, slice_get, subst}
use Rattle.std.proofs.Math.ListN.{drop_of_length-le}
use Rattle.rl_base.specs.declared.ids.SymbolId.{SymbolId}
use Rattle.rl_bindings.specs.declared.event.Bound.{Bound}
use Rattle.rl_markers.proofs.Opening.{any_of, candidate_all}
use Rattle.rl_markers.specs.Named.{is_candidate, tables}
use Rattle.rl_model.specs.Code.{contains}
use Rattle.rl_markers.proofs.marking.candidates_among.Goals as goal

pub returns : goal.returns
returns c =
    let b = tables c.args.variables.now in
    let direct : List ℕ = c.args.direct.now.list.items in
    let scope : ℕ = c.args.scope.0 in
    let all : List SymbolId = c.args.symbols.now in
    candidate_all b direct c.symbols.found.items c.in_ok-numbers.numbers.list.items scope all c.in_ok-numbers.ensures
    (subst (λ (l : List SymbolId). (s : ℕ) (first : Bound) → slice_get b.symbols s ≡ Some first
    → (contains c.symbols.found.items s || (any_of l s && is_candidate b direct scope s first))
    ≡ (any_of all s && is_candidate b direct scope s first)) (drop_of_length-le all c.symbols-test.false) c.symbols.invariant)
