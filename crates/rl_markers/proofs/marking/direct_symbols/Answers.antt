use Rattle.std.proofs.Common.{◌≡◌, ℕ, ◌+◌, ◌||◌, Some, List, ◌∷◌, slice_get, map, drop, subst, ap, sym, ◌∙◌}
use Rattle.std.proofs.lemmas.List.{drop_more}
use Rattle.std.proofs.Math.ListN.{drop_of_length-le}
use Rattle.rl_bindings.specs.declared.event.Bound.{Bound}
use Rattle.rl_markers.proofs.Opening.{direct_all, direct_more}
use Rattle.rl_markers.specs.Named.{tables}
use Rattle.rl_model.specs.Code.{contains}
use Rattle.rl_model.specs.Hoisting.{is_direct}
use Rattle.rl_syntax.specs.Syntax.{pieces_of, syntax}
use Rattle.rl_syntax.specs.declared.numbered.Numbered.{Numbered}
use Rattle.rl_markers.proofs.marking.direct_symbols.Goals as goal

pub statements-preserved : goal.statements-preserved
statements-preserved c =
    let b = tables c.args.variables.now in
    let all : List Numbered = c.args.statements.now in
    let index : ℕ = c.statements.statement-index in
    let x : Numbered = c.statement-item.result in
    let rest : List Numbered = drop (index + 1) all in
    let split : drop index all ≡ x ∷ rest =
    drop_more all index x c.statements-test.true ∙ ap (λ (z : Numbered). z ∷ rest) (sym c.statement-item.is) in
    direct_more b c.args.nodes.now c.statements.found.items _ (syntax x) (pieces_of (map syntax rest)) (pieces_of (map syntax all)) c.requires
    (subst (λ (l : List Numbered). (s : ℕ) (first : Bound) → slice_get b.symbols s ≡ Some first
    → (contains c.statements.found.items s || is_direct first.node.0 (pieces_of (map syntax l)))
    ≡ is_direct first.node.0 (pieces_of (map syntax all))) split c.statements.invariant) c.in_ok-push_direct.ensures

pub returns : goal.returns
returns c =
    let b = tables c.args.variables.now in
    let all : List Numbered = c.args.statements.now in
    direct_all b c.statements.found.items c.in_ok-numbers.numbers.list.items (pieces_of (map syntax all)) c.in_ok-numbers.ensures
    (subst (λ (l : List Numbered). (s : ℕ) (first : Bound) → slice_get b.symbols s ≡ Some first
    → (contains c.statements.found.items s || is_direct first.node.0 (pieces_of (map syntax l)))
    ≡ is_direct first.node.0 (pieces_of (map syntax all))) (drop_of_length-le all c.statements-test.false) c.statements.invariant)
