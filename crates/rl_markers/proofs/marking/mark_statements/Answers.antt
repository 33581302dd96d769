use Rattle.std.proofs.Common.{◌≡◌, ℕ, ◌+◌, ◌&&◌, ◌||◌, not, Some, List, ◌∷◌, slice_get, map, drop, subst, ap, sym, ◌∙◌}
use Rattle.std.proofs.lemmas.List.{drop_more}
use Rattle.std.proofs.Math.ListN.{drop_of_length-le}
use Rattle.rl_bindings.specs.declared.event.Bound.{Bound}
use Rattle.rl_markers.proofs.Marks.{ended, more}
use Rattle.rl_markers.specs.Named.{has, is_marked, marks_in, tables}
use Rattle.rl_model.specs.Code.{contains}
use Rattle.rl_names.specs.Seen.{seen}
use Rattle.rl_syntax.specs.Syntax.{pieces_of, syntax}
use Rattle.rl_syntax.specs.declared.numbered.Numbered.{Numbered}
use Rattle.rl_markers.proofs.marking.mark_statements.Goals as goal

pub statements-preserved : goal.statements-preserved
statements-preserved c =
    let b = tables c.args.variables.now in
    let names = seen c.args.variables.now.names in
    let opened : List ℕ = c.args.opened.now.list.items in
    let all : List Numbered = c.args.statements.now in
    let index : ℕ = c.statements.statement-index in
    let x : Numbered = c.statement-item.result in
    let rest : List Numbered = drop (index + 1) all in
    let split : drop index all ≡ x ∷ rest =
    drop_more all index x c.statements-test.true ∙ ap (λ (z : Numbered). z ∷ rest) (sym c.statement-item.is) in
    more b names opened _ _ c.args.marks.now.items c.statements.marks.items _ (syntax x) (pieces_of (map syntax rest))
    (pieces_of (map syntax all))
    (subst (λ (l : List Numbered). (n s : ℕ) (first : Bound) → slice_get b.symbols s ≡ Some first
    → (is_marked c.statements.marks.items s n
    || ((contains opened s && not (has c.statements.closed s)) && marks_in b names n s first (pieces_of (map syntax l))))
    ≡ (is_marked c.args.marks.now.items s n || (contains opened s && marks_in b names n s first (pieces_of (map syntax all))))) split
    c.statements.invariant) c.in_ok-mark_statement.ensures

pub returns : goal.returns
returns c =
    let b = tables c.args.variables.now in
    let names = seen c.args.variables.now.names in
    let opened : List ℕ = c.args.opened.now.list.items in
    let all : List Numbered = c.args.statements.now in
    ended b names opened c.statements.closed c.args.marks.now.items c.statements.marks.items (pieces_of (map syntax all))
    (subst (λ (l : List Numbered). (n s : ℕ) (first : Bound) → slice_get b.symbols s ≡ Some first
    → (is_marked c.statements.marks.items s n
    || ((contains opened s && not (has c.statements.closed s)) && marks_in b names n s first (pieces_of (map syntax l))))
    ≡ (is_marked c.args.marks.now.items s n || (contains opened s && marks_in b names n s first (pieces_of (map syntax all)))))
    (drop_of_length-le all c.statements-test.false) c.statements.invariant)
