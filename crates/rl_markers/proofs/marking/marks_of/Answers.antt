use Rattle.std.proofs.Common.{◌≡◌, ℕ, ◌+◌, ◌||◌, Some, List, ◌∷◌, slice_get, map, drop, subst, ap, sym, ◌∙◌}
use Rattle.std.proofs.lemmas.List.{drop_more}
use Rattle.std.proofs.Math.ListN.{drop_of_length-le}
use Rattle.std.specs.List.{list_any}
use Rattle.rl_bindings.specs.declared.event.Bound.{Bound}
use Rattle.rl_markers.proofs.Opening.{lists_all, lists_more}
use Rattle.rl_markers.specs.Lists.{seen as seen_list}
use Rattle.rl_markers.specs.Named.{is_marked, marks_list, tables}
use Rattle.rl_markers.specs.declared.lists.StatementList.{StatementList}
use Rattle.rl_names.specs.Seen.{seen}
use Rattle.rl_markers.proofs.marking.marks_of.Goals as goal

pub lists-preserved : goal.lists-preserved
lists-preserved c =
    let b = tables c.args.variables.now in
    let names = seen c.args.variables.now.names in
    let all : List StatementList = c.args.lists.now in
    let index : ℕ = c.lists.list-index in
    let x : StatementList = c.list-item.result in
    let rest : List StatementList = drop (index + 1) all in
    let split : drop index all ≡ x ∷ rest =
    drop_more all index x c.lists-test.true ∙ ap (λ (z : StatementList). z ∷ rest) (sym c.list-item.is) in
    lists_more b names c.lists.marks.items _ (seen_list x) (map seen_list rest) (map seen_list all)
    (subst (λ (l : List StatementList). (n s : ℕ) (first : Bound) → slice_get b.symbols s ≡ Some first
    → (is_marked c.lists.marks.items s n || list_any (marks_list b names n s first) (map seen_list l))
    ≡ list_any (marks_list b names n s first) (map seen_list all)) split c.lists.invariant) c.in_ok-mark_list.ensures

pub returns : goal.returns
returns c =
    let b = tables c.args.variables.now in
    let names = seen c.args.variables.now.names in
    let all : List StatementList = c.args.lists.now in
    lists_all b names c.lists.marks.items (map seen_list all)
    (subst (λ (l : List StatementList). (n s : ℕ) (first : Bound) → slice_get b.symbols s ≡ Some first
    → (is_marked c.lists.marks.items s n || list_any (marks_list b names n s first) (map seen_list l))
    ≡ list_any (marks_list b names n s first) (map seen_list all)) (drop_of_length-le all c.lists-test.false) c.lists.invariant)
