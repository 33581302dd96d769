-- The marks of statements.
use Rattle.std.proofs.Common.{◌≡◌, ℕ, nat_eq, nat_le, eqb-true, Bool, true, false, ◌&&◌, ◌||◌, not, if◌then◌else◌, Option, Some, None, List, []}
use Rattle.std.proofs.Common.{◌∷◌, ◌++◌, map, slice_get, ap, sym, refl, ◌∙◌}
use Rattle.std.specs.BTreeSet.{BTreeSet}
use Rattle.std.proofs.Math.Path.{subst}
use Rattle.std.proofs.lemmas.List.Folds.{list_any-append}
use Rattle.rl_bindings.proofs.LookUps.{by_test}
use Rattle.rl_bindings.specs.declared.bindings.Bindings.{Bindings}
use Rattle.rl_bindings.specs.declared.event.Bound.{Bound}
use Rattle.rl_markers.specs.Named.{AddsMarks, AddsSymbols, StatementMarked, has, is_marked, marks_in, up_to}
use Rattle.rl_markers.specs.declared.marking.Mark.{Mark}
use Rattle.rl_model.specs.Code.{contains}
use Rattle.rl_model.specs.Hoisting.{declared_by_statement, is_named_early, marker_among}
use Rattle.rl_names.specs.Names.{Names}
use Rattle.rl_semantic.specs.Items.{of_item}
use Rattle.rl_syntax.specs.Syntax.{Syntax, Node, Pieces, End, Then, pieces_of, syntax}
use Rattle.rl_syntax.specs.declared.numbered.At.{At}
use Rattle.rl_syntax.specs.declared.numbered.Numbered.{Numbered}
use Rattle.rl_syntax.specs.declared.numbered.Numbered.TheVariants as numbered
use Rattle.rl_syntax.specs.declared.word.Word.{Word}
use Rattle.rl_syntax.proofs.Layers.{syntax_node, syntax_list, syntax_text, syntax_number, syntax_flag, syntax_absent}

or_none : (b : Bool) → b ≡ b || false
or_none true = refl
or_none false = refl

and_none : (b : Bool) → (b && false) ≡ false
and_none true = refl
and_none false = refl

pub mark_pushed : (marks : List Mark) (m : Mark) (s n : ℕ)
    → is_marked (marks ++ m ∷ []) s n ≡ (is_marked marks s n || (nat_eq s m.symbol && nat_le m.node n))
mark_pushed marks m s n =
    list_any-append (λ (m : Mark). nat_eq s m.symbol && nat_le m.node n) marks (m ∷ [])
    ∙ ap (λ b. is_marked marks s n || b) (sym (or_none (nat_eq s m.symbol && nat_le m.node n)))

-- A statement marks and closes: the marks so far, and those of the statements behind it.
marked_on : (so_far opens closed early declared reached later : Bool)
    → ((so_far || ((opens && not closed) && (early && reached))) || ((opens && not ((closed || early) || declared)) && later))
    ≡ (so_far || ((opens && not closed) && (if early then reached else if declared then false else later)))
marked_on true opens closed early declared reached later = refl
marked_on false false closed early declared reached later = refl
marked_on false true true early declared reached later = refl
marked_on false true false true declared reached later = sym (or_none reached)
marked_on false true false false true reached later = refl
marked_on false true false false false reached later = refl

marker_of : (early declared : Bool) (node id : ℕ) (later : Option ℕ)
    → (if early then up_to node id else if declared then false else of_item false (up_to node) later)
    ≡ of_item false (up_to node) (if early then Some id else if declared then None else later)
marker_of true declared node id later = refl
marker_of false true node id later = refl
marker_of false false node id later = refl

pub node_marked : (b : Bindings) (names : Names) (opened named declared : List ℕ) (c0 c1 c2 : BTreeSet ℕ) (m0 m1 : List Mark) (tree : Syntax)
    (at : At) (w : Word)
    → ((parts : Pieces) → tree ≡ Node at w parts → AddsSymbols b [] named (λ s first. is_named_early b s first (Node at w parts)))
    → ((s n : ℕ) → is_marked m1 s n ≡ (is_marked m0 s n || ((contains opened s && not (has c0 s)) && (contains named s && nat_le at.id.0 n))))
    → ((s : ℕ) → has c1 s ≡ (has c0 s || contains named s))
    → declared ≡ declared_by_statement names tree → ((s : ℕ) → has c2 s ≡ (has c1 s || contains declared s)) → (parts : Pieces)
    → tree ≡ Node at w parts → StatementMarked b names opened c0 c2 m0 m1 (Node at w parts)
node_marked b names opened named declared c0 c1 c2 m0 m1 tree at w early marks closes declares closes_more parts node = record {
  step = λ rest n s first is.
      let st = Node at w parts in
      let e = is_named_early b s first st in
      let d = contains (declared_by_statement names st) s in
      let is_early : contains named s ≡ e = (early parts node).adds s first is in
      let is_declared : contains declared s ≡ d = ap (λ l. contains l s) (declares ∙ ap (declared_by_statement names) node) in
      let closed : has c2 s ≡ ((has c0 s || e) || d) =
      closes_more s ∙ ap (λ x. x || contains declared s) (closes s ∙ ap (λ x. has c0 s || x) is_early)
      ∙ ap (λ x. (has c0 s || e) || x) is_declared in
      ap (λ x. x || ((contains opened s && not (has c2 s)) && marks_in b names n s first rest))
      (marks s n ∙ ap (λ x. is_marked m0 s n || ((contains opened s && not (has c0 s)) && (x && nat_le at.id.0 n))) is_early)
      ∙ ap (λ x. (is_marked m0 s n || ((contains opened s && not (has c0 s)) && (e && nat_le at.id.0 n)))
      || ((contains opened s && not x) && marks_in b names n s first rest)) closed
      ∙ marked_on (is_marked m0 s n) (contains opened s) (has c0 s) e d (nat_le at.id.0 n) (marks_in b names n s first rest)
      ∙ ap (λ x. is_marked m0 s n || ((contains opened s && not (has c0 s)) && x))
      (marker_of e d n at.id.0 (marker_among b names s first rest));
}

-- Any other tree marks nothing.
pub tree_marked_node : (b : Bindings) (names : Names) (opened : List ℕ) (c0 c1 : BTreeSet ℕ) (m0 m1 : List Mark) (at : At) (w : Word)
    (parts : List Numbered)
    → ((ps : Pieces) → syntax (numbered.Node at w parts) ≡ Node at w ps → StatementMarked b names opened c0 c1 m0 m1 (Node at w ps))
    → StatementMarked b names opened c0 c1 m0 m1 (syntax (numbered.Node at w parts))
tree_marked_node b names opened c0 c1 m0 m1 at w parts q =
    subst (λ s. StatementMarked b names opened c0 c1 m0 m1 s) (sym (syntax_node at w parts))
    (q (pieces_of (map syntax parts)) (syntax_node at w parts))

pub tree_marked_list : (b : Bindings) (names : Names) (opened : List ℕ) (c : BTreeSet ℕ) (m : List Mark) (items : List Numbered)
    → StatementMarked b names opened c c m m (syntax (numbered.List items))
tree_marked_list b names opened c m items =
    subst (λ s. StatementMarked b names opened c c m m s) (sym (syntax_list items)) (record { step = λ rest n s first is. refl })

pub tree_marked_text : (b : Bindings) (names : Names) (opened : List ℕ) (c : BTreeSet ℕ) (m : List Mark) (text : List ℕ)
    → StatementMarked b names opened c c m m (syntax (numbered.Text text))
tree_marked_text b names opened c m text =
    subst (λ s. StatementMarked b names opened c c m m s) (sym (syntax_text text)) (record { step = λ rest n s first is. refl })

pub tree_marked_number : (b : Bindings) (names : Names) (opened : List ℕ) (c : BTreeSet ℕ) (m : List Mark) (number : ℕ)
    → StatementMarked b names opened c c m m (syntax (numbered.Number number))
tree_marked_number b names opened c m number =
    subst (λ s. StatementMarked b names opened c c m m s) (sym (syntax_number number)) (record { step = λ rest n s first is. refl })

pub tree_marked_flag : (b : Bindings) (names : Names) (opened : List ℕ) (c : BTreeSet ℕ) (m : List Mark) (flag : Bool)
    → StatementMarked b names opened c c m m (syntax (numbered.Flag flag))
tree_marked_flag b names opened c m flag =
    subst (λ s. StatementMarked b names opened c c m m s) (sym (syntax_flag flag)) (record { step = λ rest n s first is. refl })

pub tree_marked_absent : (b : Bindings) (names : Names) (opened : List ℕ) (c : BTreeSet ℕ) (m : List Mark)
    → StatementMarked b names opened c c m m (syntax numbered.Absent)
tree_marked_absent b names opened c m =
    subst (λ s. StatementMarked b names opened c c m m s) (sym syntax_absent) (record { step = λ rest n s first is. refl })

pub ruleset tree_marked =
    (tree_marked_node, tree_marked_list, tree_marked_text, tree_marked_number, tree_marked_flag, tree_marked_absent)

-- The statements of a list that are left, before those marked so far.
pub begin : (b : Bindings) (names : Names) (opened : List ℕ) (c : BTreeSet ℕ) (m : List Mark) (all : Pieces) → ((s : ℕ) → has c s ≡ false)
    → (n s : ℕ) (first : Bound) → slice_get b.symbols s ≡ Some first
    → (is_marked m s n || ((contains opened s && not (has c s)) && marks_in b names n s first all))
    ≡ (is_marked m s n || (contains opened s && marks_in b names n s first all))
begin b names opened c m all none n s first is =
    ap (λ x. is_marked m s n || ((contains opened s && not x) && marks_in b names n s first all)) (none s)
    ∙ ap (λ x. is_marked m s n || (x && marks_in b names n s first all)) (and_true (contains opened s))
  where
    and_true : (x : Bool) → (x && true) ≡ x
    and_true true = refl
    and_true false = refl

-- A statement more.
pub more : (b : Bindings) (names : Names) (opened : List ℕ) (c0 c1 : BTreeSet ℕ) (old m0 m1 : List Mark) (statement : Syntax) (rest all : Pieces)
    → ((n s : ℕ) (first : Bound) → slice_get b.symbols s ≡ Some first
    → (is_marked m0 s n || ((contains opened s && not (has c0 s)) && marks_in b names n s first (Then statement rest)))
    ≡ (is_marked old s n || (contains opened s && marks_in b names n s first all)))
    → StatementMarked b names opened c0 c1 m0 m1 statement → (n s : ℕ) (first : Bound) → slice_get b.symbols s ≡ Some first
    → (is_marked m1 s n || ((contains opened s && not (has c1 s)) && marks_in b names n s first rest))
    ≡ (is_marked old s n || (contains opened s && marks_in b names n s first all))
more b names opened c0 c1 old m0 m1 statement rest all so q n s first is = q.step rest n s first is ∙ so n s first is

-- Behind the last statement.
pub ended : (b : Bindings) (names : Names) (opened : List ℕ) (c : BTreeSet ℕ) (m0 m : List Mark) (all : Pieces)
    → ((n s : ℕ) (first : Bound) → slice_get b.symbols s ≡ Some first
    → (is_marked m s n || ((contains opened s && not (has c s)) && marks_in b names n s first End))
    ≡ (is_marked m0 s n || (contains opened s && marks_in b names n s first all)))
    → AddsMarks b m0 m (λ n s first. contains opened s && marks_in b names n s first all)
ended b names opened c m0 m all so = record {
  adds = λ n s first is.
      or_none (is_marked m s n) ∙ ap (λ x. is_marked m s n || x) (sym (and_none (contains opened s && not (has c s)))) ∙ so n s first is;
}

pub ruleset statements = (begin, more, ended)

-- The names that are left, behind those marked: the next is open, or not.
pub open_more : (opened : List ℕ) (c : BTreeSet ℕ) (old m new : List Mark) (x node : ℕ) (rest all : List ℕ)
    → (contains opened x && not (has c x)) ≡ true
    → ((s n : ℕ) → (is_marked m s n || ((contains opened s && not (has c s)) && (contains (x ∷ rest) s && nat_le node n)))
    ≡ (is_marked old s n || ((contains opened s && not (has c s)) && (contains all s && nat_le node n))))
    → ((s n : ℕ) → is_marked new s n ≡ (is_marked m s n || (nat_eq s x && nat_le node n))) → (s n : ℕ)
    → (is_marked new s n || ((contains opened s && not (has c s)) && (contains rest s && nat_le node n)))
    ≡ (is_marked old s n || ((contains opened s && not (has c s)) && (contains all s && nat_le node n)))
open_more opened c old m new x node rest all is so step s n =
    ap (λ y. y || ((contains opened s && not (has c s)) && (contains rest s && nat_le node n))) (step s n)
    ∙ by_test (nat_eq s x)
    (λ holds. let here : s ≡ x = eqb-true s x holds in
    let free : (contains opened s && not (has c s)) ≡ true = ap (λ k. contains opened k && not (has c k)) here ∙ is in
    ap (λ y. (is_marked m s n || (nat_eq s x && nat_le node n)) || (y && (contains rest s && nat_le node n))) free
    ∙ ap (λ y. (is_marked m s n || (y && nat_le node n)) || (contains rest s && nat_le node n)) holds
    ∙ joined (is_marked m s n) (nat_le node n) (contains rest s)
    ∙ ap (λ y. is_marked m s n || (true && ((y || contains rest s) && nat_le node n))) (sym holds)
    ∙ ap (λ y. is_marked m s n || (y && ((nat_eq s x || contains rest s) && nat_le node n))) (sym free))
    (λ fails. ap (λ y. (is_marked m s n || (y && nat_le node n)) || ((contains opened s && not (has c s)) && (contains rest s && nat_le node n))) fails
    ∙ ap (λ y. y || ((contains opened s && not (has c s)) && (contains rest s && nat_le node n))) (sym (or_none (is_marked m s n)))
    ∙ ap (λ y. is_marked m s n || ((contains opened s && not (has c s)) && ((y || contains rest s) && nat_le node n))) (sym fails))
    ∙ so s n
  where
    joined : (a l r : Bool) → ((a || (true && l)) || (r && l)) ≡ (a || (true && ((true || r) && l)))
    joined true l r = refl
    joined false true r = refl
    joined false false true = refl
    joined false false false = refl

pub closed_more : (opened : List ℕ) (c : BTreeSet ℕ) (old m : List Mark) (x node : ℕ) (rest all : List ℕ)
    → (contains opened x && not (has c x)) ≡ false
    → ((s n : ℕ) → (is_marked m s n || ((contains opened s && not (has c s)) && (contains (x ∷ rest) s && nat_le node n)))
    ≡ (is_marked old s n || ((contains opened s && not (has c s)) && (contains all s && nat_le node n)))) → (s n : ℕ)
    → (is_marked m s n || ((contains opened s && not (has c s)) && (contains rest s && nat_le node n)))
    ≡ (is_marked old s n || ((contains opened s && not (has c s)) && (contains all s && nat_le node n)))
closed_more opened c old m x node rest all is so s n =
    by_test (nat_eq s x)
    (λ holds. let here : s ≡ x = eqb-true s x holds in
    let shut : (contains opened s && not (has c s)) ≡ false = ap (λ k. contains opened k && not (has c k)) here ∙ is in
    ap (λ y. is_marked m s n || (y && (contains rest s && nat_le node n))) shut
    ∙ ap (λ y. is_marked m s n || (y && ((nat_eq s x || contains rest s) && nat_le node n))) (sym shut))
    (λ fails. ap (λ y. is_marked m s n || ((contains opened s && not (has c s)) && ((y || contains rest s) && nat_le node n))) (sym fails))
    ∙ so s n

pub ruleset names = (open_more, closed_more)
