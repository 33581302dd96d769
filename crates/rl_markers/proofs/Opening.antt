-- The symbols that may be marked in a list, and the marks of lists.
use Rattle.std.proofs.Common.{◌≡◌, ℕ, nat_eq, nat_le, nat_lt, eqb-true, Bool, true, false, ◌&&◌, ◌||◌, not, if◌then◌else◌, Option, Some, None}
use Rattle.std.proofs.Common.{List, [], ◌∷◌, ◌++◌, slice_get, ap, sym, refl, ◌∙◌}
use Rattle.std.specs.List.{list_any}
use Rattle.std.proofs.Math.Path.{subst}
use Rattle.rl_base.specs.declared.ids.SymbolId.{SymbolId}
use Rattle.rl_bindings.proofs.LookUps.{by_test}
use Rattle.rl_bindings.specs.declared.bindings.Bindings.{Bindings}
use Rattle.rl_bindings.specs.declared.event.Bound.{Bound}
use Rattle.rl_code.proofs.Flagging.{eq_swapped}
use Rattle.rl_markers.proofs.Naming.{adds_none, contains_pushed}
use Rattle.rl_markers.specs.Named.{AddsDirect, AddsMarks, AddsSymbols, is_candidate, is_marked, marks_in, marks_list, up_to}
use Rattle.rl_markers.specs.NodeSymbols.{AddsBetween, AreOf}
use Rattle.rl_markers.specs.declared.marking.Mark.{Mark}
use Rattle.rl_markers.specs.declared.node_symbols.NodeSymbols.{NodeSymbols}
use Rattle.rl_model.specs.Code.{contains}
use Rattle.rl_model.specs.Hoisting.{StatementList, is_declaration, is_direct, is_hoistable, is_of_list, marker_among}
use Rattle.rl_names.specs.Names.{Names}
use Rattle.rl_resolver.specs.Children.{bindings_with_child_blocks}
use Rattle.rl_resolver.specs.Lookups.{symbol_scope}
use Rattle.rl_semantic.specs.Items.{of_item}
use Rattle.rl_syntax.specs.Syntax.{Syntax, Node, Listed, Said, Count, Flag, Absent, Pieces, End, Then, syntax}
use Rattle.rl_syntax.specs.declared.numbered.At.{At}
use Rattle.rl_syntax.specs.declared.numbered.Numbered.{Numbered}
use Rattle.rl_syntax.specs.declared.numbered.Numbered.TheVariants as numbered
use Rattle.rl_syntax.specs.declared.word.Word.{Word}
use Rattle.rl_syntax.proofs.Layers.{syntax_node, syntax_list, syntax_text, syntax_number, syntax_flag, syntax_absent}

or_none : (b : Bool) → b ≡ b || false
or_none true = refl
or_none false = refl

and_false : (b : Bool) → false ≡ b && false
and_false true = refl
and_false false = refl

and_true : (x : Bool) → x ≡ (x && true)
and_true true = refl
and_true false = refl

-- A tree that declares by itself.
pub direct_declaration : (table : NodeSymbols) (old new : List ℕ) (at : At) (w : Word) (parts : List Numbered) → is_declaration w ≡ true
    → AddsBetween table old new at.id.0 at.end.0 → AddsDirect table old new (syntax (numbered.Node at w parts))
direct_declaration table old new at w parts is q =
    subst (λ t. AddsDirect table old new t) (sym (syntax_node at w parts))
    (record {
      adds = λ b are. record {
        adds = λ s first found.
            q.adds b.symbols are s first found
            ∙ ap (λ x. contains old s || x)
            (or_none (nat_le at.id.0 first.node.0 && nat_lt first.node.0 at.end.0)
            ∙ ap (λ x. (x && (nat_le at.id.0 first.node.0 && nat_lt first.node.0 at.end.0)) || false) (sym is));
      };
    })

pub direct_other : (table : NodeSymbols) (old : List ℕ) (at : At) (w : Word) (parts : List Numbered) → is_declaration w ≡ false
    → AddsDirect table old old (syntax (numbered.Node at w parts))
direct_other table old at w parts not =
    subst (λ t. AddsDirect table old old t) (sym (syntax_node at w parts))
    (record {
      adds = λ b are. adds_none b old _ (λ s first found.
          ap (λ x. (x && (nat_le at.id.0 first.node.0 && nat_lt first.node.0 at.end.0)) || false) (sym not));
    })

pub direct_list : (table : NodeSymbols) (old : List ℕ) (items : List Numbered) → AddsDirect table old old (syntax (numbered.List items))
direct_list table old items =
    subst (λ t. AddsDirect table old old t) (sym (syntax_list items)) (record { adds = λ b are. adds_none b old _ (λ s first found. refl) })

pub direct_text : (table : NodeSymbols) (old : List ℕ) (text : List ℕ) → AddsDirect table old old (syntax (numbered.Text text))
direct_text table old text =
    subst (λ t. AddsDirect table old old t) (sym (syntax_text text)) (record { adds = λ b are. adds_none b old _ (λ s first found. refl) })

pub direct_number : (table : NodeSymbols) (old : List ℕ) (number : ℕ) → AddsDirect table old old (syntax (numbered.Number number))
direct_number table old number =
    subst (λ t. AddsDirect table old old t) (sym (syntax_number number)) (record { adds = λ b are. adds_none b old _ (λ s first found. refl) })

pub direct_flag : (table : NodeSymbols) (old : List ℕ) (flag : Bool) → AddsDirect table old old (syntax (numbered.Flag flag))
direct_flag table old flag =
    subst (λ t. AddsDirect table old old t) (sym (syntax_flag flag)) (record { adds = λ b are. adds_none b old _ (λ s first found. refl) })

pub direct_absent : (table : NodeSymbols) (old : List ℕ) → AddsDirect table old old (syntax numbered.Absent)
direct_absent table old =
    subst (λ t. AddsDirect table old old t) (sym syntax_absent) (record { adds = λ b are. adds_none b old _ (λ s first found. refl) })

pub ruleset direct_one =
    (direct_declaration, direct_other, direct_list, direct_text, direct_number, direct_flag, direct_absent)

-- A list of trees declares what each does.
direct_split : (node : ℕ) (tree : Syntax) (rest : Pieces) → is_direct node (Then tree rest) ≡ (is_direct node (Then tree End) || is_direct node rest)
direct_split node (Node at w parts) rest = split (is_declaration w && (nat_le at.id.0 node && nat_lt node at.end.0)) (is_direct node rest)
  where
    split : (a b : Bool) → (a || b) ≡ ((a || false) || b)
    split true b = refl
    split false b = refl
direct_split node (Listed parts) rest = refl
direct_split node (Said text) rest = refl
direct_split node (Count number) rest = refl
direct_split node (Flag flag) rest = refl
direct_split node Absent rest = refl

-- The trees that are left declare what all do, less what was found.
pub direct_more : (b : Bindings) (table : NodeSymbols) (found new : List ℕ) (tree : Syntax) (rest all : Pieces) → AreOf table b.symbols
    → ((s : ℕ) (first : Bound) → slice_get b.symbols s ≡ Some first
    → (contains found s || is_direct first.node.0 (Then tree rest)) ≡ is_direct first.node.0 all)
    → AddsDirect table found new tree → (s : ℕ) (first : Bound) → slice_get b.symbols s ≡ Some first
    → (contains new s || is_direct first.node.0 rest) ≡ is_direct first.node.0 all
direct_more b table found new tree rest all are so q s first is =
    ap (λ x. x || is_direct first.node.0 rest) ((q.adds b are).adds s first is)
    ∙ or_assoc (contains found s) (is_direct first.node.0 (Then tree End)) (is_direct first.node.0 rest)
    ∙ ap (λ x. contains found s || x) (sym (direct_split first.node.0 tree rest)) ∙ so s first is
  where
    or_assoc : (a b c : Bool) → (a || b) || c ≡ a || (b || c)
    or_assoc true b c = refl
    or_assoc false b c = refl

pub direct_all : (b : Bindings) (found list : List ℕ) (all : Pieces) → list ≡ found
    → ((s : ℕ) (first : Bound) → slice_get b.symbols s ≡ Some first
    → (contains found s || is_direct first.node.0 End) ≡ is_direct first.node.0 all)
    → AddsSymbols b [] list (λ s first. is_direct first.node.0 all)
direct_all b found list all same so = record {
  adds = λ s first is. ap (λ l. contains l s) same ∙ or_none (contains found s) ∙ so s first is;
}

pub ruleset directs = (direct_more, direct_all)

-- Candidates.
pub candidate_is : (b : Bindings) (direct : List ℕ) (scope symbol : ℕ) (found first : Bound) → Some found ≡ slice_get b.symbols symbol
    → slice_get b.symbols symbol ≡ Some first
    → (is_hoistable found.kind && (nat_eq (symbol_scope b.symbols symbol).0 scope || contains direct symbol))
    ≡ is_candidate b direct scope symbol first
candidate_is b direct scope symbol found first here is =
    let same : found ≡ first = cc in
    ap (λ (d : Bound). is_hoistable d.kind && (nat_eq (symbol_scope b.symbols symbol).0 scope || contains direct symbol)) same

pub no_candidate : (b : Bindings) (direct : List ℕ) (scope symbol : ℕ) (first : Bound) → None ≡ slice_get b.symbols symbol
    → slice_get b.symbols symbol ≡ Some first → false ≡ is_candidate b direct scope symbol first
no_candidate b direct scope symbol first none is = absurd (cc)

pub ruleset candidates = (candidate_is, no_candidate)

same_candidate : (b : Bindings) (direct : List ℕ) (scope x s : ℕ) (first : Bound) (result : Bool)
    → ((d : Bound) → slice_get b.symbols x ≡ Some d → result ≡ is_candidate b direct scope x d) → slice_get b.symbols s ≡ Some first
    → (nat_eq x s && result) ≡ (nat_eq x s && is_candidate b direct scope s first)
same_candidate b direct scope x s first result tells is = by_test (nat_eq x s)
    (λ holds. let here : x ≡ s = eqb-true x s holds in
    ap (λ r. nat_eq x s && r) (tells first (ap (slice_get b.symbols) here ∙ is))
    ∙ ap (λ y. nat_eq x s && is_candidate b direct scope y first) here)
    (λ fails. ap (λ y. y && result) fails ∙ ap (λ y. y && is_candidate b direct scope s first) (sym fails))

pub candidate_pushed : (b : Bindings) (direct xs : List ℕ) (scope x : ℕ) (result : Bool)
    → ((d : Bound) → slice_get b.symbols x ≡ Some d → result ≡ is_candidate b direct scope x d) → result ≡ true
    → AddsSymbols b xs (xs ++ x ∷ []) (λ other first. nat_eq x other && is_candidate b direct scope other first)
candidate_pushed b direct xs scope x result tells holds = record {
  adds = λ s first is.
      contains_pushed xs x s
      ∙ ap (λ t. contains xs s || t)
      (eq_swapped s x ∙ and_true (nat_eq x s) ∙ ap (λ r. nat_eq x s && r) (sym holds) ∙ same_candidate b direct scope x s first result tells is);
}

pub candidate_left : (b : Bindings) (direct xs : List ℕ) (scope x : ℕ) (result : Bool)
    → ((d : Bound) → slice_get b.symbols x ≡ Some d → result ≡ is_candidate b direct scope x d) → result ≡ false
    → AddsSymbols b xs xs (λ other first. nat_eq x other && is_candidate b direct scope other first)
candidate_left b direct xs scope x result tells fails = adds_none b xs _ (λ s first is.
    and_false (nat_eq x s) ∙ ap (λ r. nat_eq x s && r) (sym fails) ∙ same_candidate b direct scope x s first result tells is)

pub ruleset candidate = (candidate_pushed, candidate_left)

-- The symbols that are left, behind those found.
abbrev pub any_of : List SymbolId → (other : ℕ) → Bool
any_of symbols other = list_any (λ (s : SymbolId). nat_eq s.0 other) symbols

pub candidate_more : (b : Bindings) (direct found new : List ℕ) (scope : ℕ) (x : SymbolId) (rest all : List SymbolId)
    → ((s : ℕ) (first : Bound) → slice_get b.symbols s ≡ Some first
    → (contains found s || (any_of (x ∷ rest) s && is_candidate b direct scope s first)) ≡ (any_of all s && is_candidate b direct scope s first))
    → AddsSymbols b found new (λ other first. nat_eq x.0 other && is_candidate b direct scope other first) → (s : ℕ) (first : Bound)
    → slice_get b.symbols s ≡ Some first
    → (contains new s || (any_of rest s && is_candidate b direct scope s first)) ≡ (any_of all s && is_candidate b direct scope s first)
candidate_more b direct found new scope x rest all so q s first is =
    ap (λ y. y || (any_of rest s && is_candidate b direct scope s first)) (q.adds s first is)
    ∙ joined (contains found s) (nat_eq x.0 s) (any_of rest s) (is_candidate b direct scope s first) ∙ so s first is
  where
    joined : (a b c d : Bool) → ((a || (b && d)) || (c && d)) ≡ (a || ((b || c) && d))
    joined true b c d = refl
    joined false true c true = refl
    joined false true true false = refl
    joined false true false false = refl
    joined false false c d = refl

pub candidate_all : (b : Bindings) (direct found list : List ℕ) (scope : ℕ) (all : List SymbolId) → list ≡ found
    → ((s : ℕ) (first : Bound) → slice_get b.symbols s ≡ Some first
    → (contains found s || (any_of [] s && is_candidate b direct scope s first)) ≡ (any_of all s && is_candidate b direct scope s first))
    → AddsSymbols b [] list (λ other first. any_of all other && is_candidate b direct scope other first)
candidate_all b direct found list scope all same so = record {
  adds = λ s first is. ap (λ l. contains l s) same ∙ or_none (contains found s) ∙ so s first is;
}

pub ruleset candidates_all = (candidate_more, candidate_all)

-- The marks that are opened in a list.
pub opened : (b : Bindings) (direct list : List ℕ) (l : StatementList) (bound : List SymbolId)
    → AddsSymbols b [] direct (λ s first. is_direct first.node.0 l.statements) → bound ≡ bindings_with_child_blocks b.scopes b.symbols l.scope
    → AddsSymbols b [] list (λ other first. any_of bound other && is_candidate b direct l.scope other first)
    → AddsSymbols b [] list (λ s first. is_hoistable first.kind && is_of_list b l s first)
opened b direct list l bound directs is q = record {
  adds = λ s first found.
      q.adds s first found
      ∙ ap (λ x. any_of x s && is_candidate b direct l.scope s first) is
      ∙ ap (λ x. any_of (bindings_with_child_blocks b.scopes b.symbols l.scope) s
      && (is_hoistable first.kind && (nat_eq (symbol_scope b.symbols s).0 l.scope || x))) (directs.adds s first found)
      ∙ swapped (any_of (bindings_with_child_blocks b.scopes b.symbols l.scope) s) (is_hoistable first.kind)
      (nat_eq (symbol_scope b.symbols s).0 l.scope || is_direct first.node.0 l.statements);
}
  where
    swapped : (a b c : Bool) → (a && (b && c)) ≡ (b && (a && c))
    swapped true b c = refl
    swapped false true c = refl
    swapped false false c = refl

-- The marks of a list are those of its statements, of what is opened in it.
pub list_marked : (b : Bindings) (names : Names) (opened : List ℕ) (m0 m1 : List Mark) (l : StatementList)
    → AddsSymbols b [] opened (λ s first. is_hoistable first.kind && is_of_list b l s first)
    → AddsMarks b m0 m1 (λ n s first. contains opened s && marks_in b names n s first l.statements)
    → AddsMarks b m0 m1 (λ n s first. marks_list b names n s first l)
list_marked b names opened m0 m1 l opens q = record {
  adds = λ n s first is.
      q.adds n s first is
      ∙ ap (λ x. is_marked m0 s n || (x && marks_in b names n s first l.statements)) (opens.adds s first is)
      ∙ ap (λ x. is_marked m0 s n || x)
      (of_if (is_hoistable first.kind && is_of_list b l s first) n (marker_among b names s first l.statements));
}
  where
    of_if : (c : Bool) (n : ℕ) (m : Option ℕ) → (c && of_item false (up_to n) m) ≡ of_item false (up_to n) (if c then m else None)
    of_if true n m = refl
    of_if false n m = refl

-- The lists that are left, behind those marked.
pub lists_more : (b : Bindings) (names : Names) (m new : List Mark) (l : StatementList) (rest all : List StatementList)
    → ((n s : ℕ) (first : Bound) → slice_get b.symbols s ≡ Some first
    → (is_marked m s n || list_any (marks_list b names n s first) (l ∷ rest)) ≡ list_any (marks_list b names n s first) all)
    → AddsMarks b m new (λ n s first. marks_list b names n s first l) → (n s : ℕ) (first : Bound) → slice_get b.symbols s ≡ Some first
    → (is_marked new s n || list_any (marks_list b names n s first) rest) ≡ list_any (marks_list b names n s first) all
lists_more b names m new l rest all so q n s first is =
    ap (λ x. x || list_any (marks_list b names n s first) rest) (q.adds n s first is)
    ∙ or_assoc (is_marked m s n) (marks_list b names n s first l) (list_any (marks_list b names n s first) rest) ∙ so n s first is
  where
    or_assoc : (a b c : Bool) → (a || b) || c ≡ a || (b || c)
    or_assoc true b c = refl
    or_assoc false b c = refl

pub lists_all : (b : Bindings) (names : Names) (m : List Mark) (all : List StatementList)
    → ((n s : ℕ) (first : Bound) → slice_get b.symbols s ≡ Some first
    → (is_marked m s n || list_any (marks_list b names n s first) []) ≡ list_any (marks_list b names n s first) all)
    → AddsMarks b [] m (λ n s first. list_any (marks_list b names n s first) all)
lists_all b names m all so = record { adds = λ n s first is. or_none (is_marked m s n) ∙ so n s first is }

pub ruleset lists = (lists_more, lists_all)
