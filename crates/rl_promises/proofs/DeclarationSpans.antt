-- Declarations in a function of a unit have the spans of its nodes.
use Rattle.std.proofs.Common.{◌≡◌, ◌⊎◌, inl, inr, ℕ, zero, suc, ◌+◌, ◌<◌, ◌≤◌, Bool, true, false, true≢false, ◌||◌}
use Rattle.std.proofs.Common.{All, if◌then◌else◌, nat_eq, eqb-true}
use Rattle.std.proofs.Common.{Option, Some, None, List, [], ◌++◌, slice_get, refl, sym, ap, ◌∙◌, subst, arith}
use Rattle.std.proofs.lemmas.List.Folds.{list_any-append}
use Rattle.rl_ast.proofs.MarkedFunctions.{Inside, InsideOf, first_found}
use Rattle.rl_ast.specs.Marked.{first, marked_functions}
use Rattle.rl_ast.specs.Units.{IsOfGrammar}
use Rattle.rl_base.specs.declared.span.Span.{Span}
use Rattle.rl_bindings.specs.Events.{top}
use Rattle.rl_bindings.specs.Names.{names_in}
use Rattle.rl_bindings.specs.Roles.{below, outside, parts_ahead, role_of}
use Rattle.rl_bindings.specs.Symbols.{bounds}
use Rattle.rl_bindings.specs.Tables.{events_in, symbols_in}
use Rattle.rl_bindings.specs.declared.event.Bound.{Bound}
use Rattle.rl_bindings.specs.declared.names.Name.{Name}
use Rattle.rl_bindings.specs.declared.role.Above.{Above}
use Rattle.rl_bindings.specs.declared.role.Role.{Role}
use Rattle.rl_bindings.specs.declared.role.Role.TheVariants as role
use Rattle.rl_context.specs.Index.{declaration_span, declares as is_sited, is_declaration, span_among}
use Rattle.rl_context.specs.Roles as context
use Rattle.rl_context.specs.Sites.{is_class, site_of, sites, sites_among, sites_from, sites_in, wrapped_site}
use Rattle.rl_context.specs.declared.role.Above.{Above as SiteAbove}
use Rattle.rl_context.specs.declared.role.Role.{Role as SiteRole}
use Rattle.rl_context.specs.declared.role.Role.TheVariants as site_role
use Rattle.rl_context.specs.declared.role.Target.{Target}
use Rattle.rl_context.specs.declared.role.Target.TheVariants as target
use Rattle.rl_context.specs.declared.site.Site.{Site}
use Rattle.rl_context.specs.declared.site.Wrapper.{Wrapper}
use Rattle.rl_names.proofs.Declarations.{declared_by_nodes, declares, declares_among, own}
use Rattle.rl_names.proofs.Items.{Has, has_cases}
use Rattle.rl_names.proofs.SymbolNumbers.{symbol_declared}
use Rattle.rl_names.specs.Functions.{parameters_of}
use Rattle.rl_names.specs.Names.{Names, function_names}
use Rattle.rl_promises.proofs.LocalVariables.{has_sited}
use Rattle.rl_promises.specs.Covered.{IsCoveredFunction}
use Rattle.rl_promises.specs.KnownSpans.{KnowsSpans}
use Rattle.rl_promises.specs.Spans.{IsSpanAmong, IsSpanOf}
use Rattle.rl_resolver.specs.Kinds.{has_identifier}
use Rattle.rl_resolver.specs.Lookups.{identified}
use Rattle.rl_semantic.specs.Items.{of_item}
use Rattle.rl_semantic.specs.Rules.{least_broken}
use Rattle.rl_syntax.specs.Syntax.{Syntax, Node, Listed, Said, Count, Flag, Absent, Pieces, End, Then, IsPlaced, ArePlaced}
use Rattle.rl_syntax.specs.Syntax.{behind, inside, next_byte, nodes, nodes_of, outset}
use Rattle.rl_syntax.specs.declared.numbered.At.{At}
use Rattle.rl_syntax.specs.declared.numbered.Position.{Position}
use Rattle.rl_syntax.specs.declared.word.Word.{Word}

-- Nodes by their ids

abbrev mutual
  -- A node of the tree has the id and the span.
  HasNode : (id : ℕ) → Span → Syntax → Type 0
  HasNode id span (Node at w parts) = ((at.id.0 ≡ id) × (at.span ≡ span)) ⊎ HasNodeAmong id span parts
  HasNode id span (Listed parts) = HasNodeAmong id span parts
  HasNode id span (Said text) = ⊥
  HasNode id span (Count number) = ⊥
  HasNode id span (Flag flag) = ⊥
  HasNode id span Absent = ⊥

  -- As `HasNode`, for parts in a row.
  HasNodeAmong : (id : ℕ) → Span → Pieces → Type 0
  HasNodeAmong id span End = ⊥
  HasNodeAmong id span (Then piece pieces) = HasNode id span piece ⊎ HasNodeAmong id span pieces

module _ (id : ℕ) (span : Span) where
  mutual
    node_span : (t : Syntax) → HasNode id span t → IsSpanOf t span
    node_span (Node at w parts) (inl own) = inl own.1
    node_span (Node at w parts) (inr more) = inr (node_span_among parts more)
    node_span (Listed parts) has = node_span_among parts has
    node_span (Said text) has = absurd has
    node_span (Count number) has = absurd has
    node_span (Flag flag) has = absurd has
    node_span Absent has = absurd has

    node_span_among : (ps : Pieces) → HasNodeAmong id span ps → IsSpanAmong ps span
    node_span_among End has = absurd has
    node_span_among (Then p ps) (inl here) = inl (node_span p here)
    node_span_among (Then p ps) (inr there) = inr (node_span_among ps there)

  mutual
    node_inside : (t f : Syntax) → Inside f t → HasNode id span f → HasNode id span t
    node_inside (Node at w parts) f (inl same) has = subst (HasNode id span) same has
    node_inside (Node at w parts) f (inr more) has = inr (node_inside_of parts f more has)
    node_inside (Listed parts) f i has = node_inside_of parts f i has
    node_inside (Said text) f i has = absurd i
    node_inside (Count number) f i has = absurd i
    node_inside (Flag flag) f i has = absurd i
    node_inside Absent f i has = absurd i

    node_inside_of : (ps : Pieces) (f : Syntax) → InsideOf f ps → HasNode id span f → HasNodeAmong id span ps
    node_inside_of End f i has = absurd i
    node_inside_of (Then p ps) f (inl here) has = inl (node_inside p f here has)
    node_inside_of (Then p ps) f (inr there) has = inr (node_inside_of ps f there has)

  mutual
    -- Nodes of a placed tree have ids in its range.
    node_within : (t : Syntax) (from : Position) → IsPlaced from t → HasNode id span t
        → (from.node ≤ id) × (id < from.node + nodes t)
    node_within (Node at w parts) from placed (inl own) =
        let number : at.id.0 ≡ from.node = placed.0.number in
        let is : at.id.0 ≡ id = own.0 in
        (omega (arith, number, is), omega (arith, number, is))
    node_within (Node at w parts) from placed (inr more) =
        let within = node_within_among parts (inside from w) placed.1 more in
        let low : from.node + 1 ≤ id = within.0 in
        let high : id < from.node + 1 + nodes_of parts = within.1 in
        (omega (arith, low), omega (arith, high))
    node_within (Listed parts) from placed has = node_within_among parts from placed has
    node_within (Said text) from placed has = absurd has
    node_within (Count number) from placed has = absurd has
    node_within (Flag flag) from placed has = absurd has
    node_within Absent from placed has = absurd has

    node_within_among : (ps : Pieces) (from : Position) → ArePlaced from ps → HasNodeAmong id span ps
        → (from.node ≤ id) × (id < from.node + nodes_of ps)
    node_within_among End from placed has = absurd has
    node_within_among (Then p ps) from placed (inl here) =
        let within = node_within p (next_byte from) placed.0 here in
        let low : from.node ≤ id = within.0 in
        let high : id < from.node + nodes p = within.1 in
        (omega (arith, low), omega (arith, high))
    node_within_among (Then p ps) from placed (inr there) =
        let within = node_within_among ps (behind (next_byte from) p) placed.1 there in
        let low : from.node + nodes p ≤ id = within.0 in
        let high : id < from.node + nodes p + nodes_of ps = within.1 in
        (omega (arith, low), omega (arith, high))

-- Two nodes of a placed tree with one id have one span.
module _ (id : ℕ) (one other : Span) where
  mutual
    node_once : (t : Syntax) (from : Position) → IsPlaced from t → HasNode id one t → HasNode id other t → one ≡ other
    node_once (Node at w parts) from placed (inl x) (inl y) = sym x.1 ∙ y.1
    node_once (Node at w parts) from placed (inl x) (inr y) =
        let number : at.id.0 ≡ from.node = placed.0.number in
        let is : at.id.0 ≡ id = x.0 in
        let low : from.node + 1 ≤ id = (node_within_among id other parts (inside from w) placed.1 y).0 in
        absurd (omega (arith, number, is, low))
    node_once (Node at w parts) from placed (inr x) (inl y) =
        let number : at.id.0 ≡ from.node = placed.0.number in
        let is : at.id.0 ≡ id = y.0 in
        let low : from.node + 1 ≤ id = (node_within_among id one parts (inside from w) placed.1 x).0 in
        absurd (omega (arith, number, is, low))
    node_once (Node at w parts) from placed (inr x) (inr y) = node_once_among parts (inside from w) placed.1 x y
    node_once (Listed parts) from placed x y = node_once_among parts from placed x y
    node_once (Said text) from placed x y = absurd x
    node_once (Count number) from placed x y = absurd x
    node_once (Flag flag) from placed x y = absurd x
    node_once Absent from placed x y = absurd x

    node_once_among : (ps : Pieces) (from : Position) → ArePlaced from ps → HasNodeAmong id one ps → HasNodeAmong id other ps → one ≡ other
    node_once_among End from placed x y = absurd x
    node_once_among (Then p ps) from placed (inl x) (inl y) = node_once p (next_byte from) placed.0 x y
    node_once_among (Then p ps) from placed (inl x) (inr y) =
        let high : id < from.node + nodes p = (node_within id one p (next_byte from) placed.0 x).1 in
        let low : from.node + nodes p ≤ id = (node_within_among id other ps (behind (next_byte from) p) placed.1 y).0 in
        absurd (omega (arith, high, low))
    node_once_among (Then p ps) from placed (inr x) (inl y) =
        let high : id < from.node + nodes p = (node_within id other p (next_byte from) placed.0 y).1 in
        let low : from.node + nodes p ≤ id = (node_within_among id one ps (behind (next_byte from) p) placed.1 x).0 in
        absurd (omega (arith, high, low))
    node_once_among (Then p ps) from placed (inr x) (inr y) = node_once_among ps (behind (next_byte from) p) placed.1 x y

-- The sites of a function are nodes of it

either_true : (x y : Bool) → (x || y) ≡ true → (x ≡ true) ⊎ (y ≡ true)
either_true true y is = inl refl
either_true false y is = inr is

either_sited : (id : ℕ) (ss ts : List Site) → is_sited id (ss ++ ts) ≡ true → (is_sited id ss ≡ true) ⊎ (is_sited id ts ≡ true)
either_sited id ss ts is =
    either_true (is_sited id ss) (is_sited id ts) (sym (list_any-append (is_declaration id) ss ts) ∙ is)

wrapped_none : (id : ℕ) (t : Target) (span : Span) (w : Wrapper) → is_sited id (wrapped_site t span w) ≡ false
wrapped_none id target.Nothing span w = refl
wrapped_none id (target.Assignment assignment) span w = refl
wrapped_none id target.Update span w = refl

own_sited : (id : ℕ) (r : SiteRole) (a : SiteAbove) (at : At) → is_sited id (site_of r a at) ≡ true → at.id.0 ≡ id
own_sited id site_role.Reference a at is = absurd (true≢false (sym is))
own_sited id site_role.Declaration a at is = by (nat_eq at.id.0 id) refl is
  where
    by : (b : Bool) → nat_eq at.id.0 id ≡ b → (b || false) ≡ true → at.id.0 ≡ id
    by true same is = eqb-true at.id.0 id same
    by false same is = absurd (true≢false (sym is))
own_sited id (site_role.Wrapper w) a at is = absurd (true≢false (sym is ∙ wrapped_none id a.target at.span w))
own_sited id site_role.Class a at is = absurd (true≢false (sym is))
own_sited id site_role.Plain a at is = absurd (true≢false (sym is))

-- Sites of a class are none.
sited_else : (id : ℕ) (b : Bool) (ss : List Site) → is_sited id (if b then [] else ss) ≡ true → is_sited id ss ≡ true
sited_else id true ss is = absurd (true≢false (sym is))
sited_else id false ss is = is

module _ (id : ℕ) where
  mutual
    sited_node : (t : Syntax) (a : SiteAbove) → is_sited id (sites a t) ≡ true → (span : Span) × HasNode id span t
    sited_node (Node at w parts) a is =
        let own = site_of (context.role_of w) a at in
        let rest = sites_from a at w 0 parts in
        elim (either_sited id own rest (sited_else id (is_class (context.role_of w)) (own ++ rest) is)) [
          | inl here ↦ (at.span, inl (own_sited id (context.role_of w) a at here, refl))
          | inr there ↦ (let part = sited_from parts a at w 0 there in (part.0, inr part.1))
        ]
    sited_node (Listed parts) a is = sited_among parts a is
    sited_node (Said text) a is = absurd (true≢false (sym is))
    sited_node (Count number) a is = absurd (true≢false (sym is))
    sited_node (Flag flag) a is = absurd (true≢false (sym is))
    sited_node Absent a is = absurd (true≢false (sym is))

    sited_from : (ps : Pieces) (a : SiteAbove) (at : At) (w : Word) (index : ℕ) → is_sited id (sites_from a at w index ps) ≡ true
        → (span : Span) × HasNodeAmong id span ps
    sited_from End a at w index is = absurd (true≢false (sym is))
    sited_from (Then p ps) a at w index is =
        elim (either_sited id (sites (context.below a at w index) p) (sites_from a at w (index + 1) ps) is) [
          | inl here ↦ (let part = sited_node p (context.below a at w index) here in (part.0, inl part.1))
          | inr there ↦ (let part = sited_from ps a at w (index + 1) there in (part.0, inr part.1))
        ]

    sited_among : (ps : Pieces) (a : SiteAbove) → is_sited id (sites_among a ps) ≡ true → (span : Span) × HasNodeAmong id span ps
    sited_among End a is = absurd (true≢false (sym is))
    sited_among (Then p ps) a is =
        elim (either_sited id (sites a p) (sites_among a ps) is) [
          | inl here ↦ (let part = sited_node p a here in (part.0, inl part.1))
          | inr there ↦ (let part = sited_among ps a there in (part.0, inr part.1))
        ]

  sited_in : (f : Syntax) → is_sited id (sites_in f) ≡ true → (span : Span) × HasNode id span f
  sited_in (Node at w parts) is = (let part = sited_among parts context.top is in (part.0, inr part.1))
  sited_in (Listed parts) is = absurd (true≢false (sym is))
  sited_in (Said text) is = absurd (true≢false (sym is))
  sited_in (Count number) is = absurd (true≢false (sym is))
  sited_in (Flag flag) is = absurd (true≢false (sym is))
  sited_in Absent is = absurd (true≢false (sym is))

-- The declarations of a tree are nodes of it

module _ (names : List Name) (b : Bound) where
  own_node : (r : Role) (a : Above) (at : At) (ps : Pieces) → Has (own names r a at ps) b → (at.id.0 ≡ b.node.0) × (at.span ≡ b.span)
  own_node role.Binder a at ps (inl is) = (ap (λ (c : Bound). c.node.0) (sym is), ap (λ (c : Bound). c.span) (sym is))
  own_node role.Binder a at ps (inr more) = absurd more
  own_node role.Maker a at ps has = absurd has
  own_node role.User a at ps has = absurd has
  own_node role.Plain a at ps has = absurd has

  mutual
    declared_node : (t : Syntax) (a : Above) → Has (declares names a t) b → HasNode b.node.0 b.span t
    declared_node (Node at w ps) a has =
        elim (has_cases (own names (role_of w) a at ps) (declares_among names (parts_ahead w) (outside a w) (below a at w ps) ps) b has) [
          | inl here ↦ inl (own_node (role_of w) a at ps here)
          | inr there ↦ inr (declared_among ps (parts_ahead w) (outside a w) (below a at w ps) there)
        ]
    declared_node (Listed ps) a has = declared_among ps zero a a has
    declared_node (Said text) a has = absurd has
    declared_node (Count number) a has = absurd has
    declared_node (Flag flag) a has = absurd has
    declared_node Absent a has = absurd has

    declared_among : (ps : Pieces) (n : ℕ) (ahead within : Above) → Has (declares_among names n ahead within ps) b
        → HasNodeAmong b.node.0 b.span ps
    declared_among End n ahead within has = absurd has
    declared_among (Then p ps) zero ahead within has =
        elim (has_cases (declares names within p) (declares_among names zero ahead within ps) b has) [
          | inl here ↦ inl (declared_node p within here)
          | inr there ↦ inr (declared_among ps zero ahead within there)
        ]
    declared_among (Then p ps) (suc n) ahead within has =
        elim (has_cases (declares names ahead p) (declares_among names n ahead within ps) b has) [
          | inl here ↦ inl (declared_node p ahead here)
          | inr there ↦ inr (declared_among ps n ahead within there)
        ]

-- In a unit, the declarations that stand in a function have the spans of its nodes.
pub knows_spans : (u f : Syntax) → IsPlaced outset u → Inside f u → (names : Names)
    → All (λ p. declaration_span (sites_in f) (symbols_in u) p.symbol.0 ≡ Some p.declaration) (parameters_of names f)
    → KnowsSpans names (symbols_in u) f
knows_spans u f placed there names params = record {
  spanned = λ symbol span is. by_bound symbol span (slice_get (symbols_in u) symbol) refl is;
  params = params;
}
  where
    declared : (b : Bound) → Has (bounds (events_in u)) b → is_sited b.node.0 (sites_in f) ≡ true → IsSpanOf f b.span
    declared b has sited =
        let node = sited_in b.node.0 f sited in
        let own : HasNode b.node.0 b.span u =
        declared_node (names_in u) b u top (subst (λ (l : List Bound). Has l b) (declared_by_nodes (names_in u) u top) has) in
        let same : node.0 ≡ b.span =
        node_once b.node.0 node.0 b.span u outset placed (node_inside b.node.0 node.0 u f there node.1) own in
        subst (IsSpanOf f) same (node_span b.node.0 node.0 f node.1)

    by_site : (span : Span) (b : Bound) (sited : Bool) → Has (bounds (events_in u)) b → is_sited b.node.0 (sites_in f) ≡ sited
        → (if sited then Some b.span else None) ≡ Some span → IsSpanOf f span
    by_site span b true has sited is = let same : b.span ≡ span = cc in subst (IsSpanOf f) same (declared b has sited)
    by_site span b false has sited is = absurd (cc)

    by_kind : (span : Span) (b : Bound) (identified : Bool) → Has (bounds (events_in u)) b
        → of_item None (span_among (sites_in f)) (if identified then Some b else None) ≡ Some span → IsSpanOf f span
    by_kind span b true has is = by_site span b (is_sited b.node.0 (sites_in f)) has refl is
    by_kind span b false has is = absurd (cc)

    by_bound : (symbol : ℕ) (span : Span) (o : Option Bound) → slice_get (symbols_in u) symbol ≡ o
        → of_item None (span_among (sites_in f)) (of_item None identified o) ≡ Some span → IsSpanOf f span
    by_bound symbol span None at is = absurd (cc)
    by_bound symbol span (Some b) at is =
        by_kind span b (has_identifier b.kind) (symbol_declared (bounds (events_in u)) symbol b at) is

-- In a unit, the declarations that stand in its marked function have the spans of the function's nodes.
pub marked_spans : (u f : Syntax) → IsOfGrammar u → IsPlaced outset u → nodes u ≤ 65536 → least_broken u ≡ None
    → first (marked_functions u) ≡ Some f → IsCoveredFunction f → KnowsSpans (function_names u f) (symbols_in u) f
marked_spans u f grammar placed few kept found covered =
    knows_spans u f placed (first_found u f found).0 (function_names u f) (has_sited u f grammar placed few kept found covered)
