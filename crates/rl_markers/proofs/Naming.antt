-- The symbols that a statement names so that they get a marker.
use Rattle.std.proofs.Common.{◌≡◌, ℕ, nat_eq, nat_le, nat_lt, eqb-true, Bool, true, false, ◌&&◌, ◌||◌, not}
use Rattle.std.proofs.Common.{Some, None, List, [], ◌∷◌, ◌++◌, map, slice_get, ap, sym, refl, ◌∙◌}
use Rattle.std.specs.List.{list_any}
use Rattle.std.proofs.Math.Path.{subst}
use Rattle.rl_base.specs.declared.ids.SymbolId.{SymbolId}
use Rattle.rl_bindings.proofs.LookUps.{by_test}
use Rattle.rl_bindings.specs.declared.bindings.Bindings.{Bindings}
use Rattle.rl_bindings.specs.declared.event.Bound.{Bound}
use Rattle.rl_code.proofs.Flagging.{eq_swapped}
use Rattle.rl_worlds.proofs.Shared.{contains_append}
use Rattle.rl_context.specs.Context.{is_symbol}
use Rattle.rl_markers.specs.Named.{AddsSymbols, names_as}
use Rattle.rl_markers.specs.NodeSymbols.{AddsBetween, AreOf}
use Rattle.rl_markers.specs.Uses.{is_fundecl}
use Rattle.rl_markers.specs.declared.node_symbols.NodeSymbols.{NodeSymbols}
use Rattle.rl_model.specs.Code.{contains}
use Rattle.rl_model.specs.Hoisting as model
use Rattle.rl_model.specs.Hoisting.{Use, is_around, is_hoisted_kind, is_inner_use_of, is_named_early, is_use_of, uses_in}
use Rattle.rl_resolver.specs.Lookups.{symbol_of_reference}
use Rattle.rl_semantic.specs.Items.{of_item}
use Rattle.rl_syntax.specs.Syntax.{Syntax, Node, Pieces}
use Rattle.rl_syntax.specs.declared.numbered.At.{At}
use Rattle.rl_syntax.specs.declared.word.Word.{Word}
use Rattle.rl_syntax.specs.declared.word.Word.TheVariants as word

or_none : (b : Bool) → b ≡ b || false
or_none true = refl
or_none false = refl

or_assoc : (a b c : Bool) → (a || b) || c ≡ a || (b || c)
or_assoc true b c = refl
or_assoc false b c = refl

and_false : (b : Bool) → false ≡ b && false
and_false true = refl
and_false false = refl

pub contains_pushed : (xs : List ℕ) (x n : ℕ) → contains (xs ++ x ∷ []) n ≡ (contains xs n || nat_eq n x)
contains_pushed xs x n = contains_append xs (x ∷ []) n ∙ ap (λ b. contains xs n || b) (sym (or_none (nat_eq n x)))

-- Nothing is added where no symbol passes the test.
pub adds_none : (b : Bindings) (xs : List ℕ) (test : ℕ → Bound → Bool)
    → ((s : ℕ) (first : Bound) → slice_get b.symbols s ≡ Some first → false ≡ test s first) → AddsSymbols b xs xs test
adds_none b xs test none = record { adds = λ s first is. or_none (contains xs s) ∙ ap (λ x. contains xs s || x) (none s first is) }

-- A symbol is added where it alone passes the test.
adds_one : (b : Bindings) (xs : List ℕ) (x : ℕ) (test : ℕ → Bound → Bool)
    → ((s : ℕ) (first : Bound) → slice_get b.symbols s ≡ Some first → nat_eq s x ≡ test s first) → AddsSymbols b xs (xs ++ x ∷ []) test
adds_one b xs x test one = record {
  adds = λ s first is. contains_pushed xs x s ∙ ap (λ t. contains xs s || t) (one s first is);
}

pub adds_both : (b : Bindings) (xs ys zs : List ℕ) (p q r : ℕ → Bound → Bool) → AddsSymbols b xs ys p → AddsSymbols b ys zs q
    → ((s : ℕ) (first : Bound) → slice_get b.symbols s ≡ Some first → (p s first || q s first) ≡ r s first) → AddsSymbols b xs zs r
adds_both b xs ys zs p q r one other same = record {
  adds = λ s first is.
      other.adds s first is ∙ ap (λ x. x || q s first) (one.adds s first is) ∙ or_assoc (contains xs s) (p s first) (q s first)
      ∙ ap (λ x. contains xs s || x) (same s first is);
}

-- The kind of a symbol's first declaration.
abbrev hoisted_in : Bindings → ℕ → Bool
hoisted_in b s = of_item false (λ (d : Bound). is_hoisted_kind d.kind) (slice_get b.symbols s)

hoisted_is : (b : Bindings) (s : ℕ) (first : Bound) → slice_get b.symbols s ≡ Some first → hoisted_in b s ≡ is_hoisted_kind first.kind
hoisted_is b s first is = ap (of_item false (λ (d : Bound). is_hoisted_kind d.kind)) is

-- Of two numbers that are one, each has what the other has.
same_hoisted : (b : Bindings) (s x : ℕ) (first : Bound) (inner : Bool) → slice_get b.symbols s ≡ Some first
    → (nat_eq x s && (inner || hoisted_in b x)) ≡ (nat_eq x s && (inner || is_hoisted_kind first.kind))
same_hoisted b s x first inner is = by_test (nat_eq x s)
    (λ holds. let here : x ≡ s = eqb-true x s holds in
    ap (λ y. nat_eq x s && (inner || hoisted_in b y)) here ∙ ap (λ k. nat_eq x s && (inner || k)) (hoisted_is b s first is))
    (λ fails. ap (λ y. y && (inner || hoisted_in b x)) fails ∙ ap (λ y. y && (inner || is_hoisted_kind first.kind)) (sym fails))

use_is : (b : Bindings) (s : ℕ) (u : Use) (found : SymbolId) → Some found ≡ symbol_of_reference b.references u.reference
    → is_use_of b s u ≡ nat_eq found.0 s
use_is b s u found is = ap (is_symbol s) (sym is)

pub used_named : (b : Bindings) (xs : List ℕ) (u : Use) (found : SymbolId) → Some found ≡ symbol_of_reference b.references u.reference
    → (u.inner || hoisted_in b found.0) ≡ true → AddsSymbols b xs (xs ++ found.0 ∷ []) (λ s first. names_as b s first u)
used_named b xs u found is named = adds_one b xs found.0 (λ s first. names_as b s first u) (λ s first at.
    eq_swapped s found.0 ∙ and_true (nat_eq found.0 s) ∙ ap (λ x. nat_eq found.0 s && x) (sym named)
    ∙ same_hoisted b s found.0 first u.inner at ∙ ap (λ x. x && (u.inner || is_hoisted_kind first.kind)) (sym (use_is b s u found is)))
  where
    and_true : (x : Bool) → x ≡ (x && true)
    and_true true = refl
    and_true false = refl

pub used_unnamed : (b : Bindings) (xs : List ℕ) (u : Use) (found : SymbolId) → Some found ≡ symbol_of_reference b.references u.reference
    → (u.inner || hoisted_in b found.0) ≡ false → AddsSymbols b xs xs (λ s first. names_as b s first u)
used_unnamed b xs u found is unnamed = adds_none b xs (λ s first. names_as b s first u) (λ s first at.
    and_false (nat_eq found.0 s) ∙ ap (λ x. nat_eq found.0 s && x) (sym unnamed)
    ∙ same_hoisted b s found.0 first u.inner at ∙ ap (λ x. x && (u.inner || is_hoisted_kind first.kind)) (sym (use_is b s u found is)))

pub used_global : (b : Bindings) (xs : List ℕ) (u : Use) → None ≡ symbol_of_reference b.references u.reference
    → AddsSymbols b xs xs (λ s first. names_as b s first u)
used_global b xs u none = adds_none b xs (λ s first. names_as b s first u) (λ s first at.
    ap (λ o. is_symbol s o && (u.inner || is_hoisted_kind first.kind)) none)

pub ruleset used = (used_named, used_unnamed, used_global)

pub symbol_hoisted : (b : Bindings) (xs : List ℕ) (x : ℕ) → hoisted_in b x ≡ true
    → AddsSymbols b xs (xs ++ x ∷ []) (λ s first. nat_eq s x && is_hoisted_kind first.kind)
symbol_hoisted b xs x is = adds_one b xs x (λ s first. nat_eq s x && is_hoisted_kind first.kind) (λ s first at.
    and_true (nat_eq s x) ∙ ap (λ t. nat_eq s x && t) (sym is) ∙ ap (λ t. t && hoisted_in b x) (eq_swapped s x)
    ∙ same_hoisted b s x first false at ∙ ap (λ t. t && is_hoisted_kind first.kind) (eq_swapped x s))
  where
    and_true : (x : Bool) → x ≡ (x && true)
    and_true true = refl
    and_true false = refl

pub symbol_unhoisted : (b : Bindings) (xs : List ℕ) (x : ℕ) → hoisted_in b x ≡ false
    → AddsSymbols b xs xs (λ s first. nat_eq s x && is_hoisted_kind first.kind)
symbol_unhoisted b xs x not = adds_none b xs (λ s first. nat_eq s x && is_hoisted_kind first.kind) (λ s first at.
    and_false (nat_eq x s) ∙ ap (λ t. nat_eq x s && t) (sym not)
    ∙ same_hoisted b s x first false at ∙ ap (λ t. t && is_hoisted_kind first.kind) (eq_swapped x s))

pub ruleset hoisted = (symbol_hoisted, symbol_unhoisted)

-- All uses: those in inner functions, and of function declarations all.
uses_are : (b : Bindings) (s : ℕ) (first : Bound) (us : List Use)
    → list_any (names_as b s first) us
    ≡ (list_any (is_inner_use_of b s) us || (is_hoisted_kind first.kind && list_any (is_use_of b s) us))
uses_are b s first [] = and_false (is_hoisted_kind first.kind)
uses_are b s first (u ∷ us) =
    ap (λ x. names_as b s first u || x) (uses_are b s first us)
    ∙ spread (is_use_of b s u) u.inner (is_hoisted_kind first.kind) (list_any (is_inner_use_of b s) us) (list_any (is_use_of b s) us)
  where
    spread : (used inner kind x y : Bool) → ((used && (inner || kind)) || (x || (kind && y))) ≡ (((inner && used) || x) || (kind && (used || y)))
    spread true true true x y = refl
    spread true true false x y = refl
    spread true false true true y = refl
    spread true false true false y = refl
    spread true false false x y = refl
    spread false true true x y = refl
    spread false true false x y = refl
    spread false false true x y = refl
    spread false false false x y = refl

early_is : (b : Bindings) (s : ℕ) (first : Bound) (statement : Syntax) (us : List Use) (declared : Bool) → us ≡ uses_in false statement
    → declared ≡ (not (model.is_fundecl statement) && is_around first.node.0 statement)
    → (list_any (names_as b s first) us || (declared && is_hoisted_kind first.kind)) ≡ is_named_early b s first statement
early_is b s first statement us declared same is =
    ap (λ x. x || (declared && is_hoisted_kind first.kind)) (uses_are b s first us)
    ∙ joined (list_any (is_inner_use_of b s) us) (is_hoisted_kind first.kind) (list_any (is_use_of b s) us) declared
    ∙ ap (λ x. list_any (is_inner_use_of b s) us || (is_hoisted_kind first.kind && (list_any (is_use_of b s) us || x))) is
    ∙ ap (λ l. list_any (is_inner_use_of b s) l || (is_hoisted_kind first.kind && (list_any (is_use_of b s) l
    || (not (model.is_fundecl statement) && is_around first.node.0 statement)))) same
  where
    joined : (x kind y z : Bool) → ((x || (kind && y)) || (z && kind)) ≡ (x || (kind && (y || z)))
    joined true kind y z = refl
    joined false true true z = refl
    joined false true false true = refl
    joined false true false false = refl
    joined false false y true = refl
    joined false false y false = refl

fundecl_is : (at : At) (w : Word) (parts : Pieces) → model.is_fundecl (Node at w parts) ≡ is_fundecl w
fundecl_is at word.Fundecl parts = refl
fundecl_is at _ parts = refl

-- A function declaration: its uses alone.
pub early_function : (b : Bindings) (xs empty : List ℕ) (us : List Use) (tree : Syntax) (at : At) (w : Word) → empty ≡ []
    → us ≡ uses_in false tree → AddsSymbols b empty xs (λ s first. list_any (names_as b s first) us) → is_fundecl w ≡ true → (parts : Pieces)
    → tree ≡ Node at w parts → AddsSymbols b [] xs (λ s first. is_named_early b s first (Node at w parts))
early_function b xs empty us tree at w none same adds is parts node =
    subst (λ e. AddsSymbols b e xs (λ s first. is_named_early b s first (Node at w parts))) none
    (record {
      adds = λ s first found.
          adds.adds s first found ∙ ap (λ x. contains empty s || x)
          (or_none (list_any (names_as b s first) us)
          ∙ early_is b s first (Node at w parts) us false (same ∙ ap (uses_in false) node)
          (ap (λ x. not x && is_around first.node.0 (Node at w parts)) (sym (fundecl_is at w parts ∙ is))));
    })

-- Any other statement: its uses, and the function declarations in it.
pub early_other : (b : Bindings) (xs ys empty : List ℕ) (us : List Use) (tree : Syntax) (at : At) (w : Word) → empty ≡ []
    → us ≡ uses_in false tree → AddsSymbols b empty xs (λ s first. list_any (names_as b s first) us) → is_fundecl w ≡ false
    → AddsSymbols b xs ys (λ s first. (nat_le at.id.0 first.node.0 && nat_lt first.node.0 at.end.0) && is_hoisted_kind first.kind)
    → (parts : Pieces) → tree ≡ Node at w parts → AddsSymbols b [] ys (λ s first. is_named_early b s first (Node at w parts))
early_other b xs ys empty us tree at w none same adds not_function inside parts node =
    subst (λ e. AddsSymbols b e ys (λ s first. is_named_early b s first (Node at w parts))) none
    (adds_both b empty xs ys (λ s first. list_any (names_as b s first) us)
    (λ s first. (nat_le at.id.0 first.node.0 && nat_lt first.node.0 at.end.0) && is_hoisted_kind first.kind)
    (λ s first. is_named_early b s first (Node at w parts)) adds inside
    (λ s first found. early_is b s first (Node at w parts) us (nat_le at.id.0 first.node.0 && nat_lt first.node.0 at.end.0)
    (same ∙ ap (uses_in false) node)
    (ap (λ x. not x && is_around first.node.0 (Node at w parts)) (sym (fundecl_is at w parts ∙ not_function)))))

pub ruleset early = (early_function, early_other)

-- The uses that are left, behind those named.
pub uses_more : (b : Bindings) (old xs ys : List ℕ) (u : Use) (rest all : List Use)
    → ((s : ℕ) (first : Bound) → slice_get b.symbols s ≡ Some first
    → (contains xs s || list_any (names_as b s first) (u ∷ rest)) ≡ (contains old s || list_any (names_as b s first) all))
    → AddsSymbols b xs ys (λ s first. names_as b s first u) → (s : ℕ) (first : Bound) → slice_get b.symbols s ≡ Some first
    → (contains ys s || list_any (names_as b s first) rest) ≡ (contains old s || list_any (names_as b s first) all)
uses_more b old xs ys u rest all so q s first is =
    ap (λ x. x || list_any (names_as b s first) rest) (q.adds s first is)
    ∙ or_assoc (contains xs s) (names_as b s first u) (list_any (names_as b s first) rest) ∙ so s first is

pub uses_all : (b : Bindings) (old xs : List ℕ) (all : List Use)
    → ((s : ℕ) (first : Bound) → slice_get b.symbols s ≡ Some first
    → (contains xs s || list_any (names_as b s first) []) ≡ (contains old s || list_any (names_as b s first) all))
    → AddsSymbols b old xs (λ s first. list_any (names_as b s first) all)
uses_all b old xs all so = record { adds = λ s first is. or_none (contains xs s) ∙ so s first is }

pub ruleset uses = (uses_more, uses_all)

-- The symbols that are left, behind those of function declarations.
pub hoisted_more : (b : Bindings) (old xs ys : List ℕ) (x : ℕ) (rest all : List ℕ)
    → ((s : ℕ) (first : Bound) → slice_get b.symbols s ≡ Some first
    → (contains xs s || (contains (x ∷ rest) s && is_hoisted_kind first.kind))
    ≡ (contains old s || (contains all s && is_hoisted_kind first.kind)))
    → AddsSymbols b xs ys (λ s first. nat_eq s x && is_hoisted_kind first.kind) → (s : ℕ) (first : Bound) → slice_get b.symbols s ≡ Some first
    → (contains ys s || (contains rest s && is_hoisted_kind first.kind)) ≡ (contains old s || (contains all s && is_hoisted_kind first.kind))
hoisted_more b old xs ys x rest all so q s first is =
    ap (λ y. y || (contains rest s && is_hoisted_kind first.kind)) (q.adds s first is)
    ∙ joined (contains xs s) (nat_eq s x) (contains rest s) (is_hoisted_kind first.kind) ∙ so s first is
  where
    joined : (a b c d : Bool) → ((a || (b && d)) || (c && d)) ≡ (a || ((b || c) && d))
    joined true b c d = refl
    joined false true c true = refl
    joined false true true false = refl
    joined false true false false = refl
    joined false false c d = refl

pub hoisted_end : (b : Bindings) (old xs : List ℕ) (all : List ℕ)
    → ((s : ℕ) (first : Bound) → slice_get b.symbols s ≡ Some first
    → (contains xs s || (contains [] s && is_hoisted_kind first.kind)) ≡ (contains old s || (contains all s && is_hoisted_kind first.kind)))
    → AddsSymbols b old xs (λ s first. contains all s && is_hoisted_kind first.kind)
hoisted_end b old xs all so = record { adds = λ s first is. or_none (contains xs s) ∙ so s first is }

pub ruleset hoisted_all = (hoisted_more, hoisted_end)

pub inside : (b : Bindings) (table : NodeSymbols) (empty within xs ys : List ℕ) (start end : ℕ) → AreOf table b.symbols → empty ≡ []
    → AddsBetween table empty within start end → AddsSymbols b xs ys (λ s first. contains within s && is_hoisted_kind first.kind)
    → AddsSymbols b xs ys (λ s first. (nat_le start first.node.0 && nat_lt first.node.0 end) && is_hoisted_kind first.kind)
inside b table empty within xs ys start end are none q more = record {
  adds = λ s first is.
      more.adds s first is
      ∙ ap (λ x. contains xs s || (x && is_hoisted_kind first.kind))
      (q.adds b.symbols are s first is ∙ ap (λ l. contains l s || (nat_le start first.node.0 && nat_lt first.node.0 end)) none);
}

-- Items that were appended to nothing.
pub from_none : {X Y : Type 0} (f : X → Y) (empty : List X) (more new : List Y) → empty ≡ [] → new ≡ map f empty ++ more → new ≡ more
from_none f empty more new none e = e ∙ ap (λ l. map f l ++ more) none
