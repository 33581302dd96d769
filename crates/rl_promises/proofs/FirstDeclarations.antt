-- The first declaration of a symbol, the one by which it is known: where it stands, and that it is none of a type if another is none.
use Rattle.std.proofs.Common.{◌≡◌, ℕ, ◌+◌, zero, suc, Bool, true, false, true≢false, cond, ◌&&◌, ◌||◌, if◌then◌else◌, nat_eq, eq-eqb, ◌⊎◌, inl, inr, Option, Some, None, is_some, List, [], ◌∷◌, ◌++◌, slice_get, append_assoc, refl, sym, ap, subst, ◌∙◌, arith}
use Rattle.std.proofs.lemmas.Bool.{or_parts, or_right}
use Rattle.std.specs.List.{AllByRecursion, list_any, position_from}
use Rattle.rl_bindings.proofs.Checks.{knows-add}
use Rattle.rl_bindings.proofs.LookUps.{by_test}
use Rattle.rl_bindings.proofs.SymbolTables.{at_self, position-kept}
use Rattle.rl_bindings.specs.NameRules.{clashes, is_type, is_type_clash}
use Rattle.rl_bindings.specs.SymbolTables.{knows}
use Rattle.rl_bindings.specs.Symbols.{add, add_all, is_at, is_own, number_at, same}
use Rattle.rl_bindings.specs.declared.event.Bound.{Bound}
use Rattle.rl_names.proofs.FunctionScopes.{AreElsewhere, Splits}
use Rattle.rl_names.proofs.Items.{Has, each-append, each_has, each_weaker, has_cases, has_left, has_right}
use Rattle.rl_names.proofs.SymbolNumbers.{HasSymbol, IsPlaceOf, number_of_bound, place_of, symbol_declared}

-- Symbols keep their numbers as declarations are added.

added : (P : List Bound → Type 0) (symbols : List Bound) (b : Bound) → P symbols → P (symbols ++ b ∷ []) → P (add symbols b)
added P symbols b old new = chosen (knows symbols (is_own b.kind) b.scope.0 b.name)
  where
    chosen : (x : Bool) → P (if x then symbols else symbols ++ b ∷ [])
    chosen true = old
    chosen false = new

get_kept : (xs ys : List Bound) (k : ℕ) (x : Bound) → slice_get xs k ≡ Some x → slice_get (xs ++ ys) k ≡ Some x
get_kept [] ys k x is = absurd (cc)
get_kept (y ∷ xs) ys zero x is = is
get_kept (y ∷ xs) ys (suc k) x is = get_kept xs ys k x is

number_kept : (bs symbols : List Bound) (own : Bool) (s n k : ℕ) → number_at own s n symbols ≡ Some k
    → number_at own s n (add_all symbols bs) ≡ Some k
number_kept [] symbols own s n k is = is
number_kept (b ∷ bs) symbols own s n k is =
    number_kept bs (add symbols b) own s n k
    (added (λ l. number_at own s n l ≡ Some k) symbols b is (position-kept (is_at own s n) 0 k symbols (b ∷ []) is))

item_kept : (bs symbols : List Bound) (k : ℕ) (x : Bound) → slice_get symbols k ≡ Some x → slice_get (add_all symbols bs) k ≡ Some x
item_kept [] symbols k x is = is
item_kept (b ∷ bs) symbols k x is =
    item_kept bs (add symbols b) k x (added (λ l. slice_get l k ≡ Some x) symbols b is (get_kept symbols (b ∷ []) k x is))

all_append : (bs cs symbols : List Bound) → add_all symbols (bs ++ cs) ≡ add_all (add_all symbols bs) cs
all_append [] cs symbols = refl
all_append (b ∷ bs) cs symbols = all_append bs cs (add symbols b)

-- The number that a symbol has.
record HasNumber (symbols : List Bound) (b : Bound) : Type 0 where
  number : ℕ
  is : number_of_bound symbols b ≡ Some number

some_number : (symbols : List Bound) (b : Bound) (o : Option ℕ) → number_of_bound symbols b ≡ o → is_some o ≡ true → HasNumber symbols b
some_number symbols b None is some = absurd (true≢false (sym some))
some_number symbols b (Some n) is some = record { number = n; is = is }

has_number : (bs symbols : List Bound) (b : Bound) → Has bs b → HasNumber (add_all symbols bs) b
has_number [] symbols b has = absurd has
has_number (c ∷ bs) symbols b (inl is) =
    let known : knows (add symbols b) (is_own b.kind) b.scope.0 b.name ≡ true =
    knows-add symbols b (is_own b.kind) b.scope.0 b.name
    ∙ or_right (knows symbols (is_own b.kind) b.scope.0 b.name) (is_at (is_own b.kind) b.scope.0 b.name b) (at_self b) in
    let n = some_number (add symbols b) b (number_of_bound (add symbols b) b) refl known in
    subst (λ d. HasNumber (add_all (add symbols d) bs) b) is
    (record { number = n.number; is = number_kept bs (add symbols b) (is_own b.kind) b.scope.0 b.name n.number n.is })
has_number (c ∷ bs) symbols b (inr more) = has_number bs (add symbols c) b more

-- The item at the place that a look-up finds, of which the test is true.
record IsItem (test : Bound → Bool) (first place : ℕ) (xs : List Bound) : Type 0 where
  index : ℕ
  item : Bound
  is : first + index ≡ place
  there : slice_get xs index ≡ Some item
  passes : test item ≡ true

item_found : (test : Bound → Bool) (first place : ℕ) (xs : List Bound) → position_from test first xs ≡ Some place
    → IsItem test first place xs
item_found test first place [] found = absurd (cc)
item_found test first place (x ∷ xs) found = by_test (test x)
    (λ passes. record {
      index = 0;
      item = x;
      is = (let s : Some first ≡ Some place = sym (ap (λ b. cond b (Some first) (position_from test (first + 1) xs)) passes) ∙ found in
          let e : first ≡ place = cc in omega (arith, e));
      there = refl;
      passes = passes;
    })
    (λ fails.
    let later = sym (ap (λ b. cond b (Some first) (position_from test (first + 1) xs)) fails) ∙ found in
    let more = item_found test (first + 1) place xs later in
    record {
      index = suc more.index;
      item = more.item;
      is = (let e = more.is in omega (arith, e));
      there = more.there;
      passes = more.passes;
    })

-- In the scope `k` the declaration binds an own name, if it binds there.
abbrev pub IsOwnIn : (k : ℕ) → Bound → Type 0
IsOwnIn k b = b.scope.0 ≡ k → is_own b.kind ≡ true

-- Some declarations among others, before which the scope `k` has own names alone.
pub record Leads (k : ℕ) (all some : List Bound) : Type 0 where
  pub before : List Bound
  pub after : List Bound
  pub is : all ≡ before ++ (some ++ after)
  pub apart : AllByRecursion (IsOwnIn k) before

elsewhere_own : (k : ℕ) (bs : List Bound) → AreElsewhere k bs → AllByRecursion (IsOwnIn k) bs
elsewhere_own k bs all = each_weaker (λ b. b.scope.0 ≡ k → ⊥) (IsOwnIn k) bs (λ b other is. absurd (other is)) all

pub leads_of : (k : ℕ) (all some : List Bound) → Splits k all some → Leads k all some
leads_of k all some s = record {
  before = s.before;
  after = s.after;
  is = s.is;
  apart = elsewhere_own k s.before s.apart_before;
}

pub leads_before : (k : ℕ) (more all some : List Bound) → AllByRecursion (IsOwnIn k) more → Leads k all some
    → Leads k (more ++ all) some
leads_before k more all some apart l = record {
  before = more ++ l.before;
  after = l.after;
  is = ap (λ m. more ++ m) l.is ∙ sym (append_assoc more l.before (some ++ l.after));
  apart = each-append (IsOwnIn k) more l.before apart l.apart;
}

pub leads_after : (k : ℕ) (more all some : List Bound) → Leads k all some → Leads k (all ++ more) some
leads_after k more all some l = record {
  before = l.before;
  after = l.after ++ more;
  is = ap (λ m. m ++ more) l.is ∙ append_assoc l.before (some ++ l.after) more ∙ ap (λ m. l.before ++ m) (append_assoc some l.after more);
  apart = l.apart;
}

pub leads_further : (k : ℕ) (all some fewer : List Bound) → Splits k all some → Leads k some fewer → Leads k all fewer
leads_further k all some fewer s l =
    let own = elsewhere_own k s.before s.apart_before in
    let t = leads_before k s.before (some ++ s.after) fewer own (leads_after k s.after some fewer l) in
    record { before = t.before; after = t.after; is = s.is ∙ t.is; apart = t.apart }

-- Such declarations are some of the others.
pub has_lead : (k : ℕ) (all some : List Bound) (b : Bound) → Leads k all some → Has some b → Has all b
has_lead k all some b l has = subst (λ m. Has m b) (sym l.is) (has_right l.before (some ++ l.after) b (has_left some l.after b has))

-- The symbol of such a declaration, if that is no own name of the scope, is known by one of them.
pub first_leads : (k : ℕ) (all some : List Bound) (b : Bound) → Leads k all some → Has some b → b.scope.0 ≡ k → is_own b.kind ≡ false
    → (s : HasSymbol (add_all [] all) b) → Has some s.first
first_leads k all some b l has scope own s = elim (has_cases l.before some f.item declared) [
  | inl early ↦ absurd (true≢false (sym (each_has (IsOwnIn k) l.before f.item l.apart early (p.scope_is ∙ scope)) ∙ p.own_is ∙ own))
  | inr here ↦ subst (λ c. Has some c) item here
]
  where
    early : List Bound
    early = add_all [] (l.before ++ some)

    n : HasNumber early b
    n = has_number (l.before ++ some) [] b (has_right l.before some b has)

    f : IsItem (is_at (is_own b.kind) b.scope.0 b.name) 0 n.number early
    f = item_found (is_at (is_own b.kind) b.scope.0 b.name) 0 n.number early n.is

    at : f.index ≡ n.number
    at = let e = f.is in omega (arith, e)

    p : IsPlaceOf (is_own b.kind) b.scope.0 b.name f.item
    p = place_of (is_own b.kind) b.scope.0 b.name f.item f.passes

    declared : Has (l.before ++ some) f.item
    declared = symbol_declared (l.before ++ some) f.index f.item f.there

    whole : add_all [] all ≡ add_all early l.after
    whole = ap (add_all []) (l.is ∙ sym (append_assoc l.before some l.after)) ∙ all_append (l.before ++ some) l.after []

    number : s.number ≡ n.number
    number =
        let late : number_of_bound (add_all early l.after) b ≡ Some n.number =
        number_kept l.after early (is_own b.kind) b.scope.0 b.name n.number n.is in
        let both : Some s.number ≡ Some n.number = sym s.is ∙ ap (λ m. number_of_bound m b) whole ∙ late in
        cc

    item : f.item ≡ s.first
    item =
        let late : slice_get (add_all early l.after) f.index ≡ Some f.item = item_kept l.after early f.index f.item f.there in
        let there : slice_get (add_all [] all) s.number ≡ Some f.item =
        ap (slice_get (add_all [] all)) (number ∙ sym at) ∙ ap (λ m. slice_get m f.index) whole ∙ late in
        let both : Some f.item ≡ Some s.first = sym there ∙ s.there in
        cc

none_any : (test : Bound → Bool) (bs : List Bound) (b : Bound) → list_any test bs ≡ false → Has bs b → test b ≡ false
none_any test [] b none has = absurd has
none_any test (c ∷ bs) b none (inl is) = ap test is ∙ (or_parts (test c) (list_any test bs) none).0
none_any test (c ∷ bs) b none (inr more) = none_any test bs b (or_parts (test c) (list_any test bs) none).1 more

-- Declarations of which none clashes: each with those before it.
first_apart : (clash : Bound → Bound → Bool) (before bs : List Bound) (b c : Bound) → clashes clash before (c ∷ bs) ≡ false → Has before b
    → clash c b ≡ false
first_apart clash before bs b c none has =
    none_any (clash c) before b (or_parts (list_any (clash c) before) (clashes clash (before ++ c ∷ []) bs) none).0 has

rest_apart : (clash : Bound → Bound → Bool) (before bs : List Bound) (c : Bound) → clashes clash before (c ∷ bs) ≡ false
    → clashes clash (before ++ c ∷ []) bs ≡ false
rest_apart clash before bs c none = (or_parts (list_any (clash c) before) (clashes clash (before ++ c ∷ []) bs) none).1

later_apart : (clash : Bound → Bound → Bool) (before bs : List Bound) (b c : Bound) → clashes clash before bs ≡ false → Has before b
    → Has bs c
    → clash c b ≡ false
later_apart clash before [] b c none early late = absurd late
later_apart clash before (d ∷ bs) b c none early (inl is) = ap (λ x. clash x b) is ∙ first_apart clash before bs b d none early
later_apart clash before (d ∷ bs) b c none early (inr more) =
    later_apart clash (before ++ d ∷ []) bs b c (rest_apart clash before bs d none) (has_left before (d ∷ []) b early) more

-- Of two declarations the later one does not clash with the other.
apart_in : (clash : Bound → Bound → Bool) (before bs : List Bound) (b c : Bound) → clashes clash before bs ≡ false → Has bs b → Has bs c
    → (b ≡ c) ⊎ ((clash c b ≡ false) ⊎ (clash b c ≡ false))
apart_in clash before [] b c none one other = absurd one
apart_in clash before (d ∷ bs) b c none (inl one) (inl other) = inl (one ∙ sym other)
apart_in clash before (d ∷ bs) b c none (inl one) (inr other) =
    inr (inl (ap (clash c) one
    ∙ later_apart clash (before ++ d ∷ []) bs d c (rest_apart clash before bs d none) (has_right before (d ∷ []) d (inl refl)) other))
apart_in clash before (d ∷ bs) b c none (inr one) (inl other) =
    inr (inr (ap (clash b) other
    ∙ later_apart clash (before ++ d ∷ []) bs d b (rest_apart clash before bs d none) (has_right before (d ∷ []) d (inl refl)) one))
apart_in clash before (d ∷ bs) b c none (inr one) (inr other) =
    apart_in clash (before ++ d ∷ []) bs b c (rest_apart clash before bs d none) one other

at_either : (own there : Bool) → there ≡ true → ((same false own && there) || (same true own && there)) ≡ true
at_either true there is = is
at_either false there is = λ i. is i || false

-- Two declarations of one name in one scope clash, if one is of a type.
type_clash : (b c : Bound) → b.scope.0 ≡ c.scope.0 → b.name ≡ c.name → (is_type b.kind || is_type c.kind) ≡ true → is_type_clash c b ≡ true
type_clash b c scope name type =
    (λ i. at_either (is_own b.kind) (nat_eq b.scope.0 c.scope.0 && nat_eq b.name c.name) there i && (is_type c.kind || is_type b.kind))
    ∙ swapped (is_type b.kind) (is_type c.kind) type
  where
    there : (nat_eq b.scope.0 c.scope.0 && nat_eq b.name c.name) ≡ true
    there = λ i. eq-eqb b.scope.0 c.scope.0 scope i && eq-eqb b.name c.name name i

    swapped : (x y : Bool) → (x || y) ≡ true → (y || x) ≡ true
    swapped true true is = refl
    swapped true false is = refl
    swapped false true is = refl
    swapped false false is = is

-- The symbol of a declaration that is none of a type is known by such a one, if no type shares its name.
pub first_value : (all : List Bound) (b : Bound) → clashes is_type_clash [] all ≡ false → Has all b → is_type b.kind ≡ false
    → (s : HasSymbol (add_all [] all) b) → is_type s.first.kind ≡ false
first_value all b none has value s = by_test (is_type s.first.kind)
    (λ type. absurd (elim (apart_in is_type_clash [] all s.first b none (symbol_declared all s.number s.first s.there) has) [
      | inl is ↦ true≢false (sym type ∙ ap (λ x. is_type x.kind) is ∙ value)
      | inr apart ↦ elim apart [
        | inl one ↦ true≢false (sym (type_clash s.first b s.same_scope s.same_name (ap (λ x. x || is_type b.kind) type)) ∙ one)
        | inr other ↦ true≢false
            (sym (type_clash b s.first (sym s.same_scope) (sym s.same_name) (or_right (is_type b.kind) (is_type s.first.kind) type)) ∙ other)
      ]
    ]))
    (λ is. is)
