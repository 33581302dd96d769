-- The numbers of symbols: each symbol has that of its own declaration, and each declaration that of one symbol.
use Rattle.std.proofs.Common.{◌≡◌, ℕ, ◌+◌, ◌≤◌, ◌<◌, suc, Bool, true, false, cond, ◌&&◌, if◌then◌else◌, nat_eq, eqb-true, eq-eqb, true≢false, ◌⊎◌, inl, inr, Option, Some, None, is_some, List, [], ◌∷◌, ◌++◌, length, length-append, map, slice_get, refl, sym, ap, subst, ◌∙◌, arith}
use Rattle.std.proofs.lemmas.Bool.{ne_eqb}
use Rattle.std.specs.List.{position_from}
use Rattle.rl_bindings.specs.SymbolTables.{knows}
use Rattle.rl_bindings.specs.Symbols.{same, is_own, is_at, number_at, add, add_all}
use Rattle.rl_bindings.specs.Tables.{declared_by}
use Rattle.rl_bindings.specs.declared.event.Bound.{Bound}
use Rattle.rl_bindings.proofs.SymbolTables.{same_equal, both_left, both_right}
use Rattle.rl_semantic.specs.Buckets.{those}
use Rattle.rl_resolver.specs.Listed.{declaration_pair, of_first}
use Rattle.rl_resolver.specs.Lookups.{symbol_id}
use Rattle.rl_names.proofs.Declarations.{Ascends, ascends_end}
use Rattle.rl_bindings.proofs.LookUps.{by_test}
use Rattle.rl_names.proofs.Items.{Has, has_cases, has_item}

-- The place where an item is found that the test is true of.
pub record IsFound {X : Type 0} (test : X → Bool) (first place : ℕ) (xs : List X) : Type 0 where
  pub index : ℕ
  pub item : X
  pub is : first + index ≡ place
  pub there : slice_get xs index ≡ Some item
  pub passes : test item ≡ true

found_at : {X : Type 0} (test : X → Bool) (first place : ℕ) (xs : List X) → position_from test first xs ≡ Some place → IsFound test first place xs
found_at test first place [] found = absurd (cc)
found_at test first place (x ∷ xs) found = by_test (test x)
    (λ passes. record {
      index = 0;
      item = x;
      is = (let e : first ≡ place = (let s : Some first ≡ Some place = sym (ap (λ b. cond b (Some first) (position_from test (first + 1) xs)) passes) ∙ found in cc) in omega (arith, e));
      there = refl;
      passes = passes;
    })
    (λ fails. let more = found_at test (first + 1) place xs (sym (ap (λ b. cond b (Some first) (position_from test (first + 1) xs)) fails) ∙ found) in
    record { index = suc more.index; item = more.item; is = (let e = more.is in omega (arith, e)); there = more.there; passes = more.passes })

-- A declaration at a place: one with this scope and name, which is an own name or none.
pub record IsPlaceOf (own : Bool) (scope name : ℕ) (b : Bound) : Type 0 where
  pub own_is : is_own b.kind ≡ own
  pub scope_is : b.scope.0 ≡ scope
  pub name_is : b.name ≡ name

pub place_of : (own : Bool) (scope name : ℕ) (b : Bound) → is_at own scope name b ≡ true → IsPlaceOf own scope name b
place_of own scope name b at =
    let rest = both_right (same own (is_own b.kind)) (nat_eq b.scope.0 scope && nat_eq b.name name) at in
    record {
      own_is = same_equal own (is_own b.kind) (both_left (same own (is_own b.kind)) (nat_eq b.scope.0 scope && nat_eq b.name name) at);
      scope_is = eqb-true b.scope.0 scope (both_left (nat_eq b.scope.0 scope) (nat_eq b.name name) rest);
      name_is = eqb-true b.name name (both_right (nat_eq b.scope.0 scope) (nat_eq b.name name) rest);
    }

-- The number of the symbol that a declaration declares.
abbrev pub number_of_bound : List Bound → Bound → Option ℕ
number_of_bound symbols b = number_at (is_own b.kind) b.scope.0 b.name symbols

some_number : (o : Option ℕ) → is_some o ≡ true → (n : ℕ) × (o ≡ Some n)
some_number None some = absurd (true≢false (sym some))
some_number (Some n) some = (n, refl)

module _ (symbols : List Bound) (b : Bound) where
  add_known : knows symbols (is_own b.kind) b.scope.0 b.name ≡ true → add symbols b ≡ symbols
  add_known known = ap (λ (x : Bool). if x then symbols else symbols ++ b ∷ []) known

  add_new : knows symbols (is_own b.kind) b.scope.0 b.name ≡ false → add symbols b ≡ symbols ++ b ∷ []
  add_new new = ap (λ (x : Bool). if x then symbols else symbols ++ b ∷ []) new

  has_add : (c : Bound) → Has (add symbols b) c → Has symbols c ⊎ (c ≡ b)
  has_add c has = by_test (knows symbols (is_own b.kind) b.scope.0 b.name)
      (λ known. inl (subst (λ l. Has l c) (add_known known) has))
      (λ new. elim (has_cases symbols (b ∷ []) c (subst (λ l. Has l c) (add_new new) has)) [ inl before ↦ inl before | inr end ↦ elim end [ inl is ↦ inr is | inr none ↦ absurd none ] ])

  length_add : length (add symbols b) ≤ length symbols + 1
  length_add = by_test (knows symbols (is_own b.kind) b.scope.0 b.name)
      (λ known. let e = ap length (add_known known) in omega (arith, e))
      (λ new. let e = ap length (add_new new) in omega (arith, e, length-append symbols (b ∷ [])))

has_all : (bs symbols : List Bound) (c : Bound) → Has (add_all symbols bs) c → Has symbols c ⊎ Has bs c
has_all [] symbols c has = inl has
has_all (b ∷ bs) symbols c has = elim (has_all bs (add symbols b) c has) [
  | inl early ↦ elim (has_add symbols b c early) [ inl before ↦ inl before | inr is ↦ inr (inl is) ]
  | inr late ↦ inr (inr late)
]

-- A symbol is one of the declarations.
pub symbol_declared : (bs : List Bound) (k : ℕ) (b : Bound) → slice_get (add_all [] bs) k ≡ Some b → Has bs b
symbol_declared bs k b is = elim (has_all bs [] b (has_item (add_all [] bs) k b is)) [ inl none ↦ absurd none | inr has ↦ has ]

length_all : (bs symbols : List Bound) → length (add_all symbols bs) ≤ length symbols + length bs
length_all [] symbols = omega arith
length_all (b ∷ bs) symbols = let more = length_all bs (add symbols b) in let one = length_add symbols b in omega (arith, more, one)

-- There are at most as many symbols as declarations.
pub few_symbols : (bs : List Bound) → length (add_all [] bs) ≤ length bs
few_symbols bs = let few = length_all bs [] in omega (arith, few)

-- A symbol of a declaration's place, and its number.
pub record HasSymbol (symbols : List Bound) (b : Bound) : Type 0 where
  pub number : ℕ
  pub is : number_of_bound symbols b ≡ Some number
  pub first : Bound
  pub there : slice_get symbols number ≡ Some first
  pub same_name : first.name ≡ b.name
  pub same_scope : first.scope.0 ≡ b.scope.0

symbol_at : (symbols : List Bound) (b : Bound) (k : ℕ) → number_of_bound symbols b ≡ Some k → HasSymbol symbols b
symbol_at symbols b k is =
    let f = found_at (is_at (is_own b.kind) b.scope.0 b.name) 0 k symbols is in
    let p = place_of (is_own b.kind) b.scope.0 b.name f.item f.passes in
    let at : f.index ≡ k = (let e = f.is in omega (arith, e)) in
    record { number = k; is = is; first = f.item; there = subst (λ n. slice_get symbols n ≡ Some f.item) at f.there; same_name = p.name_is; same_scope = p.scope_is }

pub symbol_of : (symbols : List Bound) (b : Bound) → is_some (number_of_bound symbols b) ≡ true → HasSymbol symbols b
symbol_of symbols b known = let n = some_number (number_of_bound symbols b) known in symbol_at symbols b n.0 n.1

-- Declarations in order have their nodes in the range.
pub ascends_within : (low high : ℕ) (bs : List Bound) (b : Bound) → Ascends low high bs → Has bs b → (low ≤ b.node.0) × (b.node.0 < high)
ascends_within low high [] b rises has = absurd has
ascends_within low high (c ∷ bs) b rises (inl is) =
    let node : b.node.0 ≡ c.node.0 = ap (λ x. x.node.0) is in
    let first = rises.0 in
    let end = ascends_end (c.node.0 + 1) high bs rises.1 in
    (omega (arith, node, first), omega (arith, node, end))
ascends_within low high (c ∷ bs) b rises (inr more) =
    let inner = ascends_within (c.node.0 + 1) high bs b rises.1 more in
    let first = rises.0 in
    let low_inner = inner.0 in
    (omega (arith, first, low_inner), inner.1)

-- Among declarations of different nodes, the first one of a node is the node's.
pub declared_at : (symbols : List Bound) (low high : ℕ) (bs : List Bound) (b : Bound) → Ascends low high bs → Has bs b → of_first (those b.node.0 (map declaration_pair (map (declared_by symbols) bs))) ≡ symbol_id (number_of_bound symbols b)
declared_at symbols low high [] b rises has = absurd has
declared_at symbols low high (c ∷ bs) b rises (inl is) =
    let node : nat_eq c.node.0 b.node.0 ≡ true = eq-eqb c.node.0 b.node.0 (sym (ap (λ x. x.node.0) is)) in
    ap (λ (x : Bool). of_first (if x then symbol_id (number_of_bound symbols c) ∷ those b.node.0 (map declaration_pair (map (declared_by symbols) bs)) else those b.node.0 (map declaration_pair (map (declared_by symbols) bs)))) node
    ∙ ap (λ x. symbol_id (number_of_bound symbols x)) (sym is)
declared_at symbols low high (c ∷ bs) b rises (inr more) =
    let above = (ascends_within (c.node.0 + 1) high bs b rises.1 more).0 in
    let node : nat_eq c.node.0 b.node.0 ≡ false = ne_eqb c.node.0 b.node.0 (λ same. absurd (omega (arith, above, same))) in
    ap (λ (x : Bool). of_first (if x then symbol_id (number_of_bound symbols c) ∷ those b.node.0 (map declaration_pair (map (declared_by symbols) bs)) else those b.node.0 (map declaration_pair (map (declared_by symbols) bs)))) node
    ∙ declared_at symbols (c.node.0 + 1) high bs b rises.1 more
