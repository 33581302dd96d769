-- Of one candidate more than there are used names, one is free.
use Rattle.std.proofs.Common.{◌≡◌, ℕ, zero, suc, ◌+◌, ◌<◌, ◌≤◌, ◌^◌, Bool, true, false, cond, Option, Some, None, IsSome, is_some, List, [], ◌∷◌, ◌++◌, length, map, codes, true≢false, refl, sym, ap, subst, ◌∙◌, arith, length-append, below_more}
use Rattle.std.proofs.lemmas.Bool.{false_from_ne_true, true_from_ne_false}
use Rattle.std.proofs.lemmas.Cmp.{nat_list_eq_equiv}
use Rattle.std.proofs.lemmas.Fmt.{decimal_injective}
use Rattle.std.proofs.lemmas.List.{append_cancel_left, length-map}
use Rattle.std.proofs.lemmas.Map.Keys.{IsDistinct-cons}
use Rattle.std.proofs.lemmas.Map.Steps.{length-le_from_keys}
use Rattle.std.proofs.lemmas.Slice.Eq.{bytes_eq-Decides}
use Rattle.std.specs.Fmt.{decimal}
use Rattle.std.specs.List.{AllByRecursion, IsDistinct, list_any}
use Rattle.std.specs.Map.{lookup}
use Rattle.std.specs.Str.{bytes_eq}
use Rattle.rl_used_names.specs.Choosing.{is_free, IsFree, AllTaken, place_from, free_place, chosen, IsFirstFree}
use Rattle.rl_used_names.specs.UsedName.{user_of, candidate, UsedName}

-- No two candidates of a name are the same.
pub candidate-injective : (name : List ℕ) (j k : ℕ) → j < 2 ^ 64 → k < 2 ^ 64 → candidate name j ≡ candidate name k → j ≡ k
candidate-injective name zero zero _ _ same = refl
candidate-injective name zero (suc k) _ _ same = absurd (omega (arith, ap length same, length-append (name ++ codes "_") (decimal k), length-append name (codes "_")))
candidate-injective name (suc j) zero _ _ same = absurd (omega (arith, ap length same, length-append (name ++ codes "_") (decimal j), length-append name (codes "_")))
candidate-injective name (suc j) (suc k) j_small k_small same =
    ap suc (decimal_injective j k (omega arith) (omega arith) (append_cancel_left (name ++ codes "_") (decimal j) (decimal k) same))

-- The candidates before a place.
abbrev tried : List ℕ → ℕ → List (List ℕ)
tried name zero = []
tried name (suc place) = candidate name place ∷ tried name place

length-tried : (name : List ℕ) (place : ℕ) → length (tried name place) ≡ place
length-tried name zero = refl
length-tried name (suc place) = ap suc (length-tried name place)

differs : (name : List ℕ) (place before : ℕ) → place < 2 ^ 64 → before < place → bytes_eq (candidate name place) (candidate name before) ≡ false
differs name place before small le =
    false_from_ne_true _ (λ same. let equal : place ≡ before = candidate-injective name place before small (omega arith) ((bytes_eq-Decides _ _).0 same) in omega arith)

apart : (name : List ℕ) (place before : ℕ) → place < 2 ^ 64 → before ≤ place → AllByRecursion (λ y. bytes_eq (candidate name place) y ≡ false) (tried name before)
apart name place zero small le = tt
apart name place (suc before) small le = (differs name place before small (omega arith), apart name place before small (omega arith))

tried-distinct : (name : List ℕ) (place : ℕ) → place ≤ 2 ^ 64 → IsDistinct bytes_eq (tried name place)
unfolding IsDistinct
tried-distinct name zero small = tt
tried-distinct name (suc place) small = IsDistinct-cons bytes_eq (candidate name place) (tried name place) (apart name place place (omega arith) (omega arith)) (tried-distinct name place (omega arith))

-- A name that is not free has a user.
used_name : (used : List UsedName) (symbol : ℕ) (name : List ℕ) → is_free used symbol name ≡ false → IsSome (user_of used name)
used_name used symbol name taken = by (user_of used name) refl
  where
    by : (o : Option ℕ) → user_of used name ≡ o → IsSome (user_of used name)
    by None none = absurd (true≢false (rw none at taken))
    by (Some user) some = ap is_some some

tried-used : (used : List UsedName) (symbol : ℕ) (name : List ℕ) (place : ℕ) → AllTaken used symbol name place → (q : List ℕ) → list_any (bytes_eq q) (tried name place) ≡ true → IsSome (user_of used q)
tried-used used symbol name zero taken q among = absurd (true≢false (sym among))
tried-used used symbol name (suc place) taken q among = by (bytes_eq q (candidate name place)) refl (tried-used used symbol name place (λ before less. taken before (omega arith)) q)
  where
    by : (b : Bool) → bytes_eq q (candidate name place) ≡ b → (list_any (bytes_eq q) (tried name place) ≡ true → IsSome (user_of used q)) → IsSome (user_of used q)
    by true same earlier = subst (λ word. IsSome (user_of used word)) (sym ((bytes_eq-Decides _ _).0 same)) (used_name used symbol (candidate name place) (taken place (omega arith)))
    by false other earlier = earlier (rw other at among)

-- Used names as entries.
abbrev entry_of : UsedName → List ℕ × ℕ
entry_of u = (u.name, u.symbol)

lookup-entry_of : (used : List UsedName) (q : List ℕ) → lookup (bytes_eq q) (map entry_of used) ≡ user_of used q
lookup-entry_of [] q = refl
lookup-entry_of (u ∷ used) q = ap (λ rest. cond (bytes_eq q u.name) (Some u.symbol) rest) (lookup-entry_of used q)

-- The candidates that are taken, one after the other from the first, are no more than the used names.
pub taken-le-used : (used : List UsedName) (symbol : ℕ) (name : List ℕ) (place : ℕ) → place ≤ 2 ^ 64 → AllTaken used symbol name place → place ≤ length used
taken-le-used used symbol name place small taken =
    let most = length-le_from_keys nat_list_eq_equiv (tried name place) (map entry_of used) (tried-distinct name place small)
    (λ q among. subst (λ o. IsSome o) (sym (lookup-entry_of used q)) (tried-used used symbol name place taken q among)) in
    omega (arith, most, length-tried name place, length-map used entry_of)

-- The candidate after as many as there are used names is free.
pub last-free : (used : List UsedName) (symbol : ℕ) (name : List ℕ) → length used < 2 ^ 64 → AllTaken used symbol name (length used) → IsFirstFree used symbol name (length used)
last-free used symbol name small taken = record {
  free = true_from_ne_false _ (λ last. let more : length used + 1 ≤ length used = taken-le-used used symbol name (length used + 1) (omega arith) (below_more _ _ taken last) in omega arith);
  taken = taken;
}

place_from-first : (used : List UsedName) (symbol : ℕ) (name : List ℕ) (place more : ℕ) → place + more ≡ length used → length used < 2 ^ 64 → AllTaken used symbol name place → IsFirstFree used symbol name (place_from used symbol name place more)
place_from-first used symbol name place zero end small taken = subst (λ last. IsFirstFree used symbol name last) (sym at_end) (last-free used symbol name small (λ before less. taken before (omega arith)))
  where
    at_end : place ≡ length used
    at_end = omega arith
place_from-first used symbol name place (suc more) end small taken = by (is_free used symbol (candidate name place)) refl (place_from-first used symbol name (place + 1) more (omega arith) small)
  where
    by : (b : Bool) → is_free used symbol (candidate name place) ≡ b → (AllTaken used symbol name (place + 1) → IsFirstFree used symbol name (place_from used symbol name (place + 1) more))
        → IsFirstFree used symbol name (cond b place (place_from used symbol name (place + 1) more))
    by true free later = record { free = free; taken = taken }
    by false last later = later (below_more _ _ taken last)

-- The first free place is free, and no place before it is.
pub free_place-first : (used : List UsedName) (symbol : ℕ) (name : List ℕ) → length used < 2 ^ 64 → IsFirstFree used symbol name (free_place used symbol name)
free_place-first used symbol name small = place_from-first used symbol name 0 (length used) (omega arith) small (λ before less. absurd (omega arith))

-- The first place is unique.
pub first-unique : (used : List UsedName) (symbol : ℕ) (name : List ℕ) (j k : ℕ) → IsFirstFree used symbol name j → IsFirstFree used symbol name k → j ≡ k
first-unique used symbol name j k one other =
    let not_below : j < k → ⊥ = λ less. true≢false (sym one.free ∙ other.taken j less) in
    let not_above : k < j → ⊥ = λ less. true≢false (sym other.free ∙ one.taken k less) in
    omega arith

-- The candidate at the first free place is the one that is chosen.
pub chosen-first : (used : List UsedName) (symbol : ℕ) (name : List ℕ) (place : ℕ) → length used < 2 ^ 64 → IsFirstFree used symbol name place → candidate name place ≡ chosen used symbol name
unfolding chosen
chosen-first used symbol name place small first = ap (candidate name) (first-unique used symbol name place (free_place used symbol name) first (free_place-first used symbol name small))

-- The chosen candidate is free.
pub chosen-free : (used : List UsedName) (symbol : ℕ) (name : List ℕ) → length used < 2 ^ 64 → IsFree used symbol (chosen used symbol name)
unfolding chosen
chosen-free used symbol name small = (free_place-first used symbol name small).free

-- A name that is free is chosen itself.
pub chosen-own : (used : List UsedName) (symbol : ℕ) (name : List ℕ) → IsFree used symbol name → chosen used symbol name ≡ name
unfolding chosen
chosen-own used symbol name free = by (length used)
  where
    by : (count : ℕ) → candidate name (place_from used symbol name 0 count) ≡ name
    by zero = refl
    by (suc count) = ap (λ (test : Bool). candidate name (cond test 0 (place_from used symbol name (0 + 1) count))) free
