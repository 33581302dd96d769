-- A builder's blocks list each instruction once, if they did before a part and what was made since is listed once more.
use Rattle.std.proofs.Common.{◌≡◌, ℕ, zero, suc, ◌+◌, ◌<◌, ◌≤◌, inl, inr, Bool, true, false, if◌then◌else◌, nat_eq, nat_le, nat_lt, ◌&&◌}
use Rattle.std.proofs.Common.{List, [], ◌∷◌, length, Some, slice_get, refl, sym, ap, subst, arith, eq-eqb}
use Rattle.std.proofs.lemmas.Bool.{eqb-true}
use Rattle.std.proofs.lemmas.Bool.Decides.{leb_tells}
use Rattle.rl_base.proofs.DistinctLists.{IsIn, distinct_cons, distinct_head, distinct_none, distinct_tail}
use Rattle.rl_base.proofs.DistinctLists.{in_either, in_head, in_none, in_tail}
use Rattle.rl_base.specs.Distinct.{AreDistinct}
use Rattle.rl_builder.specs.Builder.{State}
use Rattle.rl_hir.specs.Numbered.{listed_in}
use Rattle.rl_lowered.proofs.Occurring.{within_low}
use Rattle.rl_lowered.specs.Listing.{ListsSince, ListsTable, all_listed, occurrences, one_within}
use Rattle.rl_order.proofs.NumberedOrders.{listed_below, numbers_below}
use Rattle.rl_runs.proofs.Listed.{listed_none, numbers}
use Rattle.rl_runs.specs.Listed.{IsListed}

within_most : (first end n : ℕ) → one_within first end n ≤ 1
within_most first end n = by_test (nat_le first n && nat_lt n end)
  where
    by_test : (b : Bool) → (if b then 1 else 0) ≤ 1
    by_test true = omega arith
    by_test false = omega arith

-- Numbers that stand in a list, and those that do not.

occurs_in : (n : ℕ) (xs : List ℕ) → IsIn xs n → 1 ≤ occurrences n xs
occurs_in n [] h = absurd (in_none n h)
occurs_in n (x ∷ xs) h = by_index h.index h.found (occurs_in n xs)
  where
    by_index : (index : ℕ) → slice_get (x ∷ xs) index ≡ Some n → (IsIn xs n → 1 ≤ occurrences n xs) → 1 ≤ occurrences n (x ∷ xs)
    by_index zero e rest =
        let same : n ≡ x = cc in
        let here : occurrences n (x ∷ xs) ≡ 1 + occurrences n xs =
        ap (λ (b : Bool). (if b then 1 else 0) + occurrences n xs) (eq-eqb n x same) in
        omega (arith, here)
    by_index (suc index) e rest = let more : 1 ≤ occurrences n xs = rest (record { index = index; found = e }) in omega (arith, more)

occurs_never : (n : ℕ) (xs : List ℕ) → (IsIn xs n → ⊥) → occurrences n xs ≡ 0
occurs_never n [] never = refl
occurs_never n (x ∷ xs) never = by_test (nat_eq n x) refl (occurs_never n xs (λ h. never (in_tail x xs n h)))
  where
    by_test : (b : Bool) → nat_eq n x ≡ b → occurrences n xs ≡ 0 → occurrences n (x ∷ xs) ≡ 0
    by_test true e rest = absurd (never (subst (λ (m : ℕ). IsIn (x ∷ xs) m) (sym (eqb-true n x e)) (in_head x xs)))
    by_test false e rest =
        let here : occurrences n (x ∷ xs) ≡ 0 + occurrences n xs = ap (λ (b : Bool). (if b then 1 else 0) + occurrences n xs) e in
        omega (arith, here, rest)

-- Distinct numbers occur at most once, and the other way around.

pub distinct_occurs : (xs : List ℕ) → AreDistinct xs → (n : ℕ) → occurrences n xs ≤ 1
distinct_occurs [] distinct n = omega arith
distinct_occurs (x ∷ xs) distinct n = by_test (nat_eq n x) refl (distinct_occurs xs (distinct_tail x xs distinct) n)
  where
    by_test : (b : Bool) → nat_eq n x ≡ b → occurrences n xs ≤ 1 → occurrences n (x ∷ xs) ≤ 1
    by_test true e rest =
        let same : n ≡ x = eqb-true n x e in
        let none : occurrences n xs ≡ 0 = occurs_never n xs (λ h. distinct_head x xs distinct (subst (λ (m : ℕ). IsIn xs m) same h)) in
        let here : occurrences n (x ∷ xs) ≡ 1 + occurrences n xs = ap (λ (b : Bool). (if b then 1 else 0) + occurrences n xs) e in
        omega (arith, none, here)
    by_test false e rest =
        let here : occurrences n (x ∷ xs) ≡ 0 + occurrences n xs = ap (λ (b : Bool). (if b then 1 else 0) + occurrences n xs) e in
        omega (arith, here, rest)

occurs_distinct : (xs : List ℕ) → ((n : ℕ) → occurrences n xs ≤ 1) → AreDistinct xs
occurs_distinct [] most = distinct_none
occurs_distinct (x ∷ xs) most =
    distinct_cons x xs (λ h. twice (occurs_in x xs h) (most x)) (occurs_distinct xs (λ n. fewer n (most n)))
  where
    twice : 1 ≤ occurrences x xs → occurrences x (x ∷ xs) ≤ 1 → ⊥
    twice more least =
        let here : occurrences x (x ∷ xs) ≡ 1 + occurrences x xs =
        ap (λ (b : Bool). (if b then 1 else 0) + occurrences x xs) (eq-eqb x x refl) in
        absurd (omega (arith, more, least, here))

    fewer : (n : ℕ) → occurrences n (x ∷ xs) ≤ 1 → occurrences n xs ≤ 1
    fewer n least = omega (arith, least)

pub lists_listed : (s t : State) → ListsSince s t → IsListed s → IsListed t
lists_listed s t k l = record {
  completed = within.completed;
  current = within.current;
  counted = omega (arith, k.counted, l.counted);
  once = occurs_distinct (all_listed t) most;
  unordered = k.unordered l.unordered;
  no_functions = k.no_functions l.no_functions;
  predecessors = k.predecessors l.predecessors;
}
  where
    within : ListsTable t
    within = k.within (record { completed = l.completed; current = l.current })

    below : (n : ℕ) → IsIn (all_listed s) n → n < length s.table
    below n h = elim (in_either (listed_in s.completed) (numbers s.current.instructions) n h) [
      | inl completed ↦ listed_below (length s.table) s.completed l.completed n completed
      | inr current ↦ numbers_below (length s.table) s.current.instructions l.current n current
    ]

    most : (n : ℕ) → occurrences n (all_listed t) ≤ 1
    most n = elim (leb_tells (length s.table) n) [
      | inr low ↦ omega (arith, k.once n, distinct_occurs (all_listed s) l.once n, within_low (length s.table) (length t.table) n low.1)
      | inl high ↦ (
          let none : occurrences n (all_listed s) ≡ 0 = occurs_never n (all_listed s) (λ h. absurd (omega (arith, below n h, high.1))) in
          omega (arith, k.once n, none, within_most (length s.table) (length t.table) n)
          )
    ]

-- From a builder that has neither blocks nor instructions on.
pub lists_whole : (s t : State) → s.completed ≡ [] → s.current.instructions ≡ [] → s.table ≡ [] → ListsSince s t → IsListed t
lists_whole s t completed instructions table k = lists_listed s t k (listed_none s completed instructions table)
