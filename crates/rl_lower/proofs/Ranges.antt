-- Distinct numbers in a range are as many as it has place for.
use Rattle.std.proofs.Common.{◌≡◌, ℕ, zero, suc, ◌+◌, ◌<◌, ◌≤◌, inl, inr, Bool, true, false, if◌then◌else◌, nat_eq, nat_le, List, [], ◌∷◌}
use Rattle.std.proofs.Common.{length, refl, ap, subst, arith}
use Rattle.std.proofs.lemmas.Bool.Decides.{eqb_tells, leb_tells}
use Rattle.rl_base.proofs.DistinctLists.{IsIn, in_head, in_tail}
use Rattle.rl_base.specs.Distinct.{AreDistinct}
use Rattle.rl_lowered.proofs.Listed.{distinct_occurs}
use Rattle.rl_lowered.specs.Listing.{occurrences}

abbrev one_if : Bool → ℕ
one_if b = if b then 1 else 0

-- The numbers below a bound, counted.
abbrev below : (bound : ℕ) → List ℕ → ℕ
below bound [] = 0
below bound (x ∷ xs) = one_if (nat_le (suc x) bound) + below bound xs

below_none : (low : ℕ) (xs : List ℕ) → ((n : ℕ) → IsIn xs n → low ≤ n) → below low xs ≡ 0
below_none low [] from = refl
below_none low (x ∷ xs) from =
    let rest : below low xs ≡ 0 = below_none low xs (λ n h. from n (in_tail x xs n h)) in
    let first : low ≤ x = from x (in_head x xs) in
    elim (leb_tells (suc x) low) [
      | inl t ↦ (let under : suc x ≤ low = t.1 in absurd (omega (arith, first, under)))
      | inr t ↦ (let here : below low (x ∷ xs) ≡ 0 + below low xs =
          ap (λ (b : Bool). one_if b + below low xs) t.0 in omega (arith, here, rest))
    ]

below_all : (high : ℕ) (xs : List ℕ) → ((n : ℕ) → IsIn xs n → n < high) → below high xs ≡ length xs
below_all high [] under = refl
below_all high (x ∷ xs) under =
    let rest : below high xs ≡ length xs = below_all high xs (λ n h. under n (in_tail x xs n h)) in
    let first : x < high = under x (in_head x xs) in
    elim (leb_tells (suc x) high) [
      | inl t ↦ (let here : below high (x ∷ xs) ≡ 1 + below high xs =
          ap (λ (b : Bool). one_if b + below high xs) t.0 in omega (arith, here, rest))
      | inr t ↦ (let over : high < suc x = t.1 in absurd (omega (arith, first, over)))
    ]

below_step : (bound : ℕ) (xs : List ℕ) → below (suc bound) xs ≤ below bound xs + occurrences bound xs
below_step bound [] = omega arith
below_step bound (x ∷ xs) =
    let rest : below (suc bound) xs ≤ below bound xs + occurrences bound xs = below_step bound xs in
    let more : one_if (nat_le (suc x) (suc bound)) ≤ one_if (nat_le (suc x) bound) + one_if (nat_eq bound x) =
    elim (leb_tells (suc x) bound) [
      | inl t ↦ (let one : one_if (nat_le (suc x) bound) ≡ 1 = ap one_if t.0 in omega (arith, one, most (nat_le (suc x) (suc bound))))
      | inr t ↦ (let over : bound < suc x = t.1 in elim (eqb_tells bound x) [
        | inl e ↦ (let one : one_if (nat_eq bound x) ≡ 1 = ap one_if e.0 in omega (arith, one, most (nat_le (suc x) (suc bound))))
        | inr e ↦ elim (leb_tells (suc x) (suc bound)) [
          | inl u ↦ (let under : suc x ≤ suc bound = u.1 in let same : bound ≡ x = omega (arith, over, under) in absurd (e.1 same))
          | inr u ↦ (let none : one_if (nat_le (suc x) (suc bound)) ≡ 0 = ap one_if u.0 in omega (arith, none))
        ]
      ])
    ] in
    omega (arith, rest, more)
  where
    most : (b : Bool) → one_if b ≤ 1
    most true = omega arith
    most false = omega arith

below_few : (low count bound : ℕ) (xs : List ℕ) → bound ≡ count + low → ((n : ℕ) → IsIn xs n → low ≤ n)
    → ((n : ℕ) → occurrences n xs ≤ 1) → below bound xs ≤ count
below_few low zero bound xs is from once =
    let same : low ≡ bound = omega (arith, is) in
    let none : below bound xs ≡ 0 = subst (λ (n : ℕ). below n xs ≡ 0) same (below_none low xs from) in
    omega (arith, none)
below_few low (suc count) bound xs is from once =
    let same : suc (count + low) ≡ bound = omega (arith, is) in
    let rest : below (count + low) xs ≤ count = below_few low count (count + low) xs refl from once in
    let step : below (suc (count + low)) xs ≤ below (count + low) xs + occurrences (count + low) xs = below_step (count + low) xs in
    let last : occurrences (count + low) xs ≤ 1 = once (count + low) in
    let all : below (suc (count + low)) xs ≤ suc count = omega (arith, rest, step, last) in
    subst (λ (n : ℕ). below n xs ≤ suc count) same all

pub few_within : (low count : ℕ) (xs : List ℕ) → AreDistinct xs → ((n : ℕ) → IsIn xs n → (low ≤ n) × (n < count + low)) → length xs ≤ count
few_within low count xs distinct range =
    let few : below (count + low) xs ≤ count =
    below_few low count (count + low) xs refl (λ n h. (range n h).0) (distinct_occurs xs distinct) in
    let all : below (count + low) xs ≡ length xs = below_all (count + low) xs (λ n h. (range n h).1) in
    omega (arith, few, all)
