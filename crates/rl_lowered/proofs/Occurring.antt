-- Numbers in lists: how often they occur, and which of them stand between two bounds.
use Rattle.std.proofs.Common.{◌≡◌, ℕ, ◌+◌, ◌<◌, ◌≤◌, inl, inr, ◌&&◌, ◌++◌, Bool, true, false, if◌then◌else◌, nat_le, nat_lt}
use Rattle.std.proofs.Common.{List, [], ◌∷◌, refl, sym, ap, ◌∙◌, arith, eq-eqb}
use Rattle.std.proofs.lemmas.Bool.{le-leb, lt-leb, lt-ltb, le-ltb, ne_eqb}
use Rattle.std.proofs.lemmas.Bool.Decides.{leb_tells}
use Rattle.std.proofs.lemmas.List.{map-append}
use Rattle.rl_base.specs.declared.ids.InstructionId.{InstructionId}
use Rattle.rl_hir.specs.Blocks.{Pair as BlockPair}
use Rattle.rl_hir.specs.Numbered.{listed_in}
use Rattle.rl_lowered.specs.Listing.{occurrences, one_within}
use Rattle.rl_runs.proofs.Listed.{numbers}

-- Numbers within bounds.

pub within_low : (first end n : ℕ) → n < first → one_within first end n ≡ 0
within_low first end n low = ap (λ (b : Bool). if b && nat_lt n end then 1 else 0) (lt-leb first n low)

pub within_high : (first end n : ℕ) → end ≤ n → one_within first end n ≡ 0
within_high first end n high = by_test (nat_le first n) refl
  where
    by_test : (b : Bool) → nat_le first n ≡ b → one_within first end n ≡ 0
    by_test true e = ap (λ (b : Bool). if b && nat_lt n end then 1 else 0) e ∙ ap (λ (b : Bool). if b then 1 else 0) (le-ltb n end high)
    by_test false e = ap (λ (b : Bool). if b && nat_lt n end then 1 else 0) e

pub within_both : (first end n : ℕ) → first ≤ n → n < end → one_within first end n ≡ 1
within_both first end n low high =
    ap (λ (b : Bool). if b && nat_lt n end then 1 else 0) (le-leb first n low) ∙ ap (λ (b : Bool). if b then 1 else 0) (lt-ltb n end high)

-- No number is from an end on below it.
pub within_none : (end n : ℕ) → one_within end end n ≡ 0
within_none end n = elim (leb_tells end n) [ inl high ↦ within_high end end n high.1 | inr low ↦ within_low end end n low.1 ]

pub within_then : (a b c n : ℕ) → a ≤ b → b ≤ c → one_within a b n + one_within b c n ≡ one_within a c n
within_then a b c n first second = elim (leb_tells a n) [
  | inr low ↦ (
      let below : n < b = omega (arith, first, low.1) in
      omega (arith, within_low a b n low.1, within_low b c n below, within_low a c n low.1)
      )
  | inl above ↦ elim (leb_tells b n) [
    | inr low ↦ (
        let below : n < c = omega (arith, second, low.1) in
        omega (arith, within_both a b n above.1 low.1, within_low b c n low.1, within_both a c n above.1 below)
        )
    | inl high ↦ elim (leb_tells c n) [
      | inr low ↦ omega (arith, within_high a b n high.1, within_both b c n high.1 low.1, within_both a c n above.1 low.1)
      | inl past ↦ omega (arith, within_high a b n high.1, within_high b c n past.1, within_high a c n past.1)
    ]
  ]
]

-- The number at the end.
pub within_last : (end n : ℕ) → one_within end (end + 1) n ≡ occurrences n (end ∷ [])
within_last end n = elim (leb_tells end n) [
  | inr low ↦ within_low end (end + 1) n low.1 ∙ sym (other (λ e. absurd (omega (arith, e, low.1))))
  | inl high ↦ elim (leb_tells (end + 1) n) [
    | inl past ↦ within_high end (end + 1) n past.1 ∙ sym (other (λ e. absurd (omega (arith, e, past.1))))
    | inr low ↦ (
        let same : n ≡ end = omega (arith, high.1, low.1) in
        within_both end (end + 1) n high.1 low.1 ∙ sym (ap (λ (b : Bool). (if b then 1 else 0) + 0) (eq-eqb n end same))
        )
  ]
]
  where
    other : (n ≡ end → ⊥) → occurrences n (end ∷ []) ≡ 0
    other ne = ap (λ (b : Bool). (if b then 1 else 0) + 0) (ne_eqb n end ne)

-- Numbers in lists, one behind the other.

pub occurs_append : (n : ℕ) (xs ys : List ℕ) → occurrences n (xs ++ ys) ≡ occurrences n xs + occurrences n ys
occurs_append n [] ys = omega arith
occurs_append n (x ∷ xs) ys =
    let rest : occurrences n (xs ++ ys) ≡ occurrences n xs + occurrences n ys = occurs_append n xs ys in
    omega (arith, rest)

pub occurs_numbers : (n : ℕ) (xs ys : List InstructionId)
    → occurrences n (numbers (xs ++ ys)) ≡ occurrences n (numbers xs) + occurrences n (numbers ys)
occurs_numbers n xs ys =
    ap (occurrences n) (map-append (λ (id : InstructionId). id.0) xs ys) ∙ occurs_append n (numbers xs) (numbers ys)

pub occurs_blocks : (n : ℕ) (xs ys : List BlockPair)
    → occurrences n (listed_in (xs ++ ys)) ≡ occurrences n (listed_in xs) + occurrences n (listed_in ys)
occurs_blocks n [] ys = omega arith
occurs_blocks n (x ∷ xs) ys =
    let rest : occurrences n (listed_in (xs ++ ys)) ≡ occurrences n (listed_in xs) + occurrences n (listed_in ys) = occurs_blocks n xs ys in
    let whole = occurs_append n (numbers x.1.instructions) (listed_in (xs ++ ys)) in
    omega (arith, rest, whole, occurs_append n (numbers x.1.instructions) (listed_in xs))
