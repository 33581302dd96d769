-- Laws of decimal numbers.
use Rattle.std.proofs.Common.{◌≡◌, ℕ, ◌+◌, ◌-◌, ◌*◌, ◌^◌, ◌<◌, ◌≤◌, true, List, [], ◌∷◌, length, get_or, ap, sym, ◌∙◌, suc, zero, rules, arith}
use Rattle.std.specs.List.{list_all}
use Rattle.std.specs.Char.{is_ascii_digit}
use Rattle.std.specs.Fmt.{decimal}
use Rattle.std.proofs.lemmas.Str.Parse.{IsNumeralModel, numerals_by_fold}
use Rattle.std.proofs.lemmas.Fmt.{decimal-digits_value, digits_decimal, digits_value-decimal, decimal_nonempty, first_decimal, decimal_digit}
use Rattle.rl_text.specs.Number.{largest}
use Rattle.rl_text.specs.WrittenNumbers.{IsNumeral}

-- The number that digits write behind those of another number.
abbrev pub read_on : ℕ → List ℕ → ℕ
read_on n [] = n
read_on n (c ∷ cs) = read_on (10 * n + (c - 48)) cs

pub own : IsNumeralModel (λ ds. list_all is_ascii_digit ds ≡ true) (read_on 0)
own = numerals_by_fold _ (search rules) read_on (search rules)

-- More digits write no smaller number.
pub read_on-grows : (n : ℕ) (s : List ℕ) → n ≤ read_on n s
read_on-grows n [] = omega arith
read_on-grows n (c ∷ cs) = omega (arith, read_on-grows (10 * n + (c - 48)) cs)

pub largest-small : (n : ℕ) → n ≤ largest → n < 2 ^ 64
largest-small n h = omega arith

pub decimal-digits : (n : ℕ) → n ≤ largest → list_all is_ascii_digit (decimal n) ≡ true
decimal-digits n h = digits_decimal own n (largest-small n h)

pub decimal-value : (n : ℕ) → n ≤ largest → read_on 0 (decimal n) ≡ n
decimal-value n h = digits_value-decimal own n (largest-small n h)

-- A zero leads no other digit.
pub decimal-no_zero : (n : ℕ) → n ≤ largest → get_or (decimal n) 0 0 ≡ 48 → length (decimal n) ≡ 1
decimal-no_zero zero h z = ap length (decimal_digit 0 (omega arith))
decimal-no_zero (suc m) h z = absurd (omega (arith, first_decimal (suc m) (omega arith) (largest-small (suc m) h), z))

-- Digits without a leading zero write their value.
pub numeral-from_value : (s : List ℕ) (n : ℕ) → list_all is_ascii_digit s ≡ true → 0 < length s → (get_or s 0 0 ≡ 48 → length s ≡ 1) → read_on 0 s ≡ n → n ≤ largest → IsNumeral s n
numeral-from_value s n digits some lead value small =
    let fits : read_on 0 s < 2 ^ 64 = omega (arith, value, largest-small n small) in
    record { bounded = small; written = sym (decimal-digits_value own s digits some lead fits) ∙ ap decimal value }

-- The form of a numeral.
pub numeral-digits : (s : List ℕ) (n : ℕ) → IsNumeral s n → list_all is_ascii_digit s ≡ true
numeral-digits s n h = ap (list_all is_ascii_digit) h.written ∙ decimal-digits n h.bounded

pub numeral-value : (s : List ℕ) (n : ℕ) → IsNumeral s n → read_on 0 s ≡ n
numeral-value s n h = ap (read_on 0) h.written ∙ decimal-value n h.bounded

pub numeral-some : (s : List ℕ) (n : ℕ) → IsNumeral s n → 0 < length s
numeral-some s n h = omega (arith, ap length h.written, decimal_nonempty n (largest-small n h.bounded))

pub numeral-no_zero : (s : List ℕ) (n : ℕ) → IsNumeral s n → get_or s 0 0 ≡ 48 → length s ≡ 1
numeral-no_zero s n h z = ap length h.written ∙ decimal-no_zero n h.bounded (sym (ap (λ (l : List ℕ). get_or l 0 0) h.written) ∙ z)
