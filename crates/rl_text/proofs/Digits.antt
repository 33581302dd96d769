-- The digits of numbers of any size.
use Rattle.std.proofs.Common.{◌≡◌, ℕ, zero, suc, ◌+◌, ◌-◌, ◌*◌, ◌/◌, ◌%◌, ◌^◌, ◌<◌, ◌≤◌, length, Bool, true, false, ◌==◌, ◌&&◌, cond, List, [], ◌∷◌, ◌++◌, ap, sym, ◌∙◌, refl, arith}
use Rattle.std.proofs.Math.Nat.{pow-succ'}
use Rattle.std.proofs.lemmas.Bool.Decides.{nat_tests}
use Rattle.std.proofs.lemmas.Fmt.{decimal_digit, length-decimal-le}
use Rattle.std.proofs.lemmas.Bool.{and_parts}
use Rattle.std.specs.List.{list_all}
use Rattle.std.specs.Char.{is_ascii_digit}
use Rattle.std.specs.Fmt.{decimal, digits, digits_onto, digit_glyph}
use Rattle.rl_text.specs.Number.{numeral}
use Rattle.rl_text.specs.Places.{NoDigit}
use Rattle.rl_text.proofs.Numbers.{read_on}
use Rattle.rl_text.proofs.Runs.{runs-apart}

-- The last digit of a number.
abbrev last : ℕ → ℕ
last n = digit_glyph false (n % 10)

last-is : (n : ℕ) → last n ≡ 48 + n % 10
last-is n = let small : n % 10 < 10 = omega arith in glyph (n % 10) small
  where
    glyph : (d : ℕ) → d < 10 → digit_glyph false d ≡ 48 + d
    glyph d small = grind (arith, nat_tests)

last-digit : (n : ℕ) → is_ascii_digit (last n) ≡ true
last-digit n = let is = last-is n in grind (arith, nat_tests)

-- A front of a number is shorter than the number.
front-below : (most n : ℕ) → n < 10 ^ suc most → n / 10 < 10 ^ most
front-below most n small = omega (arith, pow-succ' 10 most)

below-power : (n : ℕ) → n < 10 ^ n
below-power zero = omega arith
below-power (suc n) = omega (arith, below-power n, pow-succ' 10 n)

below-next : (n : ℕ) → n < 10 ^ suc n
below-next n = omega (arith, below-power n, pow-succ' 10 n)

-- The digits write the number, where there is room for all of them.
value-onto : (most n : ℕ) (rest : List ℕ) → n < 10 ^ most → read_on 0 (digits_onto most 10 false n rest) ≡ read_on n rest
value-onto zero n rest small = let none : 0 ≡ n = omega arith in ap (λ m. read_on m rest) none
value-onto (suc most) n rest small = by (n / 10 == 0) refl (value-onto most (n / 10) (last n ∷ rest) (front-below most n small))
  where
    by : (b : Bool) → (n / 10 == 0) ≡ b → read_on 0 (digits_onto most 10 false (n / 10) (last n ∷ rest)) ≡ read_on (n / 10) (last n ∷ rest)
        → read_on 0 (cond b (last n ∷ rest) (digits_onto most 10 false (n / 10) (last n ∷ rest))) ≡ read_on n rest
    by true none more = let one : 10 * 0 + (last n - 48) ≡ n = grind (arith, nat_tests, last-is n) in ap (λ m. read_on m rest) one
    by false some more = more ∙ (let whole : 10 * (n / 10) + (last n - 48) ≡ n = omega (arith, last-is n) in ap (λ m. read_on m rest) whole)

digits-onto : (most n : ℕ) (rest : List ℕ) → list_all is_ascii_digit rest ≡ true → list_all is_ascii_digit (digits_onto most 10 false n rest) ≡ true
digits-onto zero n rest digits = digits
digits-onto (suc most) n rest digits =
    let first : list_all is_ascii_digit (last n ∷ rest) ≡ true = ap (λ b. b && list_all is_ascii_digit rest) (last-digit n) ∙ digits in
    by (n / 10 == 0) first (digits-onto most (n / 10) (last n ∷ rest) first)
  where
    by : (b : Bool) → list_all is_ascii_digit (last n ∷ rest) ≡ true → list_all is_ascii_digit (digits_onto most 10 false (n / 10) (last n ∷ rest)) ≡ true
        → list_all is_ascii_digit (cond b (last n ∷ rest) (digits_onto most 10 false (n / 10) (last n ∷ rest))) ≡ true
    by true one more = one
    by false one more = more

positive : (k n : ℕ) → n < 10 ^ k → 0 < n → 0 < k
positive zero n below front = absurd (omega arith)
positive (suc k) n below front = omega arith

-- More room changes nothing.
room-onto : (most room n : ℕ) (rest : List ℕ) → n < 10 ^ most → n < 10 ^ room → 0 < most → 0 < room → digits_onto most 10 false n rest ≡ digits_onto room 10 false n rest
room-onto zero room n rest small fits some more = absurd (omega arith)
room-onto (suc most) zero n rest small fits some more = absurd (omega arith)
room-onto (suc most) (suc room) n rest small fits some more = by (n / 10 == 0) refl
    (λ front. room-onto most room (n / 10) (last n ∷ rest) (front-below most n small) (front-below room n fits) (positive most (n / 10) (front-below most n small) front) (positive room (n / 10) (front-below room n fits) front))
  where
    by : (b : Bool) → (n / 10 == 0) ≡ b
        → (0 < n / 10 → digits_onto most 10 false (n / 10) (last n ∷ rest) ≡ digits_onto room 10 false (n / 10) (last n ∷ rest))
        → cond b (last n ∷ rest) (digits_onto most 10 false (n / 10) (last n ∷ rest)) ≡ cond b (last n ∷ rest) (digits_onto room 10 false (n / 10) (last n ∷ rest))
    by true none further = refl
    by false many further = let front : 0 < n / 10 = grind (arith, nat_tests) in further front

pub numeral-value : (n : ℕ) → read_on 0 (numeral n) ≡ n
unfolding numeral
numeral-value n = value-onto (suc n) n [] (below-next n)

pub numeral-digits : (n : ℕ) → list_all is_ascii_digit (numeral n) ≡ true
unfolding numeral
numeral-digits n = digits-onto (suc n) n [] refl

-- A number of the program's is written as the library writes it.
pub numeral-decimal : (n : ℕ) → n < 2 ^ 64 → numeral n ≡ decimal n
unfolding numeral digits
numeral-decimal n small = room-onto (suc n) 64 n [] (below-next n) (omega arith) (omega arith) (omega arith)

pub numeral-digit : (n : ℕ) → n < 10 → numeral n ≡ (48 + n) ∷ []
numeral-digit n small = numeral-decimal n (omega arith) ∙ decimal_digit n small

pub ruleset numerals = (numeral-decimal, numeral-digit)

-- A number of 32 bits has at most 10 digits.
pub decimal_short : (n : ℕ) → n < 2 ^ 32 → length (decimal n) ≤ 10
decimal_short n small = length-decimal-le 10 n (omega arith) (omega arith) (omega arith)

-- Numerals are injective, and no numeral is a prefix of another's with what follows, where no digit follows.
pub numerals-apart : (m n : ℕ) (u v : List ℕ) → NoDigit u → NoDigit v → numeral m ++ u ≡ numeral n ++ v → (m ≡ n) × (u ≡ v)
numerals-apart m n u v a b h =
    let same = runs-apart is_ascii_digit (numeral m) (numeral n) u v (numeral-digits m) (numeral-digits n) a b h in
    (sym (numeral-value m) ∙ ap (read_on 0) same.0 ∙ numeral-value n, same.1)

-- A numeral begins with a digit.
pub numeral-first : (n : ℕ) → (d : ℕ) × (ds : List ℕ) × (numeral n ≡ d ∷ ds) × (is_ascii_digit d ≡ true)
unfolding numeral
numeral-first zero = (48, [], refl, refl)
numeral-first (suc m) = by (numeral (suc m)) refl
  where
    by : (digits : List ℕ) → numeral (suc m) ≡ digits → (d : ℕ) × (ds : List ℕ) × (numeral (suc m) ≡ d ∷ ds) × (is_ascii_digit d ≡ true)
    by [] none = absurd (omega (arith, sym (numeral-value (suc m)) ∙ ap (read_on 0) none))
    by (d ∷ ds) is = (d, ds, is, (and_parts (is_ascii_digit d) (list_all is_ascii_digit ds) (ap (list_all is_ascii_digit) (sym is) ∙ numeral-digits (suc m))).0)
