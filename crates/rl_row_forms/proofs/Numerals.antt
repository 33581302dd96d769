-- Numerals by what their reading gives.
use Rattle.std.proofs.Common.{◌≡◌, ℕ, Bool, true, false, if◌then◌else◌, Some, None, refl}

pub some_numeral : (b : Bool) (m n : ℕ) → Some n ≡ (if b then Some m else None) → true ≡ b
some_numeral true m n is = refl
some_numeral false m n is = absurd (cc)

pub no_numeral : (b : Bool) (m : ℕ) → None ≡ (if b then Some m else None) → false ≡ b
no_numeral true m is = absurd (cc)
no_numeral false m is = refl

pub ruleset numerals = (some_numeral, no_numeral)
