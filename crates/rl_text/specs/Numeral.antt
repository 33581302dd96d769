-- Texts that are whole numbers up to 2^53 in the notation's spelling, and the number of each.
use Rattle.std.specs.Prelude.{ℕ, ◌+◌, ◌-◌, ◌*◌, Bool, ◌&&◌, nat_le, List, [], ◌∷◌}
use Rattle.std.specs.Str.{bytes_eq}
use Rattle.std.specs.Fmt.{decimal}
use Rattle.rl_text.specs.Number.{largest}

-- The number that further digits write behind those of `number`.
abbrev pub number_on : ℕ → List ℕ → ℕ
number_on number [] = number
number_on number (digit ∷ digits) = number_on (10 * number + (digit - 48)) digits

-- The number that decimal digits write.
abbrev pub number_of : List ℕ → ℕ
number_of digits = number_on 0 digits

-- True of a text that is a number as the notation writes it.
abbrev pub is_numeral : List ℕ → Bool
is_numeral text = nat_le (number_of text) largest && bytes_eq text (decimal (number_of text))
