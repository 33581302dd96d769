-- A text in quotes, in which some bytes stand as a backslash and two hexadecimal digits.
use Rattle.std.specs.Prelude.{ℕ, ◌+◌, ◌/◌, ◌%◌, Bool, ◌||◌, ◌==◌, nat_lt, if◌then◌else◌, List, [], ◌∷◌, ◌++◌}

-- The small letter or digit that writes a number below 16.
abbrev pub hexadecimal : ℕ → ℕ
hexadecimal digit = if nat_lt digit 10 then 48 + digit else 87 + digit

-- True of a control byte, a quote or a backslash.
abbrev pub is_escaped : ℕ → Bool
is_escaped byte = nat_lt byte 32 || byte == 34 || byte == 92

abbrev pub escape : ℕ → List ℕ
escape byte = if is_escaped byte then 92 ∷ hexadecimal (byte / 16) ∷ hexadecimal (byte % 16) ∷ [] else byte ∷ []

-- The bytes behind the opening quote.
abbrev pub quoted_rest : List ℕ → List ℕ
quoted_rest [] = 34 ∷ []
quoted_rest (byte ∷ bytes) = escape byte ++ quoted_rest bytes

abbrev pub quoted : List ℕ → List ℕ
quoted text = 34 ∷ quoted_rest text
