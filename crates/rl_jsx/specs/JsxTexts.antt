-- Texts of JSX, as their UTF-8 bytes: their lines, without the spaces beside line endings, and the entities in them decoded.
use Rattle.std.specs.Prelude.{ℕ, ◌-◌, Bool, true, false, not, ◌&&◌, ◌||◌, ◌==◌, if◌then◌else◌, Option, Some, None, List, [], ◌∷◌, ◌++◌, map, filter, length, take, drop, encode_utf8}
use Rattle.std.specs.Char.{is_digit}
use Rattle.std.specs.List.{list_any, list_all, prefix_len, suffix_len, onto_first, slice_split, join_with_byte}
use Rattle.std.specs.Str.Parse.{digits_value, without_leading_plus}
use Rattle.rl_base.specs.Scalars.{is_scalar_value}

-- True if there is no byte.
abbrev pub is_empty : List ℕ → Bool
is_empty [] = true
is_empty (byte ∷ bytes) = false

-- True if the bytes begin with a line feed.
abbrev pub starts_with_line_feed : List ℕ → Bool
starts_with_line_feed [] = false
starts_with_line_feed (byte ∷ bytes) = byte == 10

-- The lines of a text, one more than it has line endings. A line ending is a carriage return with a line feed behind it, or either
-- alone: a carriage return in front of a line feed is left out, and every other one ends a line, as a line feed does.
unfoldable pub split_line_endings : List ℕ → List (List ℕ)
split_line_endings [] = [] ∷ []
split_line_endings (byte ∷ bytes) =
    if byte == 13 && starts_with_line_feed bytes then split_line_endings bytes
    else if byte == 13 || byte == 10 then [] ∷ split_line_endings bytes
    else onto_first byte (split_line_endings bytes)

-- The text with a space for each tab.
abbrev pub tabs_as_spaces : List ℕ → List ℕ
tabs_as_spaces text = map (λ byte. if byte == 9 then 32 else byte) text

abbrev pub is_space : ℕ → Bool
is_space byte = byte == 32

-- The line without the spaces at its start.
abbrev pub without_leading_spaces : List ℕ → List ℕ
without_leading_spaces line = drop (prefix_len is_space line) line

-- The line without the spaces at its end.
abbrev pub without_trailing_spaces : List ℕ → List ℕ
without_trailing_spaces line = take (length line - suffix_len is_space line) line

-- Lines that stand behind a line ending, without the spaces beside line endings.
abbrev pub trimmed_behind : List (List ℕ) → List (List ℕ)
trimmed_behind [] = []
trimmed_behind (line ∷ []) = without_leading_spaces line ∷ []
trimmed_behind (line ∷ next ∷ lines) = without_leading_spaces (without_trailing_spaces line) ∷ trimmed_behind (next ∷ lines)

-- The lines of a text, without the spaces beside line endings: the first keeps those at its start, the last those at its end.
abbrev pub trimmed_lines : List (List ℕ) → List (List ℕ)
trimmed_lines [] = []
trimmed_lines (line ∷ []) = line ∷ []
trimmed_lines (line ∷ next ∷ lines) = without_trailing_spaces line ∷ trimmed_behind (next ∷ lines)

-- The lines that are not empty, with a space between each two.
abbrev pub joined_lines : List (List ℕ) → List ℕ
joined_lines lines = join_with_byte 32 (filter (λ line. not (is_empty line)) lines)

-- A text that is not empty. `None` for the empty one.
abbrev pub unless_empty : List ℕ → Option (List ℕ)
unless_empty text = if is_empty text then None else Some text

-- The text that a JSX text shows: its tabs are spaces, spaces beside line endings go, and the lines left that are not empty are joined by
-- spaces. `None` if nothing is left.
unfoldable pub trim_jsx_text : List ℕ → Option (List ℕ)
trim_jsx_text text = unless_empty (joined_lines (trimmed_lines (split_line_endings (tabs_as_spaces text))))

-- True of one digit or more of a base, and nothing else.
abbrev pub is_numeral : (base : ℕ) → (text : List ℕ) → Bool
is_numeral base text = not (is_empty text) && list_all (λ digit. is_digit digit base) text

-- The number that digits of a base write, if it is a Unicode scalar value.
abbrev pub scalar_of : (base : ℕ) → (digits : List ℕ) → Option ℕ
scalar_of base digits =
    if is_numeral base digits && is_scalar_value (digits_value base digits) then Some (digits_value base digits) else None

-- The scalar value that the bytes behind `#` write: hexadecimal behind `x` or `X`, else decimal. One `+` may stand before the digits.
abbrev pub numbered : List ℕ → Option ℕ
numbered [] = None
numbered (byte ∷ bytes) =
    if byte == 120 || byte == 88 then scalar_of 16 (without_leading_plus bytes) else scalar_of 10 (without_leading_plus (byte ∷ bytes))

-- The scalar value of a word that stands between `&` and `;`: that of its number behind `#`, or that of the entity so named.
abbrev pub word_value : (entity : (name : List ℕ) → Option ℕ) → (word : List ℕ) → Option ℕ
word_value entity [] = entity []
word_value entity (byte ∷ bytes) = if byte == 35 then numbered bytes else entity (byte ∷ bytes)

-- `&`, a word and `;` decoded: the character of the word's value, or these bytes as they stand where it has none.
abbrev pub decoded_as : (value : Option ℕ) → (word : List ℕ) → List ℕ
decoded_as (Some value) word = encode_utf8 value
decoded_as None word = 38 ∷ (word ++ 59 ∷ [])

abbrev pub decoded_word : (entity : (name : List ℕ) → Option ℕ) → (word : List ℕ) → List ℕ
decoded_word entity word = decoded_as (word_value entity word) word

-- A part that ends at a `;`, and this `;`, decoded: the word that is looked up stands behind the part's last `&`.
abbrev pub decoded_part : (entity : (name : List ℕ) → Option ℕ) → (part : List ℕ) → List ℕ
decoded_part entity [] = 59 ∷ []
decoded_part entity (byte ∷ bytes) =
    if byte == 38 && not (list_any (λ other. other == 38) bytes) then decoded_word entity bytes
    else byte ∷ decoded_part entity bytes

-- Parts with a `;` between each two, decoded. Behind the last `;`, bytes stay as they are.
abbrev pub decoded_parts : (entity : (name : List ℕ) → Option ℕ) → (parts : List (List ℕ)) → List ℕ
decoded_parts entity [] = []
decoded_parts entity (part ∷ []) = part
decoded_parts entity (part ∷ next ∷ parts) = decoded_part entity part ++ decoded_parts entity (next ∷ parts)

-- The text with its entities decoded, where `entity` gives the scalar value of each name that has one.
unfoldable pub decode_jsx_entities : (entity : (name : List ℕ) → Option ℕ) → (text : List ℕ) → List ℕ
decode_jsx_entities entity text = decoded_parts entity (slice_split (λ byte. byte == 59) text)
