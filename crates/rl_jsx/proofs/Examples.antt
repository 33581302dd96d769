-- The definitions, tried on small texts.
use Rattle.std.proofs.Common.{◌≡◌, ℕ, Option, Some, None, List, [], ◌∷◌, codes, refl}
use Rattle.std.specs.Char.{encode_utf8}
use Rattle.std.specs.Str.{bytes_eq}
use Rattle.std.specs.Prelude.{if◌then◌else◌}
use Rattle.rl_jsx.specs.JsxTexts.{split_line_endings, trim_jsx_text, decode_jsx_entities}

-- `a`, a carriage return and a line feed, `b`, a carriage return, `c`, a line feed.
lines_of_each_ending : split_line_endings (97 ∷ 13 ∷ 10 ∷ 98 ∷ 13 ∷ 99 ∷ 10 ∷ []) ≡ (97 ∷ []) ∷ (98 ∷ []) ∷ (99 ∷ []) ∷ [] ∷ []
unfolding split_line_endings
lines_of_each_ending = refl

-- A line feed, and a carriage return behind it, end two lines.
lines_of_the_other_order : split_line_endings (97 ∷ 10 ∷ 13 ∷ 98 ∷ []) ≡ (97 ∷ []) ∷ [] ∷ (98 ∷ []) ∷ []
unfolding split_line_endings
lines_of_the_other_order = refl

line_of_nothing : split_line_endings [] ≡ [] ∷ []
unfolding split_line_endings
line_of_nothing = refl

joined : trim_jsx_text (97 ∷ 10 ∷ 32 ∷ 32 ∷ 98 ∷ []) ≡ Some (codes "a b")
unfolding trim_jsx_text split_line_endings
joined = refl

nothing_shown : trim_jsx_text (10 ∷ 32 ∷ 32 ∷ 10 ∷ []) ≡ None
unfolding trim_jsx_text split_line_endings
nothing_shown = refl

spaces_of_one_line : trim_jsx_text (codes "   ") ≡ Some (codes "   ")
unfolding trim_jsx_text split_line_endings
spaces_of_one_line = refl

nothing_at_all : trim_jsx_text [] ≡ None
unfolding trim_jsx_text split_line_endings
nothing_at_all = refl

-- A space, a tab, `a`, a tab, a line feed, a tab, a line feed, a space, `b`, a tab.
tabs_and_spaces : trim_jsx_text (32 ∷ 9 ∷ 97 ∷ 9 ∷ 10 ∷ 9 ∷ 10 ∷ 32 ∷ 98 ∷ 9 ∷ []) ≡ Some (codes "  a b ")
unfolding trim_jsx_text split_line_endings
tabs_and_spaces = refl

-- `amp` stands for 38.
abbrev amp : (name : List ℕ) → Option ℕ
amp name = if bytes_eq name (codes "amp") then Some 38 else None

decodes_words_and_numbers : decode_jsx_entities amp (codes "a &amp; b &bogus; &#x41;") ≡ codes "a & b &bogus; A"
unfolding decode_jsx_entities encode_utf8
decodes_words_and_numbers = refl

decodes_from_the_last_ampersand : decode_jsx_entities amp (codes "&a&amp;") ≡ codes "&a&"
unfolding decode_jsx_entities encode_utf8
decodes_from_the_last_ampersand = refl

keeps_what_no_semicolon_ends : decode_jsx_entities amp (codes "a;&amp") ≡ codes "a;&amp"
unfolding decode_jsx_entities encode_utf8
keeps_what_no_semicolon_ends = refl

reads_a_plus : decode_jsx_entities amp (codes "&#+65;&#x+41;") ≡ codes "AA"
unfolding decode_jsx_entities encode_utf8
reads_a_plus = refl

-- The last is the hexadecimal number behind the last scalar value.
keeps_what_is_no_scalar_value : decode_jsx_entities amp (codes "&#;&#x;&#++65;&#-65;&#xd800;&#X110000;") ≡ codes "&#;&#x;&#++65;&#-65;&#xd800;&#X110000;"
unfolding decode_jsx_entities encode_utf8
keeps_what_is_no_scalar_value = refl

-- The euro sign and an emoji, in UTF-8.
decodes_to_utf8 : decode_jsx_entities amp (codes "&#8364;&#X1f600;") ≡ 226 ∷ 130 ∷ 172 ∷ 240 ∷ 159 ∷ 152 ∷ 128 ∷ []
unfolding decode_jsx_entities encode_utf8
decodes_to_utf8 = refl
