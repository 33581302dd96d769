-- Trees by their form, and parts by their number.
use Rattle.std.specs.Prelude.{Bool, true, false}
use Rattle.rl_syntax.specs.Syntax.{Syntax, Node, Listed, Said, Count, Flag, Pieces, End, Then}

-- True of no parts.
abbrev pub is_none : Pieces → Bool
is_none End = true
is_none (Then piece pieces) = false

-- True of one part.
abbrev pub is_one : Pieces → Bool
is_one End = false
is_one (Then piece pieces) = is_none pieces

-- True of two parts.
abbrev pub is_two : Pieces → Bool
is_two End = false
is_two (Then piece pieces) = is_one pieces

-- True of three parts.
abbrev pub is_three : Pieces → Bool
is_three End = false
is_three (Then piece pieces) = is_two pieces

-- True of four parts.
abbrev pub is_four : Pieces → Bool
is_four End = false
is_four (Then piece pieces) = is_three pieces

-- True of five parts.
abbrev pub is_five : Pieces → Bool
is_five End = false
is_five (Then piece pieces) = is_four pieces

-- True of six parts.
abbrev pub is_six : Pieces → Bool
is_six End = false
is_six (Then piece pieces) = is_five pieces

-- True of a list.
abbrev pub is_list : Syntax → Bool
is_list (Listed parts) = true
is_list _ = false

-- True of a text.
abbrev pub is_text : Syntax → Bool
is_text (Said text) = true
is_text _ = false

-- True of a number.
abbrev pub is_number : Syntax → Bool
is_number (Count number) = true
is_number _ = false

-- True of a flag.
abbrev pub is_flag : Syntax → Bool
is_flag (Flag flag) = true
is_flag _ = false

-- True of a node.
abbrev pub is_node : Syntax → Bool
is_node (Node at w parts) = true
is_node _ = false
