-- Parts of nodes, by forms that rows ask for.
use Rattle.std.specs.Prelude.{ℕ, Bool, true, false, not, Option, Some, None, List}
use Rattle.rl_code.specs.Parts.{first}
use Rattle.rl_semantic.specs.Items.{of_item}
use Rattle.rl_syntax.specs.Shapes.{is_none}
use Rattle.rl_syntax.specs.Syntax.{Syntax, Node, Listed, Said, Flag, Pieces, End, Then}
use Rattle.rl_syntax.specs.declared.numbered.At.{At}
use Rattle.rl_syntax.specs.declared.word.Word.{Word}

-- The value of a text.
abbrev pub said_in : Syntax → Option (List ℕ)
said_in (Said text) = Some text
said_in _ = None

-- The value of a flag.
abbrev pub flag_in : Syntax → Option Bool
flag_in (Flag flag) = Some flag
flag_in _ = None

-- The items of a list.
abbrev pub items_in : Syntax → Option Pieces
items_in (Listed parts) = Some parts
items_in _ = None

-- Ids, word and parts of a node.
abbrev pub node_in : Syntax → Option (At × (Word × Pieces))
node_in (Node at w parts) = Some (at, (w, parts))
node_in _ = None

abbrev pub first_said : Pieces → Option (List ℕ)
first_said parts = of_item None said_in (first parts)

abbrev pub first_flag : Pieces → Option Bool
first_flag parts = of_item None flag_in (first parts)

-- The first of three parts, if it is a flag.
abbrev pub flag_of_three : Pieces → Option Bool
flag_of_three (Then (Flag flag) (Then second (Then third End))) = Some flag
flag_of_three _ = None

-- The first of three parts, if it is a text.
abbrev pub said_of_three : Pieces → Option (List ℕ)
said_of_three (Then (Said text) (Then second (Then third End))) = Some text
said_of_three _ = None

-- Two trees, if the first is a text.
abbrev pub with_said : (first second : Syntax) → Option (List ℕ × Syntax)
with_said first second = of_item None (λ text. Some (text, second)) (said_in first)

-- The two parts, if the first is a text.
abbrev pub said_pair : Pieces → Option (List ℕ × Syntax)
said_pair (Then (Said text) (Then second End)) = Some (text, second)
said_pair _ = None

-- The first two parts.
abbrev pub first_two : Pieces → Option (Syntax × Syntax)
first_two (Then first (Then second parts)) = Some (first, second)
first_two _ = None

-- True of parts whose first is not the flag `y`.
abbrev pub clear_flag : Pieces → Bool
clear_flag parts = of_item true not (first_flag parts)

-- The last of four parts.
abbrev pub fourth : Pieces → Option Syntax
fourth (Then a (Then b (Then c (Then d End)))) = Some d
fourth _ = None

-- True of an empty list.
abbrev pub is_empty_list : Syntax → Bool
is_empty_list (Listed parts) = is_none parts
is_empty_list _ = false
