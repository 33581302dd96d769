-- Parts by their form. Each definition is total: of a part that is not there, or of another form, no test is true.
use Rattle.std.specs.Prelude.{Bool, true, false}
use Rattle.rl_syntax.specs.Syntax.{Syntax, Node, Listed, Flag, Pieces, End, Then}
use Rattle.rl_syntax.specs.declared.word.Word.{Word}

-- True of the flag `y`.
abbrev pub is_yes : Syntax → Bool
is_yes (Flag true) = true
is_yes _ = false

-- True of a node whose word has the property `test`.
abbrev pub is_node_of : (test : Word → Bool) → Syntax → Bool
is_node_of test (Node at w parts) = test w
is_node_of test _ = false

-- The parts of a node; none of any other tree.
abbrev pub parts_of : Syntax → Pieces
parts_of (Node at w parts) = parts
parts_of _ = End

-- The items of a list; none of any other tree.
abbrev pub items_of : Syntax → Pieces
items_of (Listed pieces) = pieces
items_of _ = End

-- True of parts whose first has the property `test`.
abbrev pub first_is : (test : Syntax → Bool) → Pieces → Bool
first_is test End = false
first_is test (Then piece pieces) = test piece

-- The items of the first part, if that is a list.
abbrev pub first_items : Pieces → Pieces
first_items End = End
first_items (Then piece pieces) = items_of piece

-- True of parts that are not none.
abbrev pub has_some : Pieces → Bool
has_some End = false
has_some (Then piece pieces) = true

-- The parts behind the first.
abbrev pub behind : Pieces → Pieces
behind End = End
behind (Then piece pieces) = pieces
