-- Parts of nodes, by their number and form.
use Rattle.std.specs.Prelude.{ℕ, Option, Some, None, List, [], ◌∷◌}
use Rattle.rl_syntax.specs.Syntax.{Syntax, Node, Listed, Said, Pieces, End, Then}
use Rattle.rl_syntax.specs.declared.word.Word.{Word}
use Rattle.rl_syntax.specs.declared.word.Word.TheVariants as word

-- The name of a function declaration, by its parts.
abbrev pub name_of : Word → Pieces → List Syntax
name_of word.Fundecl (Then marked (Then is_async (Then generator (Then name parts)))) = name ∷ []
name_of w parts = []

-- The items and the rest of a pattern, a target or a parameter list.
abbrev pub items_and_rest : Pieces → Option (Pieces × Syntax)
items_and_rest (Then (Listed items) (Then rest End)) = Some (items, rest)
items_and_rest _ = None

-- The only part.
abbrev pub only : Pieces → Option Syntax
only (Then part End) = Some part
only _ = None

-- The first part.
abbrev pub first : Pieces → Option Syntax
first (Then part parts) = Some part
first End = None

-- The second part.
abbrev pub second : Pieces → Option Syntax
second (Then part (Then another parts)) = Some another
second _ = None

-- The two parts.
abbrev pub both : Pieces → Option (Syntax × Syntax)
both (Then part (Then another End)) = Some (part, another)
both _ = None

-- The three parts.
abbrev pub three : Pieces → Option (Syntax × (Syntax × Syntax))
three (Then part (Then another (Then last End))) = Some (part, (another, last))
three _ = None

-- The last of three parts.
abbrev pub third_of_three : Pieces → Option Syntax
third_of_three (Then part (Then another (Then last End))) = Some last
third_of_three _ = None

-- Parameters and body of a function, by its parts.
abbrev pub function_parts : Word → Pieces → Option (Syntax × Syntax)
function_parts word.Arrow (Then marked (Then is_async (Then params (Then body End)))) = Some (params, body)
function_parts word.Fundecl (Then marked (Then is_async (Then generator (Then name (Then params (Then body End)))))) = Some (params, body)
function_parts word.Funexpr (Then marked (Then is_async (Then generator (Then name (Then params (Then body End)))))) = Some (params, body)
function_parts w parts = None

-- As `function_parts`, of a tree.
abbrev pub parts_of_function : Syntax → Option (Syntax × Syntax)
parts_of_function (Node at w parts) = function_parts w parts
parts_of_function _ = None

-- The only part, a text.
abbrev pub said_only : Pieces → Option (List ℕ)
said_only (Then (Said text) End) = Some text
said_only _ = None
