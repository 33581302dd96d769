-- The code below a node, and the functions.
use Rattle.std.specs.Prelude.{if◌then◌else◌, List, [], ◌∷◌}
use Rattle.rl_model.specs.Code.{code_among, first_code, first_lowered, is_function, is_instantiate, lowered_among, name_code}
use Rattle.rl_syntax.specs.Syntax.{Syntax, Pieces}
use Rattle.rl_syntax.specs.declared.word.Word.{Word}

-- The nodes below a node that are code with it.
abbrev pub code_below : Word → Pieces → List Syntax
code_below w parts = if is_function w then name_code w parts else if is_instantiate w then first_code parts else code_among parts

-- A node, if it is a function.
abbrev pub itself : Word → Syntax → List Syntax
itself w tree = if is_function w then tree ∷ [] else []

-- The functions below a node that are lowered.
abbrev pub lowered_below : Word → Pieces → List Syntax
lowered_below w parts = if is_instantiate w then first_lowered parts else lowered_among parts
