-- Nodes in the dead parts of functions.
use Rattle.std.specs.Prelude.{ℕ, Bool, Option, None}
use Rattle.std.specs.List.{list_any}
use Rattle.rl_dead.specs.Parts.{second_list}
use Rattle.rl_model.specs.Dead.{dead_parts}
use Rattle.rl_model.specs.Supported.{is_among}
use Rattle.rl_names.specs.Functions.{body_in}
use Rattle.rl_syntax.specs.Syntax.{Syntax, Node, Pieces}
use Rattle.rl_syntax.specs.declared.word.Word.{Word}
use Rattle.rl_syntax.specs.declared.word.Word.TheVariants as word

-- The statements of the body of a function.
abbrev pub body_list : Word → Pieces → Option Pieces
body_list word.Body parts = second_list parts
body_list _ parts = None

abbrev pub body_statements : Syntax → Option Pieces
body_statements (Node at w parts) = body_list w parts
body_statements _ = None

-- True of a node in a dead part of a function.
abbrev pub is_dead_in : (node : ℕ) → (function : Syntax) → Bool
is_dead_in node function = list_any (is_among node) (dead_parts (body_in function))
