-- Parts of nodes with lists of statements, by their number and form.
use Rattle.std.specs.Prelude.{Option, Some, None, option_map}
use Rattle.rl_syntax.specs.Syntax.{Syntax, Node, Listed, Pieces, End, Then}
use Rattle.rl_syntax.specs.declared.word.Word.{Word}
use Rattle.rl_syntax.specs.declared.word.Word.TheVariants as word

-- The only part, a list.
abbrev pub only_list : Pieces → Option Pieces
only_list (Then (Listed items) End) = Some items
only_list _ = None

-- The second of two parts, a list.
abbrev pub second_list : Pieces → Option Pieces
second_list (Then part parts) = only_list parts
second_list End = None

-- The statements of a block.
abbrev pub block_list : Word → Pieces → Option Pieces
block_list word.Block parts = only_list parts
block_list _ parts = None

abbrev pub block_statements : Syntax → Option Pieces
block_statements (Node at w parts) = block_list w parts
block_statements _ = None

-- The statements of the body of a function.
abbrev pub body_list : Word → Pieces → Option Pieces
body_list word.Body parts = second_list parts
body_list _ parts = None

abbrev pub body_statements : Syntax → Option Pieces
body_statements (Node at w parts) = body_list w parts
body_statements _ = None

-- The parameter of a `catch` and the statements of its body.
abbrev pub catch_parts : Pieces → Option (Syntax × Pieces)
catch_parts (Then param (Then body End)) = option_map (λ statements. (param, statements)) (block_statements body)
catch_parts _ = None

abbrev pub catch_list : Word → Pieces → Option (Syntax × Pieces)
catch_list word.Catch parts = catch_parts parts
catch_list _ parts = None

-- The first part.
abbrev pub first : Pieces → Option Syntax
first (Then part parts) = Some part
first End = None

-- The fourth part.
abbrev pub fourth : Pieces → Option Syntax
fourth (Then a (Then b (Then c (Then d parts)))) = Some d
fourth _ = None

abbrev pub declarator_part : Word → Pieces → Option Syntax
declarator_part word.Declarator parts = first parts
declarator_part _ parts = None

-- The pattern of a declarator.
abbrev pub declarator_pattern : Syntax → Option Syntax
declarator_pattern (Node at w parts) = declarator_part w parts
declarator_pattern _ = None
