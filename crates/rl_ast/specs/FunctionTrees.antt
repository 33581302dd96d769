-- The trees of functions.
use Rattle.std.specs.Prelude.{Bool, false}
use Rattle.rl_grammar.specs.Grammar.{fits}
use Rattle.rl_grammar.specs.declared.kind.Field.TheVariants as field
use Rattle.rl_grammar.specs.declared.kind.Kind.TheVariants as kind
use Rattle.rl_syntax.specs.Syntax.{Syntax, Node}
use Rattle.rl_syntax.specs.declared.word.Word.TheVariants as word

-- True of a function that fits the grammar.
abbrev pub is_function : Syntax → Bool
is_function (Node at word.Arrow parts) = fits (field.One kind.Arrow) (Node at word.Arrow parts)
is_function (Node at word.Fundecl parts) = fits (field.One kind.FunctionDeclaration) (Node at word.Fundecl parts)
is_function (Node at word.Funexpr parts) = fits (field.One kind.FunctionExpression) (Node at word.Funexpr parts)
is_function _ = false
