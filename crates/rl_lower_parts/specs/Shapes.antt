-- Shapes of expressions by which the lowering tells them apart.
use Rattle.std.specs.Prelude.{Bool, true, false}
use Rattle.rl_syntax.specs.Syntax.{Syntax, Node}
use Rattle.rl_syntax.specs.declared.word.Word.TheVariants as word

-- True of an expression in parentheses.
abbrev pub is_parenthesized : Syntax → Bool
is_parenthesized (Node at word.Paren parts) = true
is_parenthesized _ = false

-- True of `a!`.
abbrev pub is_assertion : Syntax → Bool
is_assertion (Node at word.Nonnull parts) = true
is_assertion _ = false
