-- Values of attributes that are containers.
use Rattle.std.specs.Prelude.{Bool, true, false}
use Rattle.rl_syntax.specs.Syntax.{Syntax, Node, Absent, End, Then}
use Rattle.rl_syntax.specs.declared.word.Word.TheVariants as word

-- True of a container without an expression.
abbrev pub is_empty_container : Syntax → Bool
is_empty_container (Node at word.Container (Then Absent End)) = true
is_empty_container _ = false
