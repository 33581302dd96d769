-- Tests of words.
use Rattle.std.specs.Prelude.{Bool, true, false}
use Rattle.rl_syntax.specs.Syntax.{Syntax, Node}
use Rattle.rl_syntax.specs.declared.word.Word.{Word}
use Rattle.rl_syntax.specs.declared.word.Word.TheVariants as word

abbrev pub is_number_word : Word → Bool
is_number_word word.Num = true
is_number_word _ = false

-- True of a literal that is a number.
abbrev pub is_number : Syntax → Bool
is_number (Node at w parts) = is_number_word w
is_number _ = false
