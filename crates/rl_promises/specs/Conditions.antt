-- The conditions under which the lowering covers a node of a word that tools/grammar.txt marks so, by the node's parts.
use Rattle.std.specs.Prelude.{Bool, true, false, not, Option, Some}
use Rattle.rl_promises.specs.Patterns.{is_pattern}
use Rattle.rl_syntax.specs.Syntax.{Syntax, Node, Listed, Flag, Absent, Pieces, End, Then}
use Rattle.rl_syntax.specs.declared.word.Word.{Word}
use Rattle.rl_syntax.specs.declared.word.Word.TheVariants as word

-- True of the parts of a declarator without an initializer.
abbrev pub no_default : Pieces → Bool
no_default (Then pattern (Then Absent End)) = true
no_default _ = false

-- True of the parts of an update whose target is no pattern. By rule B9 no update has a pattern.
abbrev pub no_pattern : Pieces → Bool
no_pattern (Then operator (Then prefix (Then target End))) = not (is_pattern target)
no_pattern _ = false

-- True of the parts of a sequence that holds an expression.
abbrev pub not_empty : Pieces → Bool
not_empty (Then (Listed (Then expression expressions)) End) = true
not_empty _ = false

-- True of a declarator without an initializer, by its word and parts.
abbrev pub bare_node : Word → Pieces → Bool
bare_node word.Declarator (Then pattern (Then Absent End)) = true
bare_node _ parts = false

-- As `bare_node`, of a tree.
abbrev pub is_bare : Syntax → Bool
is_bare (Node at w parts) = bare_node w parts
is_bare _ = false

-- True of one declarator, which has no initializer.
abbrev pub is_one_bare : Option Pieces → Bool
is_one_bare (Some (Then declarator End)) = is_bare declarator
is_one_bare _ = false

-- True of the parts of a declaration with one declarator, which has no initializer.
abbrev pub declares_one : Pieces → Bool
declares_one (Then kind (Then (Listed declarators) End)) = is_one_bare (Some declarators)
declares_one _ = false

-- As `declares_one`, of a declaration by its word and parts. True of any other node.
abbrev pub plain_node : Word → Pieces → Bool
plain_node word.Var parts = declares_one parts
plain_node _ parts = true

-- True of the head of a `for`-`in` or `for`-`of` loop that declares one variable without an initializer, or is a target. By rule B7 each
-- head is one of these.
abbrev pub is_plain_head : Syntax → Bool
is_plain_head (Node at w parts) = plain_node w parts
is_plain_head _ = true

-- True of parts of which the first is such a head.
abbrev pub plain_ahead : Pieces → Bool
plain_ahead (Then head parts) = is_plain_head head
plain_ahead End = false

-- True of the parts of a `for`-`in` or `for`-`of` loop with such a head. A flag stands in front of it in `for`-`of`.
abbrev pub plain_head : Pieces → Bool
plain_head (Then (Flag is_await) parts) = plain_ahead parts
plain_head parts = plain_ahead parts
