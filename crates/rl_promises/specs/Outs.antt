-- Nodes of which a row leaves out a part: the lowering does not go into it.
use Rattle.std.specs.Prelude.{ℕ, Bool, true, false, ◌&&◌, not, List, codes}
use Rattle.std.specs.Str.{bytes_eq}
use Rattle.rl_model.specs.Applied.{deletes}
use Rattle.rl_syntax.specs.Syntax.{Syntax, Node}
use Rattle.rl_syntax.specs.declared.word.Word.TheVariants as word

-- True of a target under a wrapper.
abbrev pub is_wrapped : Syntax → Bool
is_wrapped (Node at word.As parts) = true
is_wrapped (Node at word.Satisfies parts) = true
is_wrapped (Node at word.Assert parts) = true
is_wrapped (Node at word.Nonnull parts) = true
is_wrapped _ = false

-- True of a target that is left out in the head of a `for`-`in` or `for`-`of` loop: a private property, or one under a wrapper (rows F11
-- and F45).
abbrev pub is_lost_head : Syntax → Bool
is_lost_head (Node at word.Privatemember parts) = true
is_lost_head head = is_wrapped head

-- True of a key of an object literal that is an expression in brackets, or is a name, a text or a number without them. Any other has
-- row F9.
abbrev pub is_known_key : (computed : Bool) → Syntax → Bool
is_known_key true (Node at word.Name parts) = false
is_known_key true (Node at word.Private parts) = false
is_known_key true key = true
is_known_key false (Node at word.Name parts) = true
is_known_key false (Node at word.Str parts) = true
is_known_key false (Node at word.Num parts) = true
is_known_key false key = false

-- True of a `delete` of what is no property (row F12).
abbrev pub is_lost_delete : (operator : List ℕ) → (argument : Syntax) → Bool
is_lost_delete operator argument = bytes_eq operator (codes "delete") && not (deletes argument)
