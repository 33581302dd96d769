-- The statements that jumps leave, and the stops of jumps that have no target.
use Rattle.std.specs.Prelude.{ℕ, Bool, true, false, if◌then◌else◌, Option, Some, None, List, [], ◌∷◌, codes}
use Rattle.std.specs.Str.{bytes_eq}
use Rattle.rl_base.specs.Diagnostics.{diagnostic_at}
use Rattle.rl_base.specs.declared.diagnostic.Diagnostic.{Diagnostic}
use Rattle.rl_base.specs.declared.row.Row.TheVariants as row
use Rattle.rl_base.specs.declared.span.Span.{Span}
use Rattle.rl_model.specs.Actions.{Label}
use Rattle.rl_syntax.specs.Syntax.{Syntax, Node}
use Rattle.rl_syntax.specs.declared.word.Word.TheVariants as word

-- A statement that jumps inside it may leave: a loop or a `switch`, with the label in front of it if it has one, or another statement that
-- has a label. Lists of them begin with the innermost.
pub data Around : Type 0 where
  InLoop : Label → Around
  InSwitch : Label → Around
  InLabeled : List ℕ → Around

-- The label of the statement, if it has one.
abbrev pub label_around : Around → Label
label_around (InLoop own) = own
label_around (InSwitch own) = own
label_around (InLabeled own) = Some own

abbrev pub has_label : (jump : List ℕ) → Label → Bool
has_label jump None = false
has_label jump (Some own) = bytes_eq own jump

-- True of a statement that takes a `break`: with a label, one of that label; without, a loop or a `switch`.
abbrev pub breaks_out : (jump : Label) → Around → Bool
breaks_out (Some jump) around = has_label jump (label_around around)
breaks_out None (InLabeled own) = false
breaks_out None _ = true

-- True of a statement that decides on a `continue`: with a label, one of that label; without, a loop.
abbrev pub continues_in : (jump : Label) → Around → Bool
continues_in (Some jump) around = has_label jump (label_around around)
continues_in None (InLoop own) = true
continues_in None _ = false

abbrev pub is_in_loop : Around → Bool
is_in_loop (InLoop own) = true
is_in_loop _ = false

-- The stop of a `break` (S6): none of the statements takes it.
abbrev pub stop_of_break : (jump : Label) → (at : Span) → List Around → Option Diagnostic
stop_of_break jump at [] = Some (diagnostic_at row.S6 [] at)
stop_of_break jump at (around ∷ outer) = if breaks_out jump around then None else stop_of_break jump at outer

-- The stop of a `continue` (S7): none of the statements takes it, or the innermost of its label is no loop.
abbrev pub stop_of_continue : (jump : Label) → (at : Span) → List Around → Option Diagnostic
stop_of_continue jump at [] = Some (diagnostic_at row.S7 [] at)
stop_of_continue jump at (around ∷ outer) =
    if continues_in jump around then (if is_in_loop around then None else Some (diagnostic_at row.S7 (codes "label") at))
    else stop_of_continue jump at outer

-- True of a loop: a label right in front of it is the loop's own.
abbrev pub is_loop : Syntax → Bool
is_loop (Node at word.While parts) = true
is_loop (Node at word.Dowhile parts) = true
is_loop (Node at word.For parts) = true
is_loop (Node at word.Forin parts) = true
is_loop (Node at word.Forof parts) = true
is_loop statement = false

-- The label and the statement behind it, as the lowering keeps them: a loop has its label itself.
abbrev pub within_label : (label : List ℕ) → (body : Syntax) → List Around → List Around
within_label label body outer = if is_loop body then outer else InLabeled label ∷ outer

-- The label that a statement gets from one in front of it.
abbrev pub own_label : (label : List ℕ) → (body : Syntax) → Label
own_label label body = if is_loop body then Some label else None
