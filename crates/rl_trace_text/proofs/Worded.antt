-- The node words of a trace are words of the notation.
use Rattle.std.proofs.Common.{List, [], ◌∷◌, map, refl, lit<}
use Rattle.rl_text.proofs.Worded.{IsWorded, AreWorded}
use Rattle.rl_text.specs.Notation.{Tree}
use Rattle.rl_text.specs.Raw.{parts_of}
use Rattle.rl_hir.specs.Trees.{said}
use Rattle.rl_machine.specs.declared.trace.Assignment.{Assignment}
use Rattle.rl_machine.specs.declared.trace.Ending.{Ending}
use Rattle.rl_machine.specs.declared.trace.Ending.TheVariants as endings
use Rattle.rl_machine.specs.declared.trace.Event.{Event}
use Rattle.rl_machine.specs.declared.trace.Trace.{Trace}
use Rattle.rl_machine.specs.declared.trace.Value.{Value}
use Rattle.rl_machine.specs.declared.trace.Value.TheVariants as values
use Rattle.rl_trace_text.specs.Trees.{value_tree, assignment_tree, event_tree, ending_tree, trace_tree}

list_worded : {X : Type 0} (show : X → Tree) → ((x : X) → IsWorded (show x)) → (xs : List X) → AreWorded (parts_of (map show xs))
list_worded show each [] = tt
list_worded show each (x ∷ xs) = (each x, list_worded show each xs)

value_worded : (v : Value) → IsWorded (value_tree v)
value_worded values.Undefined = ((lit< tt, refl), tt)
value_worded values.Null = ((lit< tt, refl), tt)
value_worded (values.Bool flag) = ((lit< tt, refl), (tt, tt))
value_worded (values.Number number) = ((lit< tt, refl), (tt, tt))
value_worded (values.Text text) = ((lit< tt, refl), (tt, tt))
value_worded (values.Given number) = ((lit< tt, refl), (tt, tt))

assignment_worded : (a : Assignment) → IsWorded (assignment_tree a)
assignment_worded a = ((lit< tt, refl), (tt, (value_worded a.value, tt)))

event_worded : (e : Event) → IsWorded (event_tree e)
event_worded e = (
  (lit< tt, refl),
  (tt, (list_worded said (λ text. tt) e.texts, (list_worded value_tree value_worded e.operands, tt))),
)

ending_worded : (e : Ending) → IsWorded (ending_tree e)
ending_worded (endings.Returned variant value kept) =
    ((lit< tt, refl), (tt, (value_worded value, (list_worded assignment_tree assignment_worded kept, tt))))
ending_worded (endings.Threw value) = ((lit< tt, refl), (value_worded value, tt))
ending_worded endings.Waiting = ((lit< tt, refl), tt)

pub trace_worded : (t : Trace) → IsWorded (trace_tree t)
trace_worded t = ((lit< tt, refl), (list_worded event_tree event_worded t.events, (ending_worded t.ending, tt)))
