-- The tree of each part of a trace in the notation.
use Rattle.std.specs.Prelude.{◌≡◌, ℕ, List, [], ◌∷◌, codes}
use Rattle.rl_hir.specs.Terminals.{return_variant}
use Rattle.rl_hir.specs.Trees.{node, list, said}
use Rattle.rl_machine.specs.declared.trace.Answer.{Answer}
use Rattle.rl_machine.specs.declared.trace.AnswerKind.{AnswerKind}
use Rattle.rl_machine.specs.declared.trace.AnswerKind.TheVariants as kinds
use Rattle.rl_machine.specs.declared.trace.Assignment.{Assignment}
use Rattle.rl_machine.specs.declared.trace.Ending.{Ending}
use Rattle.rl_machine.specs.declared.trace.Ending.TheVariants as endings
use Rattle.rl_machine.specs.declared.trace.Event.{Event}
use Rattle.rl_machine.specs.declared.trace.Trace.{Trace}
use Rattle.rl_machine.specs.declared.trace.Value.{Value}
use Rattle.rl_machine.specs.declared.trace.Value.TheVariants as values
use Rattle.rl_text.specs.Notation.{Tree, Count, Flag, spelling}

-- `(undefined)`, `(null)`, `(bool FLAG)`, `(number NUMBER)`, `(text TEXT)`, `(given NUMBER)`
abbrev pub value_tree : Value → Tree
value_tree values.Undefined = node (codes "undefined") []
value_tree values.Null = node (codes "null") []
value_tree (values.Bool flag) = node (codes "bool") (Flag flag ∷ [])
value_tree (values.Number number) = node (codes "number") (Count number ∷ [])
value_tree (values.Text text) = node (codes "text") (said text ∷ [])
value_tree (values.Given number) = node (codes "given") (Count number ∷ [])

-- `(set SYMBOL VALUE)`
abbrev pub assignment_tree : Assignment → Tree
assignment_tree a = node (codes "set") (Count a.symbol.0 ∷ value_tree a.value ∷ [])

abbrev pub answer_kind : AnswerKind → List ℕ
answer_kind kinds.Yes = codes "yes"
answer_kind kinds.No = codes "no"
answer_kind kinds.Throw = codes "throw"

-- `"yes"`, `"no"`, `"throw"`
abbrev pub kind_tree : AnswerKind → Tree
kind_tree kind = said (answer_kind kind)

-- `(answer KIND VALUE [VALUE ..] [SET ..])`: the pieces, and what other functions assign
abbrev pub answer_tree : Answer → Tree
answer_tree a =
    node (codes "answer") (kind_tree a.kind ∷ value_tree a.value ∷ list value_tree a.pieces ∷ list assignment_tree a.assignments ∷ [])

-- `(event KIND [TEXT ..] [VALUE ..])`
abbrev pub event_tree : Event → Tree
event_tree e = node (codes "event") (said e.kind ∷ list said e.texts ∷ list value_tree e.operands ∷ [])

-- `(returned VARIANT VALUE [SET ..])`, with the kept values; `(threw VALUE)`; `(waiting)`
abbrev pub ending_tree : Ending → Tree
ending_tree (endings.Returned variant value kept) =
    node (codes "returned") (said (return_variant variant) ∷ value_tree value ∷ list assignment_tree kept ∷ [])
ending_tree (endings.Threw value) = node (codes "threw") (value_tree value ∷ [])
ending_tree endings.Waiting = node (codes "waiting") []

-- `(trace [EVENT ..] ENDING)`
abbrev pub trace_tree : Trace → Tree
trace_tree t = node (codes "trace") (list event_tree t.events ∷ ending_tree t.ending ∷ [])

-- A trace whose text no other trace has, byte for byte.
abbrev pub IsOnlyTrace : Trace → Type 0
IsOnlyTrace t = (other : Trace) → spelling (trace_tree other) ≡ spelling (trace_tree t) → other ≡ t
