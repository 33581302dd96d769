-- The parts of the units on which the definitions of the whole language are tried.
use Rattle.std.proofs.Common.{ℕ, nat_eq, true, false, if◌then◌else◌, Option, Some, None, List, [], ◌∷◌}
use Rattle.rl_base.specs.declared.ids.SymbolId.{SymbolId}
use Rattle.rl_machine.specs.declared.trace.Answer.{Answer}
use Rattle.rl_machine.specs.declared.trace.AnswerKind.{AnswerKind}
use Rattle.rl_machine.specs.declared.trace.AnswerKind.TheVariants as kinds
use Rattle.rl_machine.specs.declared.trace.Assignment.{Assignment}
use Rattle.rl_machine.specs.declared.trace.Ending.{Ending}
use Rattle.rl_machine.specs.declared.trace.Event.{Event}
use Rattle.rl_machine.specs.declared.trace.Trace.{Trace}
use Rattle.rl_machine.specs.declared.trace.Value.{Value}
use Rattle.rl_machine.specs.declared.trace.Value.TheVariants as value
use Rattle.rl_model.proofs.ExampleUnits.{node, unit as unit_with}
use Rattle.rl_syntax.specs.Syntax.{Syntax, Said, Flag, Listed, Absent, pieces_of}
use Rattle.rl_syntax.specs.declared.word.Word.{Word}
use Rattle.rl_syntax.specs.declared.word.Word.TheVariants as word

-- Trees; `unit` gives their nodes ids, in the order of the text.

abbrev pub tree : Word → List Syntax → Syntax
tree w parts = node 0 w parts

abbrev pub listed : List Syntax → Syntax
listed parts = Listed (pieces_of parts)

abbrev pub text : List ℕ → Syntax
text t = Said t

abbrev pub yes : Syntax
yes = Flag true

abbrev pub no : Syntax
no = Flag false

-- The use of a name, and its declaration.
abbrev pub id : List ℕ → Syntax
id t = tree word.Id (Said t ∷ [])

abbrev pub name : List ℕ → Syntax
name t = tree word.Bind (Said t ∷ Absent ∷ [])

abbrev pub unit : List Syntax → Syntax
unit statements = unit_with statements

-- Values, answers and traces.

abbrev pub given : (number : ℕ) → Value
given number = value.Given number

abbrev pub sets : (symbol : ℕ) → Value → Assignment
sets symbol v = record { symbol = record { 0 = symbol }; value = v }

abbrev pub full : AnswerKind → Value → (pieces : List Value) → List Assignment → Answer
full kind v pieces assignments = record { kind = kind; value = v; pieces = pieces; assignments = assignments }

abbrev pub yields : (number : ℕ) → Answer
yields number = full kinds.Yes (given number) [] []

abbrev pub refuses : (number : ℕ) → Answer
refuses number = full kinds.No (given number) [] []

abbrev pub throws : (number : ℕ) → Answer
throws number = full kinds.Throw (given number) [] []

abbrev pub traced : List Event → Ending → Option Trace
traced events end = Some (record { events = events; ending = end })

-- The symbols to which function declarations store, by the `bind` of their names, as the port picks them.
abbrev pub picked : List (ℕ × ℕ) → (bind : ℕ) → Option SymbolId
picked [] bind = None
picked (p ∷ ps) bind = if nat_eq p.0 bind then Some (record { 0 = p.1 }) else picked ps bind

-- The unit of an arrow function with these parameters and statements.
abbrev pub of_body : (params statements : List Syntax) → Syntax
of_body params statements =
    unit (tree word.Expr (
    tree word.Arrow (
    yes ∷ no ∷ tree word.Params (listed params ∷ Absent ∷ []) ∷ tree word.Body (listed [] ∷ listed statements ∷ []) ∷
    []) ∷
    []) ∷ [])
