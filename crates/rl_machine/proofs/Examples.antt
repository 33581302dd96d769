-- The machine, tried on small graphs: conditions, constructs without a choice, a `try`, updates and variables.
use Rattle.std.proofs.Common.{◌≡◌, ℕ, ◌+◌, true, false, Bool, Some, None, List, [], ◌∷◌, codes, refl}
use Rattle.rl_base.specs.declared.operator.LogicalOperator.{LogicalOperator}
use Rattle.rl_base.specs.declared.operator.LogicalOperator.TheVariants as logical
use Rattle.rl_base.specs.declared.operator.UpdateOperator.TheVariants as updates
use Rattle.rl_hir.specs.declared.instruction.ArrayElement.TheVariants as elements
use Rattle.rl_hir.specs.declared.instruction.InstructionKind.{InstructionKind}
use Rattle.rl_hir.specs.declared.instruction.InstructionKind.TheVariants as kinds
use Rattle.rl_hir.specs.declared.instruction.InstructionValue.{InstructionValue}
use Rattle.rl_hir.specs.declared.instruction.InstructionValue.TheVariants as values
use Rattle.rl_hir.specs.declared.instruction.Pattern.TheVariants as patterns
use Rattle.rl_hir.specs.declared.instruction.PrimitiveValue.TheVariants as primitives
use Rattle.rl_hir.specs.declared.instruction.PropertyLiteral.TheVariants as keys
use Rattle.rl_hir.specs.declared.terminal.GotoVariant.TheVariants as gotos
use Rattle.rl_hir.specs.declared.terminal.ReturnVariant.TheVariants as returns
use Rattle.rl_hir.specs.declared.terminal.TerminalKind.{TerminalKind}
use Rattle.rl_hir.specs.declared.terminal.TerminalKind.TheVariants as ends
use Rattle.rl_machine.proofs.ExampleGraphs.{alone, answer, block, branches, given, gives, global, goes, graph, instruction, lists, loads, place, returns_place, stores, trace, trace_of}
use Rattle.rl_machine.specs.Machine.{Graph, graph_trace}
use Rattle.rl_machine.specs.Traces.{World, matches, nullish, truthy, waiting}
use Rattle.rl_machine.specs.declared.trace.Answer.{Answer}
use Rattle.rl_machine.specs.declared.trace.AnswerKind.TheVariants.{Yes, No, Throw}
use Rattle.rl_machine.specs.declared.trace.Assignment.{Assignment}
use Rattle.rl_machine.specs.declared.trace.Ending.{Ending}
use Rattle.rl_machine.specs.declared.trace.Ending.TheVariants as ending
use Rattle.rl_machine.specs.declared.trace.Event.{Event}
use Rattle.rl_machine.specs.declared.trace.Value.{Value}
use Rattle.rl_machine.specs.declared.trace.Value.TheVariants as value

-- `if (p) return f; return p`
abbrev branch : Graph
branch = graph
    (lists 0 [] (ends.If (place 0) (block 1) (block 2) (block 2)) ∷ lists 1 (0 ∷ []) (returns_place 1) ∷ lists 2 [] (returns_place 0) ∷ [])
    (loads 1 (codes "f") ∷ [])

if_yes : trace_of branch (answer Yes 1 ∷ answer Yes 2 ∷ []) ≡ trace (truthy (given 9) ∷ global (codes "f") ∷ []) (gives 2)
if_yes = refl

if_no : trace_of branch (answer No 1 ∷ []) ≡ trace (truthy (given 9) ∷ []) (gives 9)
if_no = refl

-- A throw at a test, which never throws, is a no.
if_throw : trace_of branch (answer Throw 1 ∷ []) ≡ trace (truthy (given 9) ∷ []) (gives 9)
if_throw = refl

-- `return p && f`: on a yes the alternate runs, which computes the right part.
abbrev connects : LogicalOperator → Graph
connects operator = graph
    (lists 0 [] (ends.Logical operator (block 1) (block 4)) ∷ lists 1 [] (branches 0 2 3 4)
    ∷ lists 2 (0 ∷ []) (goes 4) ∷ lists 3 (1 ∷ 2 ∷ []) (goes 4) ∷ lists 4 [] (returns_place 5) ∷ [])
    (stores 1 5 0 ∷ loads 2 (codes "f") ∷ stores 3 5 2 ∷ [])

and_yes : trace_of (connects logical.And) (answer Yes 1 ∷ answer Yes 2 ∷ []) ≡ trace (truthy (given 9) ∷ global (codes "f") ∷ []) (gives 2)
and_yes = refl

and_no : trace_of (connects logical.And) (answer No 1 ∷ []) ≡ trace (truthy (given 9) ∷ []) (gives 9)
and_no = refl

or_yes : trace_of (connects logical.Or) (answer Yes 1 ∷ []) ≡ trace (truthy (given 9) ∷ []) (gives 9)
or_yes = refl

or_throw : trace_of (connects logical.Or) (answer Throw 1 ∷ answer Yes 2 ∷ []) ≡ trace (truthy (given 9) ∷ global (codes "f") ∷ []) (gives 2)
or_throw = refl

coalesce_yes : trace_of (connects logical.Coalesce) (answer Yes 1 ∷ answer Yes 2 ∷ []) ≡ trace (nullish (given 9) ∷ global (codes "f") ∷ []) (gives 2)
coalesce_yes = refl

-- `return p ? f : p`
abbrev chooses : Graph
chooses = graph
    (lists 0 [] (ends.Ternary (block 1) (block 4)) ∷ lists 1 [] (branches 0 2 3 4)
    ∷ lists 2 (0 ∷ 1 ∷ []) (goes 4) ∷ lists 3 (2 ∷ []) (goes 4) ∷ lists 4 [] (returns_place 5) ∷ [])
    (loads 1 (codes "f") ∷ stores 2 5 1 ∷ stores 3 5 0 ∷ [])

ternary_yes : trace_of chooses (answer Yes 1 ∷ answer Yes 2 ∷ []) ≡ trace (truthy (given 9) ∷ global (codes "f") ∷ []) (gives 2)
ternary_yes = refl

ternary_no : trace_of chooses (answer No 1 ∷ []) ≡ trace (truthy (given 9) ∷ []) (gives 9)
ternary_no = refl

-- `return p?.a`, where the flag is true; without it a link of a chain that another one tests, which goes straight on.
abbrev chains : (optional : Bool) → Graph
chains optional = graph
    (lists 0 [] (ends.Optional optional (block 1) (block 4)) ∷ lists 1 [] (branches 0 2 3 4)
    ∷ lists 2 (0 ∷ 1 ∷ []) (goes 4) ∷ lists 3 (2 ∷ 3 ∷ []) (goes 4) ∷ lists 4 [] (returns_place 5) ∷ [])
    (instruction 1 (values.PropertyLoad (place 0) (keys.String (codes "a"))) ∷ stores 2 5 1
    ∷ instruction 3 (values.Primitive primitives.Undefined) ∷ stores 4 5 3 ∷ [])

abbrev loads_a : Event
loads_a = record { kind = codes "propertyload"; texts = []; operands = given 9 ∷ value.Text (codes "a") ∷ [] }

optional_nullish : trace_of (chains true) (answer Yes 1 ∷ []) ≡ trace (nullish (given 9) ∷ []) (ending.Returned returns.Explicit value.Undefined [])
optional_nullish = refl

optional_value : trace_of (chains true) (answer No 1 ∷ answer Yes 2 ∷ []) ≡ trace (nullish (given 9) ∷ loads_a ∷ []) (gives 2)
optional_value = refl

link_straight : trace_of (chains false) (answer Yes 2 ∷ []) ≡ trace (loads_a ∷ []) (gives 2)
link_straight = refl

-- `return f, p`, and `a: { f; break a } return p`: their blocks run in a row.
abbrev in_a_row : TerminalKind → Graph
in_a_row kind = graph (lists 0 [] kind ∷ lists 1 (0 ∷ []) (goes 2) ∷ lists 2 [] (returns_place 0) ∷ []) (loads 1 (codes "f") ∷ [])

sequence : trace_of (in_a_row (ends.Sequence (block 1) (block 2))) (answer Yes 1 ∷ []) ≡ trace (global (codes "f") ∷ []) (gives 9)
sequence = refl

label : trace_of (in_a_row (ends.Label (block 1) (block 2))) (answer Yes 1 ∷ []) ≡ trace (global (codes "f") ∷ []) (gives 9)
label = refl

-- `throw p`
throws : trace_of (graph (lists 0 [] (ends.Throw (place 0)) ∷ []) []) [] ≡ trace [] (ending.Threw (given 9))
throws = refl

-- `switch (p) { case null: return f; default: return p; case undefined: return g }`: the tests are compared in order, the default is
-- taken last.
abbrev cases : Graph
cases = graph
    (lists 0 (0 ∷ 1 ∷ []) (ends.Switch (place 0) (record { test = Some (place 1); block = block 1 } ∷ record { test = None; block = block 2 } ∷ record { test = Some (place 2); block = block 3 } ∷ []) (block 4))
    ∷ lists 1 (2 ∷ []) (returns_place 3) ∷ lists 2 [] (returns_place 0) ∷ lists 3 (3 ∷ []) (returns_place 4) ∷ [])
    (instruction 1 (values.Primitive primitives.Null) ∷ instruction 2 (values.Primitive primitives.Undefined)
    ∷ loads 3 (codes "f") ∷ loads 4 (codes "g") ∷ [])

first_case : trace_of cases (answer Yes 1 ∷ answer Yes 2 ∷ []) ≡ trace (matches (given 9) value.Null ∷ global (codes "f") ∷ []) (gives 2)
first_case = refl

third_case : trace_of cases (answer No 1 ∷ answer Yes 2 ∷ answer Yes 3 ∷ [])
    ≡ trace (matches (given 9) value.Null ∷ matches (given 9) value.Undefined ∷ global (codes "g") ∷ []) (gives 3)
third_case = refl

default_case : trace_of cases (answer No 1 ∷ answer Throw 2 ∷ []) ≡ trace (matches (given 9) value.Null ∷ matches (given 9) value.Undefined ∷ []) (gives 9)
default_case = refl

-- `try { f } catch (e) { return e } return p`
abbrev guarded : Graph
guarded = graph
    (lists 0 [] (ends.Try (block 1) (Some (place 7)) (block 2) (block 3))
    ∷ lists 1 (0 ∷ []) (ends.MaybeThrow (block 4) (Some (block 2))) ∷ lists 4 [] (ends.Goto (block 3) gotos.Try)
    ∷ lists 2 [] (returns_place 7) ∷ lists 3 [] (returns_place 0) ∷ [])
    (loads 1 (codes "f") ∷ [])

caught : trace_of guarded (answer Throw 5 ∷ []) ≡ trace (global (codes "f") ∷ []) (gives 5)
caught = refl

not_thrown : trace_of guarded (answer Yes 5 ∷ []) ≡ trace (global (codes "f") ∷ []) (gives 9)
not_thrown = refl

-- `try { f } catch { return p }`: a handler without a binding lets the value go.
unbound : trace_of (graph (lists 0 [] (ends.Try (block 1) None (block 2) (block 3)) ∷ lists 1 (0 ∷ []) (ends.MaybeThrow (block 3) (Some (block 2))) ∷ lists 2 [] (returns_place 0) ∷ []) (loads 1 (codes "f") ∷ []))
    (answer Throw 5 ∷ []) ≡ trace (global (codes "f") ∷ []) (gives 9)
unbound = refl

-- A throw without a handler ends the run.
uncaught : trace_of branch (answer Yes 1 ∷ answer Throw 5 ∷ []) ≡ trace (truthy (given 9) ∷ global (codes "f") ∷ []) (ending.Threw (given 5))
uncaught = refl

no_handler : trace_of (graph (lists 0 (0 ∷ []) (ends.MaybeThrow (block 1) None) ∷ lists 1 [] (returns_place 0) ∷ []) (loads 1 (codes "f") ∷ [])) (answer Throw 5 ∷ []) ≡ trace (global (codes "f") ∷ []) (ending.Threw (given 5))
no_handler = refl

-- `p++` gives the old value, `++p` the new one; both set `p`.
abbrev updated : InstructionValue → (identifier : ℕ) → Graph
updated v identifier = graph (lists 0 (0 ∷ []) (returns_place identifier) ∷ []) (instruction 1 v ∷ [])

abbrev increments : (kind : List ℕ) → Event
increments kind = record { kind = kind; texts = codes "++" ∷ []; operands = given 9 ∷ [] }

postfix_gives : trace_of (updated (values.PostfixUpdate updates.Increment (place 0) (place 0)) 1) (answer Yes 5 ∷ []) ≡ trace (increments (codes "postfixupdate") ∷ []) (gives 9)
postfix_gives = refl

postfix_sets : trace_of (updated (values.PostfixUpdate updates.Increment (place 0) (place 0)) 0) (answer Yes 5 ∷ []) ≡ trace (increments (codes "postfixupdate") ∷ []) (gives 5)
postfix_sets = refl

prefix_gives : trace_of (updated (values.PrefixUpdate updates.Increment (place 0) (place 0)) 1) (answer Yes 5 ∷ []) ≡ trace (increments (codes "prefixupdate") ∷ []) (gives 5)
prefix_gives = refl

prefix_sets : trace_of (updated (values.PrefixUpdate updates.Increment (place 0) (place 0)) 0) (answer Yes 5 ∷ []) ≡ trace (increments (codes "prefixupdate") ∷ []) (gives 5)
prefix_sets = refl

-- `[, x] = p`: the targets take the pieces, a hole takes none.
abbrev pieces : Answer
pieces = record { kind = Yes; value = given 1; pieces = given 6 ∷ []; assignments = [] }

taken_apart : trace_of (updated (values.Destructure (record { kind = kinds.Let; pattern = patterns.Array (elements.Hole ∷ elements.Place (place 4) ∷ []); value = place 0 })) 4) (pieces ∷ [])
    ≡ trace (record { kind = codes "destructure"; texts = codes "array" ∷ codes "hole" ∷ codes "place" ∷ []; operands = given 9 ∷ [] } ∷ []) (gives 6)
taken_apart = refl

-- A declaration sets its variable to Undefined. The marker of a hoisted one, and the parameter of a `catch`, leave it as it is.
abbrev undefined : Ending
undefined = ending.Returned returns.Explicit value.Undefined []

-- The declaration of the parameter in either form, by its kind, has the ending.
record Declares (kind : InstructionKind) (e : Ending) : Type 0 where
  local : trace_of (updated (values.DeclareLocal kind (place 0)) 0) [] ≡ trace [] e
  context : trace_of (updated (values.DeclareContext kind (place 0)) 0) [] ≡ trace [] e

declares_const : Declares kinds.Const undefined
declares_const = record { local = refl; context = refl }

declares_let : Declares kinds.Let undefined
declares_let = record { local = refl; context = refl }

declares_reassign : Declares kinds.Reassign undefined
declares_reassign = record { local = refl; context = refl }

declares_function : Declares kinds.Function undefined
declares_function = record { local = refl; context = refl }

declares_catch : Declares kinds.Catch (gives 9)
declares_catch = record { local = refl; context = refl }

declares_hoisted_const : Declares kinds.HoistedConst (gives 9)
declares_hoisted_const = record { local = refl; context = refl }

declares_hoisted_let : Declares kinds.HoistedLet (gives 9)
declares_hoisted_let = record { local = refl; context = refl }

declares_hoisted_function : Declares kinds.HoistedFunction (gives 9)
declares_hoisted_function = record { local = refl; context = refl }

-- An answer sets an open variable through its symbol, and a return gives the values that others see.
abbrev shared : World
shared = record { opens = λ symbol. true; keeps = 3 ∷ [] }

abbrev sets : (symbol number : ℕ) → Assignment
sets symbol number = record { symbol = record { 0 = symbol }; value = given number }

abbrev assigns : Answer
assigns = record { kind = Yes; value = given 1; pieces = []; assignments = sets 3 8 ∷ [] }

sees : graph_trace waiting branch (λ symbol. Some 0) shared (0 ∷ []) [] (given 9 ∷ []) (answer Yes 1 ∷ assigns ∷ [])
    ≡ trace (truthy (given 9) ∷ global (codes "f") ∷ []) (ending.Returned returns.Explicit (given 1) (sets 3 8 ∷ []))
sees = refl

-- A variable that is not open stays as it is.
keeps_closed : graph_trace waiting branch (λ symbol. Some 0) alone (0 ∷ []) [] (given 9 ∷ []) (record { kind = No; value = given 1; pieces = []; assignments = sets 3 8 ∷ [] } ∷ []) ≡ trace (truthy (given 9) ∷ []) (gives 9)
keeps_closed = refl

-- The start store sets variables through their symbols, the last assignment of a symbol counts, a symbol without an identifier sets
-- none, and a parameter takes its argument whatever the start store says.
abbrev starts : (returned : ℕ) → List Assignment → List Value → Ending → Type 0
starts returned start arguments e = graph_trace waiting (graph (lists 0 [] (returns_place returned) ∷ []) []) (λ symbol. Some (symbol + 1)) alone (0 ∷ 1 ∷ []) start arguments [] ≡ trace [] e

starts_set : starts 4 (sets 3 7 ∷ sets 3 8 ∷ []) [] (gives 8)
starts_set = refl

starts_unset : starts 4 [] [] undefined
starts_unset = refl

starts_argument : starts 1 (sets 0 8 ∷ []) (given 6 ∷ given 7 ∷ []) (gives 7)
starts_argument = refl

-- A parameter without an argument is Undefined.
starts_missing : starts 1 (sets 0 8 ∷ []) (given 6 ∷ []) undefined
starts_missing = refl

starts_nowhere : graph_trace waiting (graph (lists 0 [] (returns_place 4) ∷ []) []) (λ symbol. None) alone [] (sets 3 8 ∷ []) [] [] ≡ trace [] undefined
starts_nowhere = refl
