-- The parts of small graphs on which the machine is tried, and their runs.
use Rattle.std.proofs.Common.{ℕ, false, None, List, [], ◌∷◌, map, codes}
use Rattle.rl_base.specs.declared.ids.BlockId.{BlockId}
use Rattle.rl_hir.specs.Blocks.{Pair}
use Rattle.rl_hir.specs.declared.function.BlockKind.TheVariants as blocks
use Rattle.rl_hir.specs.declared.instruction.Instruction.{Instruction}
use Rattle.rl_hir.specs.declared.instruction.InstructionKind.TheVariants as kinds
use Rattle.rl_hir.specs.declared.instruction.InstructionValue.{InstructionValue}
use Rattle.rl_hir.specs.declared.instruction.InstructionValue.TheVariants as values
use Rattle.rl_hir.specs.declared.instruction.NonLocalBinding.TheVariants as bindings
use Rattle.rl_hir.specs.declared.instruction.Place.{Place}
use Rattle.rl_hir.specs.declared.terminal.GotoVariant.TheVariants as gotos
use Rattle.rl_hir.specs.declared.terminal.ReturnVariant.TheVariants as returns
use Rattle.rl_hir.specs.declared.terminal.TerminalKind.{TerminalKind}
use Rattle.rl_hir.specs.declared.terminal.TerminalKind.TheVariants as ends
use Rattle.rl_machine.specs.Machine.{Graph, graph_trace}
use Rattle.rl_machine.specs.Traces.{World, waiting}
use Rattle.rl_machine.specs.declared.trace.Answer.{Answer}
use Rattle.rl_machine.specs.declared.trace.AnswerKind.{AnswerKind}
use Rattle.rl_machine.specs.declared.trace.Ending.{Ending}
use Rattle.rl_machine.specs.declared.trace.Ending.TheVariants as ending
use Rattle.rl_machine.specs.declared.trace.Event.{Event}
use Rattle.rl_machine.specs.declared.trace.Trace.{Trace}
use Rattle.rl_machine.specs.declared.trace.Value.{Value}
use Rattle.rl_machine.specs.declared.trace.Value.TheVariants as value

-- Identifier 0 is the parameter, and instruction `n` of the table gives identifier `n + 1`.

abbrev pub place : (identifier : ℕ) → Place
place identifier = record { identifier = record { 0 = identifier }; span = None }

abbrev pub instruction : (identifier : ℕ) → InstructionValue → Instruction
instruction identifier v = record { order = record { 0 = 0 }; lvalue = place identifier; value = v; span = None }

abbrev pub block : (id : ℕ) → BlockId
block id = record { 0 = id }

-- The block `id`, which lists the instructions at the indices `listed` and ends by `kind`.
abbrev pub lists : (id : ℕ) (listed : List ℕ) (kind : TerminalKind) → Pair
lists id listed kind = (
  block id,
  record {
    kind = blocks.Block;
    instructions = map (λ n. record { 0 = n }) listed;
    terminal = record { order = record { 0 = 0 }; span = None; kind = kind };
    preds = [];
  },
)

-- The graph whose entry is block 0.
abbrev pub graph : List Pair → List Instruction → Graph
graph pairs table = record { blocks = pairs; table = table; entry = block 0 }

abbrev pub given : (number : ℕ) → Value
given number = value.Given number

-- The world of a function that shares no variable.
abbrev pub alone : World
alone = record { opens = λ symbol. false; keeps = [] }

-- The trace of a run with the argument 9.
abbrev pub trace_of : Graph → List Answer → Trace
trace_of g answers = graph_trace waiting g (λ symbol. None) alone (0 ∷ []) [] (given 9 ∷ []) answers

abbrev pub answer : AnswerKind → (number : ℕ) → Answer
answer kind number = record { kind = kind; value = given number; pieces = []; assignments = [] }

abbrev pub trace : List Event → Ending → Trace
trace events e = record { events = events; ending = e }

-- The ending of a run that returns the value with this number.
abbrev pub gives : (number : ℕ) → Ending
gives number = ending.Returned returns.Explicit (given number) []

-- The event that reads the global `name`, and the instruction that asks it.
abbrev pub global : (name : List ℕ) → Event
global name = record { kind = codes "global"; texts = name ∷ []; operands = [] }

abbrev pub loads : (identifier : ℕ) (name : List ℕ) → Instruction
loads identifier name = instruction identifier (values.LoadGlobal (bindings.Global name))

-- The instruction that writes the value of identifier `from` to identifier `to`.
abbrev pub stores : (identifier to from : ℕ) → Instruction
stores identifier to from = instruction identifier (values.StoreLocal kinds.Const (place to) (place from))

abbrev pub goes : (id : ℕ) → TerminalKind
goes id = ends.Goto (block id) gotos.Break

-- The end of a loop's turn.
abbrev pub goes_on : (id : ℕ) → TerminalKind
goes_on id = ends.Goto (block id) gotos.Continue

-- The branch behind the test of identifier `test`, whose note stands at block `at`.
abbrev pub branches : (test consequent alternate at : ℕ) → TerminalKind
branches test consequent alternate at = ends.Branch (place test) (block consequent) (block alternate) (block at)

abbrev pub returns_place : (identifier : ℕ) → TerminalKind
returns_place identifier = ends.Return returns.Explicit (place identifier)
