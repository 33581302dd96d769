-- The states of the machine, and the runs that they stand for.
use Rattle.std.specs.Prelude.{ℕ, ◌+◌, Bool, true, false, Option, Some, None, List, [], ◌∷◌}
use Rattle.rl_base.specs.declared.ids.BlockId.{BlockId}
use Rattle.rl_hir.specs.Blocks.{Pair}
use Rattle.rl_hir.specs.declared.instruction.Instruction.{Instruction}
use Rattle.rl_hir.specs.declared.instruction.Place.{Place}
use Rattle.rl_hir.specs.declared.terminal.Case.{Case}
use Rattle.rl_hir.specs.declared.terminal.TerminalKind.{TerminalKind}
use Rattle.rl_hir.specs.declared.terminal.TerminalKind.TheVariants as kinds
use Rattle.rl_machine.specs.Acts.{Act, Landing, landed, set_each}
use Rattle.rl_machine.specs.Ends.{Leaving, Notes, noted}
use Rattle.rl_machine.specs.Ends as ends
use Rattle.rl_machine.specs.Machine.{Code, Item, Next, at, branched, caught, choice_at, code_in}
use Rattle.rl_machine.specs.Machine.{compared, executed, left, opened, step, step_to}
use Rattle.rl_machine.specs.Machine as machine
use Rattle.rl_machine.specs.Traces.{fired, matches, returned, tested, threw, waiting}
use Rattle.rl_machine.specs.declared.trace.Event.{Event}
use Rattle.rl_machine.specs.declared.trace.Trace.{Trace}
use Rattle.rl_machine.specs.declared.trace.Answer.{Answer}
use Rattle.rl_machine.specs.declared.trace.Value.{Value}
use Rattle.rl_machine.specs.declared.trace.Value.TheVariants as value
use Rattle.rl_trace.specs.Progress.{Seen, after, change_of, kept_in, seen}
use Rattle.rl_trace.specs.Values.{shown}
use Rattle.rl_graph_steps.specs.Notes.{note_of, notes_of}
use Rattle.rl_graph_steps.specs.declared.machine.Found.{Found}
use Rattle.rl_graph_steps.specs.declared.machine.Found.TheVariants as found
use Rattle.rl_graph_steps.specs.declared.machine.Goes.{Goes}
use Rattle.rl_graph_steps.specs.declared.machine.Goes.TheVariants as goes
use Rattle.rl_graph_steps.specs.declared.leave.Hit.{Hit}
use Rattle.rl_graph_steps.specs.declared.leave.Hit.TheVariants as hits
use Rattle.rl_graph_steps.specs.declared.machine.Machine.{Machine}
use Rattle.rl_graph_steps.specs.declared.machine.Run.{Run}
use Rattle.rl_graph_steps.specs.declared.note.Note.{Note}

-- The runs behind a step of some code: behind one that asked no event, and behind one that asked an event.
pub record Ahead : Type 0 where
  pub silent : Code → Next
  pub loud : Code → Next

-- A run that is about to make a step: the graph, the notes and the progress.
pub record State : Type 0 where
  pub blocks : List Pair
  pub table : List Instruction
  pub notes : Notes
  pub seen : Seen

abbrev pub state_of : Machine → Run → State
state_of m r = record { blocks = m.blocks.now; table = m.table.now; notes = notes_of r.notes; seen = seen r.progress }

abbrev pub code : State → Code
code s = code_in s.blocks s.table s.seen.ident s.seen.world

abbrev pub noted_in : BlockId → Note → State → State
noted_in b n s = record s { notes = noted s.notes b (note_of n) }

abbrev pub with_seen : State → Seen → State
with_seen s q = record s { seen = q }

-- The trace behind a step: the run goes on silently or loudly, or ends.
abbrev pub came : Ahead → Goes → State → Trace
came ahead (goes.Silently b index) s = after s.seen.events (ahead.silent (code s) b.0 index s.seen.store s.notes s.seen.answers)
came ahead (goes.Loudly b index) s = after s.seen.events (ahead.loud (code s) b.0 index s.seen.store s.notes s.seen.answers)
came ahead (goes.Returned variant v) s = after s.seen.events (returned (kept_in s.seen) variant (shown v))
came ahead (goes.Threw v) s = after s.seen.events (threw (shown v))
came ahead goes.Waiting s = after s.seen.events waiting

-- The runs behind a test that was asked, or before all.
abbrev pub next_of : Ahead → (asked : Bool) → Code → Next
next_of ahead true = ahead.loud
next_of ahead false = ahead.silent

-- The end of a block, by its effect.
abbrev pub leaves_by : Ahead → Leaving → State → Trace
leaves_by ahead l s = after s.seen.events (left waiting (code s) l (ahead.silent (code s)) (ahead.loud (code s)) s.notes s.seen.store s.seen.answers)

-- A branch, by the note at its fallthrough.
abbrev pub branches : Ahead → Option ends.Note → (test : ℕ) → (consequent alternate : BlockId) → State → Trace
branches ahead note test consequent alternate s =
    after s.seen.events (branched waiting (code s) (choice_at note) test consequent alternate (ahead.silent (code s))
    (ahead.loud (code s)) s.notes s.seen.store s.seen.answers)

-- A construct is noted at two blocks, and the run goes on in `block`.
abbrev pub enters : Ahead → (block first second : BlockId) → Note → State → Trace
enters ahead block first second n s =
    after s.seen.events (at (ahead.silent (code s)) block (noted (noted s.notes first (note_of n)) second (note_of n)) s.seen.store s.seen.answers)

-- A test.
abbrev pub tests : Ahead → Event → (if_yes if_no : BlockId) → State → Trace
tests ahead event if_yes if_no s =
    after s.seen.events (tested (change_of s.seen) event s.seen.store s.seen.answers (at (ahead.loud (code s)) if_yes s.notes) (at
    (ahead.loud (code s)) if_no s.notes))

-- The cases of a `switch`, behind a test that was asked, or before all.
abbrev pub compares : Ahead → List Case → (other : Option BlockId) → (value : ℕ) → (asked : Bool) → State → Trace
compares ahead cases other value asked s =
    after s.seen.events (compared waiting (code s) cases other value (next_of ahead asked (code s)) (ahead.loud (code s)) s.notes s.seen.store s.seen.answers)

-- A throw to a handler, or out of the function where there is none.
abbrev pub throws_to : Ahead → (handler : Option ℕ) → Value → State → Trace
throws_to ahead handler v s = after s.seen.events (caught waiting handler s.notes (ahead.loud (code s)) v s.seen.store s.seen.answers)

-- An event of an instruction, whose answer lands so.
abbrev pub fires : Ahead → Event → Landing → (id index : ℕ) → State → Trace
fires ahead event landing id index s =
    after s.seen.events (fired (change_of s.seen) event s.seen.store s.seen.answers (λ a later rest. ahead.loud (code s) id (index + 1)
    (landed landing a later) s.notes rest)
    (caught waiting ((code s).catcher id) s.notes (ahead.loud (code s))))

-- The effect of an instruction.
abbrev pub executes : Ahead → Act → (id index : ℕ) → State → Trace
executes ahead act id index s =
    after s.seen.events (executed waiting (code s) act (ahead.silent (code s)) (ahead.loud (code s)) id index s.seen.store s.notes s.seen.answers)

-- A step of a loop, behind which a block comes.
abbrev pub steps_to : Ahead → (behind : Option BlockId) → Event → (result id index : ℕ) → State → Trace
steps_to ahead behind event result id index s =
    after s.seen.events (step_to waiting (code s) behind event result (ahead.loud (code s)) id index s.seen.store s.notes s.seen.answers)

-- Asks for an iterator, by the note at the block.
abbrev pub opens_by : Ahead → Option ends.Note → Event → (result id index : ℕ) → State → Trace
opens_by ahead note event result id index s =
    after s.seen.events (opened waiting (code s) note event result (ahead.silent (code s)) (ahead.loud (code s)) id index s.seen.store s.notes s.seen.answers)

-- The comparison of a value with that of a case.
abbrev pub test_of : State → (value : ℕ) → Place → Event
test_of s value test = matches (s.seen.store value) (s.seen.store test.identifier.0)

-- The cases of a `switch`; None of another terminal.
abbrev pub cases_of : TerminalKind → Option (List Case)
cases_of (kinds.Switch test cases fallthrough) = Some cases
cases_of _ = None

-- The comparison of a value with the cases of a terminal; none where it has no cases.
abbrev pub comparing : (value : ℕ) → Option (List Case) → (fallthrough : BlockId) → Leaving
comparing value (Some cases) fallthrough = ends.Compares value cases fallthrough
comparing value None fallthrough = ends.Stops

-- The run behind all cases.
abbrev pub default_goes : (other : Option BlockId) → (asked : Bool) → Goes
default_goes None asked = goes.Waiting
default_goes (Some block) true = goes.Loudly block 0
default_goes (Some block) false = goes.Silently block 0

-- The run behind a case: the cases that are left are compared, or it goes on.
abbrev pub compared_by : Ahead → Hit → List Case → (other : Option BlockId) → (value : ℕ) → State → Trace
compared_by ahead (hits.Missed asked) cases other value s = compares ahead cases other value asked s
compared_by ahead (hits.Ends g) cases other value s = came ahead g s

-- Identifiers take a value.
abbrev pub given : List ℕ → Value → State → State
given ids v s = record s { seen = record s.seen { store = set_each ids v s.seen.store } }

-- Identifiers take values where an event has its answer.
abbrev pub lands : Landing → Answer → State → State
lands landing a s = record s { seen = record s.seen { store = landed landing a s.seen.store } }

-- A run that takes the pieces of an answer, of which these are left.
pub record Taking : Type 0 where
  pub state : State
  pub left : List Value

abbrev pub took : (left : List Value) → State → Taking
took left s = record { state = s; left = left }

abbrev pub first_of : List Value → Value
first_of [] = value.Undefined
first_of (v ∷ values) = v

abbrev pub rest_of : List Value → List Value
rest_of [] = []
rest_of (v ∷ values) = values

-- Identifiers take the pieces that are left, in order.
abbrev pub takes : List ℕ → Taking → Taking
takes [] t = t
takes (id ∷ ids) t = takes ids (took (rest_of t.left) (given (id ∷ []) (first_of t.left) t.state))

-- A step by an item.
abbrev pub steps_by : Ahead → Option Item → (id index : ℕ) → State → Trace
steps_by ahead item id index s =
    after s.seen.events (step waiting (code s) item (ahead.silent (code s)) (ahead.loud (code s)) id index s.seen.store s.notes s.seen.answers)

abbrev pub steps_at : Ahead → (id index : ℕ) → State → Trace
steps_at ahead id index s = steps_by ahead ((code s).item id index) id index s

-- The item that was found at a program point.
abbrev pub item_of : Option Found → Option Item
item_of None = None
item_of (Some (found.Runs i)) = Some (machine.Runs i.now)
item_of (Some (found.Ends t)) = Some (machine.Ends t.now)

-- The trace of a run that ended. One that has not ended waits.
abbrev pub ended : Goes → State → Trace
ended (goes.Silently b index) s = after s.seen.events waiting
ended (goes.Loudly b index) s = after s.seen.events waiting
ended (goes.Returned variant v) s = after s.seen.events (returned (kept_in s.seen) variant (shown v))
ended (goes.Threw v) s = after s.seen.events (threw (shown v))
ended goes.Waiting s = after s.seen.events waiting
