-- The runs of a graph: one step for each instruction and terminal.
use Rattle.std.specs.Prelude.{ℕ, zero, suc, ◌+◌, nat_eq, Bool, true, false, if◌then◌else◌, Option, Some, None, List, [], ◌∷◌, length, map, slice_get}
use Rattle.std.specs.Option.{option_map}
use Rattle.rl_base.specs.declared.ids.BlockId.{BlockId}
use Rattle.rl_base.specs.declared.ids.InstructionId.{InstructionId}
use Rattle.rl_hir.specs.Blocks.{Pair, block_at}
use Rattle.rl_hir.specs.declared.instruction.Instruction.{Instruction}
use Rattle.rl_hir.specs.declared.instruction.Place.{Place}
use Rattle.rl_hir.specs.declared.terminal.Case.{Case}
use Rattle.rl_hir.specs.declared.terminal.Terminal.{Terminal}
use Rattle.rl_hir.specs.declared.function.BasicBlock.{BasicBlock}
use Rattle.rl_machine.specs.Acts.{Act, Computes, Asks, Opens, Steps, act, landed, set_each}
use Rattle.rl_machine.specs.Ends.{Leaving, Goes, Tests, Reads, Compares, Returns, Throws, Stops, Note, Iterates, Catches, Passes, Notes, no_notes, noted, all_noted, leaving, catcher_of, Choice, Truthy, Nullish, Straight, Nowhere, choice, exit_of}
use Rattle.rl_machine.specs.Traces.{Store, set, unset, take_values, World, Changer, Cont, ValueCont, fired, tested, stepped, returned, threw, truthy, nullish, matches}
use Rattle.rl_machine.specs.declared.trace.Value.{Value}
use Rattle.rl_machine.specs.declared.trace.Value.TheVariants.{Undefined}
use Rattle.rl_machine.specs.declared.trace.Answer.{Answer}
use Rattle.rl_machine.specs.declared.trace.Assignment.{Assignment}
use Rattle.rl_machine.specs.declared.trace.Event.{Event}
use Rattle.rl_machine.specs.declared.trace.Trace.{Trace}

-- The item at a program point: an instruction that runs, or the terminal that ends its block.
pub data Item : Type 0 where
  Runs : (i : Instruction) → Item
  Ends : (t : Terminal) → Item

-- A graph as functions, with the identifiers of the unit's symbols.
pub record Code : Type 0 where
  -- the item by block id and index in the block; the terminal's index is the number of instructions
  pub item : ℕ → ℕ → Option Item
  -- the handler to which the instructions of a block throw, by block id
  pub catcher : ℕ → Option ℕ
  -- the identifier of a symbol
  pub ident : ℕ → Option ℕ
  pub world : World

abbrev pub item_by : List Instruction → (listed : Option InstructionId) → (at_end : Bool) → Terminal → Option Item
item_by table (Some number) at_end terminal = option_map (λ i. Runs i) (slice_get table number.0)
item_by table None true terminal = Some (Ends terminal)
item_by table None false terminal = None

-- The item at an index of a block: its instructions in order, and then its terminal.
abbrev pub item_in : List Instruction → BasicBlock → ℕ → Option Item
item_in table block place = item_by table (slice_get block.instructions place) (nat_eq place (length block.instructions)) block.terminal

abbrev pub item_at : List Instruction → Option BasicBlock → ℕ → Option Item
item_at table None place = None
item_at table (Some block) place = item_in table block place

abbrev pub catcher_at : Option BasicBlock → Option ℕ
catcher_at None = None
catcher_at (Some block) = catcher_of block.terminal.kind

abbrev pub block_of : List Pair → ℕ → Option BasicBlock
block_of pairs id = block_at pairs (record { 0 = id })

-- The code of a graph and its instruction table.
abbrev pub code_in : List Pair → List Instruction → (ident : ℕ → Option ℕ) → World → Code
code_in pairs table ident world = record {
  item = λ id place. item_at table (block_of pairs id) place;
  catcher = λ id. catcher_at (block_of pairs id);
  ident = ident;
  world = world;
}

-- The continuation of a run: the trace from a block id, an index in the block, a store, the notes and the answers.
abbrev pub Next : Type 0
Next = ℕ → ℕ → Store → Notes → List Answer → Trace

abbrev pub set_where : Option ℕ → Store → Value → Store
set_where None store v = store
set_where (Some identifier) store v = set store identifier v

-- Applies assignments to the open variables, in order, in a store of identifiers: a symbol without one changes nothing.
abbrev pub set_by : (ident : ℕ → Option ℕ) (opens : ℕ → Bool) → Changer
set_by ident opens [] store = store
set_by ident opens (a ∷ assignments) store =
    set_by ident opens assignments (if opens a.symbol.0 then set_where (ident a.symbol.0) store a.value else store)

abbrev pub changer : Code → Changer
changer code = set_by code.ident code.world.opens

abbrev pub value_where : Option ℕ → Store → Value
value_where None store = Undefined
value_where (Some identifier) store = store identifier

-- The final values of the variables that other functions see.
abbrev pub kept_by : Code → Store → List Assignment
kept_by code store = map (λ symbol. record { symbol = record { 0 = symbol }; value = value_where (code.ident symbol) store }) code.world.keeps

-- A throw goes to the handler, where a `try` is noted whose binding takes the value.
abbrev pub caught_at : (stuck : Trace) → Option Note → (handler : ℕ) → Notes → Next → ValueCont
caught_at stuck (Some (Catches binding)) handler notes next v store answers = next handler 0 (set_where binding store v) notes answers
caught_at stuck _ handler notes next v store answers = stuck

-- A throw without a handler ends the run.
abbrev pub caught : (stuck : Trace) → (handler : Option ℕ) → Notes → Next → ValueCont
caught stuck None notes next v store answers = threw v
caught stuck (Some handler) notes next v store answers = caught_at stuck (notes handler) handler notes next v store answers

-- Asks for an iterator at a block where a `for`-`of` loop is noted: the event, or nothing if the block has asked before.
abbrev pub opened : (stuck : Trace) → Code → Option Note → Event → (result : ℕ) → (silent loud : Next) → Next
opened stuck code (Some (Iterates fallthrough true)) event result silent loud id place store notes answers = silent id (place + 1) store notes answers
opened stuck code (Some (Iterates fallthrough false)) event result silent loud id place store notes answers =
    let after : Notes = noted notes (record { 0 = id }) (Iterates fallthrough true) in
    fired (changer code) event store answers (λ a later rest. loud id (place + 1) (set later result a.value) after rest) (caught stuck (code.catcher id) after loud)
opened stuck code _ event result silent loud id place store notes answers = stuck

-- Asks for the next value of the loop that is noted at the block; the end goes behind the loop.
abbrev pub step_to : (stuck : Trace) → Code → (behind : Option BlockId) → Event → (result : ℕ) → Next → Next
step_to stuck code None event result loud id place store notes answers = stuck
step_to stuck code (Some behind) event result loud id place store notes answers =
    stepped (changer code) event store answers (λ v later rest. loud id (place + 1) (set later result v) notes rest) (λ later rest. loud behind.0 0 later notes rest)
    (caught stuck (code.catcher id) notes loud)

abbrev pub exit_at : Option Note → Option BlockId
exit_at None = None
exit_at (Some note) = exit_of note

-- Runs an instruction: the run goes on by `silent` if it asked no event, and by `loud` behind one. `stuck` is the trace of a run that
-- cannot go on.
abbrev pub executed : (stuck : Trace) → Code → Act → (silent loud : Next) → Next
executed stuck code (Computes v into) silent loud id place store notes answers = silent id (place + 1) (set_each into v store) notes answers
executed stuck code (Asks event landing) silent loud id place store notes answers =
    fired (changer code) event store answers (λ a later rest. loud id (place + 1) (landed landing a later) notes rest) (caught stuck (code.catcher id) notes loud)
executed stuck code (Opens event result) silent loud id place store notes answers = opened stuck code (notes id) event result silent loud id place store notes answers
executed stuck code (Steps event result) silent loud id place store notes answers = step_to stuck code (exit_at (notes id)) event result loud id place store notes answers

-- Goes to the start of a block.
abbrev pub at : Next → BlockId → Notes → Cont
at next block notes store answers = next block.0 0 store notes answers

-- Goes to one of two blocks by a choice.
abbrev pub branched : (stuck : Trace) → Code → Choice → (test : ℕ) (consequent alternate : BlockId) → (silent loud : Next) → Notes → Cont
branched stuck code (Truthy true) test consequent alternate silent loud notes store answers = tested (changer code) (truthy (store test)) store answers (at loud consequent notes) (at loud alternate notes)
branched stuck code (Truthy false) test consequent alternate silent loud notes store answers = tested (changer code) (truthy (store test)) store answers (at loud alternate notes) (at loud consequent notes)
branched stuck code Nullish test consequent alternate silent loud notes store answers = tested (changer code) (nullish (store test)) store answers (at loud alternate notes) (at loud consequent notes)
branched stuck code Straight test consequent alternate silent loud notes store answers = at silent consequent notes store answers
branched stuck code Nowhere test consequent alternate silent loud notes store answers = stuck

abbrev pub choice_at : Option Note → Choice
choice_at None = Nowhere
choice_at (Some note) = choice note

abbrev pub or_default : (test : Option Place) → BlockId → (rest : Option BlockId) → Option BlockId
or_default None block rest = Some block
or_default (Some test) block rest = rest

-- The block of the first case without a test.
abbrev pub default_case : List Case → Option BlockId
default_case [] = None
default_case (c ∷ cases) = or_default c.test c.block (default_case cases)

abbrev pub at_default : (stuck : Trace) → Option BlockId → Next → Notes → Cont
at_default stuck None next notes store answers = stuck
at_default stuck (Some block) next notes store answers = at next block notes store answers

-- Compares a value with that of a case: `hit` if it matches, `miss` if not, and `pass` if the case has no test.
abbrev pub tried : Changer → (test : Option Place) → (value : ℕ) → (hit miss pass : Cont) → Cont
tried change None value hit miss pass store answers = pass store answers
tried change (Some test) value hit miss pass store answers = tested change (matches (store value) (store test.identifier.0)) store answers hit miss

-- Compares a value with those of the cases, in order, and goes to the block of the first that matches, else to `other`.
abbrev pub compared : (stuck : Trace) → Code → List Case → (other : Option BlockId) → (value : ℕ) → (next loud : Next) → Notes → Cont
compared stuck code [] other value next loud notes store answers = at_default stuck other next notes store answers
compared stuck code (c ∷ cases) other value next loud notes store answers =
    tried (changer code) c.test value (at loud c.block notes) (compared stuck code cases other value loud loud notes)
    (compared stuck code cases other value next loud notes) store answers

-- Runs the end of a block.
abbrev pub left : (stuck : Trace) → Code → Leaving → (silent loud : Next) → Notes → Cont
left stuck code (Goes block marks) silent loud notes store answers = at silent block (all_noted marks notes) store answers
left stuck code (Tests test c a f) silent loud notes store answers =
    tested (changer code) (truthy (store test)) store answers (at loud c (noted notes f Passes)) (at loud a (noted notes f Passes))
left stuck code (Reads test c a f) silent loud notes store answers = branched stuck code (choice_at (notes f.0)) test c a silent loud notes store answers
left stuck code (Compares value cases f) silent loud notes store answers = compared stuck code cases (default_case cases) value silent loud (noted notes f Passes) store answers
left stuck code (Returns variant value) silent loud notes store answers = returned (kept_by code store) variant (store value)
left stuck code (Throws value) silent loud notes store answers = threw (store value)
left stuck code Stops silent loud notes store answers = stuck

-- Runs one item. `stuck` is the trace of a run that cannot go on: there is no item, a note is missing, nothing matches, or the block ends
-- as unreachable.
abbrev pub step : (stuck : Trace) → Code → Option Item → (silent loud : Next) → Next
step stuck code None silent loud id place store notes answers = stuck
step stuck code (Some (Runs i)) silent loud id place store notes answers = executed stuck code (act i.lvalue.identifier.0 i.value store) silent loud id place store notes answers
step stuck code (Some (Ends t)) silent loud id place store notes answers = left stuck code (leaving t.kind) silent loud notes store answers

-- The run that goes no further.
abbrev pub no_way : (stuck : Trace) → Next
no_way stuck id place store notes answers = stuck

-- Runs for at most `steps` steps. `most` bounds the silent steps in a row, and `quiet` is how many of them are left before
-- the next event. A run that comes to one of these bounds has the trace `stuck`.
abbrev pub exec : (stuck : Trace) → Code → (most steps quiet : ℕ) → Next
exec stuck code most zero quiet id place store notes answers = stuck
exec stuck code most (suc steps) zero id place store notes answers =
    step stuck code (code.item id place) (no_way stuck) (exec stuck code most steps most) id place store notes answers
exec stuck code most (suc steps) (suc quiet) id place store notes answers =
    step stuck code (code.item id place) (exec stuck code most steps quiet) (exec stuck code most steps most) id place store notes answers

-- The number of blocks and of the instructions that they list.
abbrev pub positions : List Pair → ℕ
positions [] = 0
positions (p ∷ pairs) = 1 + length p.1.instructions + positions pairs

-- A bound on the steps of a run: `most + 1` for each answer, and once more.
abbrev pub steps_for : List Answer → ℕ → ℕ
steps_for [] most = most + 1
steps_for (answer ∷ rest) most = most + 1 + steps_for rest most

-- The store in which a run begins: the start values are set, and the parameters take the arguments.
abbrev pub start_store : Code → (params : List ℕ) → List Assignment → List Value → Store
start_store code params start arguments = take_values params arguments (set_by code.ident (λ symbol. true) start unset)

-- The trace of a graph: the run from the entry. A run that ends for another cause
-- than that it returns, throws, or finds no answer left has the trace `stuck`: so does one that comes to more silent steps in a row than
-- `most`, and there is a bound on the steps of all others.
abbrev pub trace_in : (stuck : Trace) → Code → (most : ℕ) → (entry : BlockId) → (params : List ℕ) → List Assignment → List Value → List Answer → Trace
trace_in stuck code most entry params start arguments answers =
    exec stuck code most (steps_for answers most) most entry.0 0 (start_store code params start arguments) no_notes answers

-- A graph with its instruction table.
pub record Graph : Type 0 where
  pub blocks : List Pair
  pub table : List Instruction
  pub entry : BlockId

abbrev pub code_of : Graph → (ident : ℕ → Option ℕ) → World → Code
code_of g ident world = code_in g.blocks g.table ident world

-- The trace of a graph. A run that comes to more silent steps in a row than the graph has blocks and listed instructions cannot go on.
abbrev pub graph_trace : (stuck : Trace) → Graph → (ident : ℕ → Option ℕ) → World → (params : List ℕ) → List Assignment → List Value → List Answer → Trace
graph_trace stuck g ident world params start arguments answers = trace_in stuck (code_of g ident world) (positions g.blocks) g.entry params start arguments answers
