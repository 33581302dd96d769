-- Traces in continuation-passing style, as both the source and the graph build them.
use Rattle.std.specs.Prelude.{ℕ, nat_eq, Bool, if◌then◌else◌, List, [], ◌∷◌, codes}
use Rattle.rl_hir.specs.declared.terminal.ReturnVariant.{ReturnVariant}
use Rattle.rl_machine.specs.declared.trace.Value.{Value}
use Rattle.rl_machine.specs.declared.trace.Value.TheVariants.{Undefined}
use Rattle.rl_machine.specs.declared.trace.Assignment.{Assignment}
use Rattle.rl_machine.specs.declared.trace.Answer.{Answer}
use Rattle.rl_machine.specs.declared.trace.AnswerKind.{AnswerKind}
use Rattle.rl_machine.specs.declared.trace.AnswerKind.TheVariants.{Yes, No, Throw}
use Rattle.rl_machine.specs.declared.trace.Event.{Event}
use Rattle.rl_machine.specs.declared.trace.Ending.{Ending}
use Rattle.rl_machine.specs.declared.trace.Ending.TheVariants as ending
use Rattle.rl_machine.specs.declared.trace.Trace.{Trace}

-- The trace that has no events and ends as given.
abbrev pub ended : Ending → Trace
ended e = record { events = []; ending = e }

-- The trace of a run that finds no answer left.
abbrev pub waiting : Trace
waiting = ended ending.Waiting

-- The trace of a return. `kept` are the values of the variables that other functions see.
abbrev pub returned : (kept : List Assignment) → ReturnVariant → Value → Trace
returned kept variant value = ended (ending.Returned variant value kept)

abbrev pub threw : Value → Trace
threw value = ended (ending.Threw value)

-- Puts an event in front of a trace.
abbrev pub emit : Event → Trace → Trace
emit event trace = record trace { events = event ∷ trace.events }

-- Values by id: of symbols on the side of the source, of identifiers on the side of the graph.
abbrev pub Store : Type 0
Store = ℕ → Value

-- The store in which nothing has a value: a read gives Undefined.
abbrev pub unset : Store
unset _ = Undefined

abbrev pub set : Store → ℕ → Value → Store
set store id value = λ other. if nat_eq other id then value else store other

-- The store in which each id takes the value at its index, or Undefined where there is none.
abbrev pub take_values : List ℕ → List Value → Store → Store
take_values [] values store = store
take_values (id ∷ ids) [] store = take_values ids [] (set store id Undefined)
take_values (id ∷ ids) (v ∷ values) store = take_values ids values (set store id v)

-- The variables that a function shares with others, by symbol.
pub record World : Type 0 where
  -- true of a variable that another function assigns
  pub opens : ℕ → Bool
  -- the variables whose values other functions see when this one has returned, in order
  pub keeps : List ℕ

-- Continuations: the trace from a store and the answers that are left, from a value as well, from an answer, and from the values of some
-- parts.
abbrev pub Cont : Type 0
Cont = Store → List Answer → Trace

abbrev pub ValueCont : Type 0
ValueCont = Value → Store → List Answer → Trace

abbrev pub AnswerCont : Type 0
AnswerCont = Answer → Store → List Answer → Trace

abbrev pub ValuesCont : Type 0
ValuesCont = List Value → Store → List Answer → Trace

-- The effect of an answer's assignments on a store.
abbrev pub Changer : Type 0
Changer = List Assignment → Store → Store

-- Applies assignments to the open variables, in order, in a store of symbols.
abbrev pub set_open : (opens : ℕ → Bool) → Changer
set_open opens [] store = store
set_open opens (a ∷ assignments) store = set_open opens assignments (if opens a.symbol.0 then set store a.symbol.0 a.value else store)

-- Selects by the kind of an answer.
abbrev pub by_kind : AnswerKind → (if_yes if_no if_thrown : Trace) → Trace
by_kind Yes if_yes if_no if_thrown = if_yes
by_kind No if_yes if_no if_thrown = if_no
by_kind Throw if_yes if_no if_thrown = if_thrown

-- Emits the event and consumes the next answer: applies its assignments, and goes on. With no answer left the run is waiting, and the
-- event is not recorded.
abbrev pub asked : Changer → Event → Store → List Answer → AnswerCont → Trace
asked change event store [] onward = waiting
asked change event store (answer ∷ rest) onward = emit event (onward answer (change answer.assignments store) rest)

-- An event that completes normally or throws the answer's value.
abbrev pub fired : Changer → Event → Store → List Answer → (onward : AnswerCont) (throws : ValueCont) → Trace
fired change event store answers onward throws =
    asked change event store answers (λ a after rest. by_kind a.kind (onward a after rest) (onward a after rest) (throws a.value after rest))

-- A test, which never throws: all but a yes is a no.
abbrev pub tested : Changer → Event → Store → List Answer → (if_yes if_no : Cont) → Trace
tested change event store answers if_yes if_no =
    asked change event store answers (λ a after rest. by_kind a.kind (if_yes after rest) (if_no after rest) (if_no after rest))

-- A step of a loop: its next value, the end, or a throw.
abbrev pub stepped : Changer → Event → Store → List Answer → (next : ValueCont) (end : Cont) (throws : ValueCont) → Trace
stepped change event store answers next end throws =
    asked change event store answers (λ a after rest. by_kind a.kind (next a.value after rest) (end after rest) (throws a.value after rest))

-- The events of tests.
abbrev pub truthy : Value → Event
truthy v = record { kind = codes "truthy"; texts = []; operands = v ∷ [] }

abbrev pub nullish : Value → Event
nullish v = record { kind = codes "nullish"; texts = []; operands = v ∷ [] }

abbrev pub matches : (value test : Value) → Event
matches value test = record { kind = codes "matches"; texts = []; operands = value ∷ test ∷ [] }
