-- Instructions that ask events, under handlers.
use Rattle.std.proofs.Common.{◌≡◌, ℕ, ◌+◌, ◌<◌, ◌≤◌, List, length, Option, refl, sym, ap, ◌∙◌, subst}
use Rattle.rl_builder.specs.Builder.{innermost, with_temporary}
use Rattle.rl_builder.specs.Temporaries.{temporary, unordered, with_value}
use Rattle.rl_hir.specs.declared.instruction.InstructionValue.{InstructionValue}
use Rattle.rl_machine.specs.Acts.{Asks, Landing, act, gives, keeps, landed}
use Rattle.rl_machine.specs.declared.trace.Event.{Event}
use Rattle.rl_machine.specs.declared.trace.Trace.{Trace}
use Rattle.rl_machine.specs.Ends.{Notes}
use Rattle.rl_machine.specs.Machine.{Runs, caught, changer, executed}
use Rattle.rl_machine.specs.Silence.{walk}
use Rattle.rl_machine.specs.Traces.{AnswerCont, ValueCont, fired, set, set_open}
use Rattle.rl_runs.proofs.Common.{Answer, Code, Instruction, Span, State, Store, Value, World}
use Rattle.rl_runs.proofs.Events.{fired_comes}
use Rattle.rl_runs.proofs.Moves.{catches, goes_behind, instruction_met, thrown_comes, value_free}
use Rattle.rl_runs.proofs.Steps.{inside_refl, set_same, since_set, since_then, steps_on}
use Rattle.rl_runs.specs.Continuations.{Continues, Eventually, Range, SharesVariables, Since, Throws, TracesFrom}
use Rattle.rl_runs.specs.Facts.{HasSoundNames, IsContainedIn}

-- The handler of an instruction's block takes what its event throws; behind the event the run goes on from the store in which the answer
-- has landed.
pub asks_on : {c : Code} {r : Range} {store : Store} {notes : Notes} {answers : List Answer} (world : World) (x : State)
    (value : InstructionValue) (span : Option Span) (event : Event) (landing : Landing)
    (k : AnswerCont) (h : ValueCont) {source1 store1 : Store} {notes1 : Notes} {answers1 : List Answer}
    → act (length x.env.identifiers) value store1 ≡ Asks event landing → IsContainedIn (with_value x value span) c
    → SharesVariables c.ident world c.world → Throws c r store notes answers (innermost x.handlers) h
    → Since c r store notes answers source1 store1 notes1 answers1
    → ((a : Answer) (source2 store2 : Store) (rest : List Answer) → Since c r store notes answers source2 store2 notes1 rest
    → Since c r store1 notes1 answers1 source2 store2 notes1 rest
    → TracesFrom c (with_value x value span) (landed landing a store2) notes1 rest (k a source2 rest))
    → TracesFrom c x store1 notes1 answers1 (fired (set_open world.opens) event source1 answers1 k h)
asks_on {c} {r} {store} {notes} {answers} world x value span event landing k h {source1} {store1} {notes1} {answers1} acts cover shares throws t onward =
    steps_on c x.current.id.0 (length x.current.instructions) store1 notes1 answers1 (Runs i) _ (instruction_met y i c cover)
    (by_act (fired_comes c world cover.names.one shares event answers1
    (λ next a store2 rest. next x.current.id.0 (length x.current.instructions + 1) (landed landing a store2) notes1 rest)
    (λ stuck next. caught stuck (c.catcher x.current.id.0) notes1 next) k h t.agrees
    (λ a source2 store2 rest after. goes_behind (innermost x.handlers) y i c (landed landing a store2) notes1 rest
    (k a source2 rest) refl cover
    (onward a source2 store2 rest (since_then (inside_refl r) t.later (after.since r)) (after.since r)))
    (λ v source2 store2 rest after. throws_at v source2 store2 rest (since_then (inside_refl r) t.later (after.since r)))))
  where
    y : State
    y = with_temporary x span

    i : Instruction
    i = unordered (temporary x span) value span

    throws_at : (v : Value) (source2 store2 : Store) (rest : List Answer) → Since c r store notes answers source2 store2 notes1 rest
        → Eventually c (λ stuck next. caught stuck (c.catcher x.current.id.0) notes1 next v store2 rest) (h v source2 rest)
    throws_at v source2 store2 rest w =
        subst (λ (o : Option ℕ). Eventually c (λ stuck next. caught stuck o notes1 next v store2 rest) (h v source2 rest))
        (sym (catches (innermost x.handlers) y i c refl cover))
        (thrown_comes (innermost x.handlers) c r store notes answers h v source2 store2 notes1 rest throws w)

    by_act : {tr : Trace}
        → Eventually c (λ stuck next. fired (changer c) event store1 answers1
        (λ a store2 rest. next x.current.id.0 (length x.current.instructions + 1) (landed landing a store2) notes1 rest)
        (caught stuck (c.catcher x.current.id.0) notes1 next)) tr
        → Eventually c (λ stuck next. executed stuck c (act (length x.env.identifiers) value store1) next next x.current.id.0
        (length x.current.instructions) store1 notes1 answers1) tr
    by_act comes = record {
      by = (
        comes.by.0,
        λ stuck steps enough. ap
            (λ a. executed stuck c a (walk stuck c steps) (walk stuck c steps) x.current.id.0
            (length x.current.instructions) store1 notes1 answers1) acts ∙ comes.by.1 stuck steps enough,
      );
    }

-- The value that an event gives goes into a fresh identifier.
pub asks_runs : {c : Code} {r : Range} {store : Store} {notes : Notes} {answers : List Answer} (world : World) (x : State)
    (value : InstructionValue) (span : Option Span) (event : Event)
    (k h : ValueCont) {source1 store1 : Store} {notes1 : Notes} {answers1 : List Answer}
    → act (length x.env.identifiers) value store1 ≡ Asks event (gives (length x.env.identifiers))
    → IsContainedIn (with_value x value span) c
    → HasSoundNames x → SharesVariables c.ident world c.world → r.identifier ≤ length x.env.identifiers
    → length x.env.identifiers < r.identifiers
    → Throws c r store notes answers (innermost x.handlers) h
    → Continues c r store notes answers (with_value x value span).current.id.0 (length (with_value x value span).current.instructions)
    (length x.env.identifiers) k
    → Since c r store notes answers source1 store1 notes1 answers1
    → TracesFrom c x store1 notes1 answers1 (fired (set_open world.opens) event source1 answers1 (λ a. k a.value) h)
asks_runs {c} {r} {store} {notes} {answers} world x value span event k h {source1} {store1} {notes1} {answers1} acts cover sound shares low high throws onward t =
    asks_on world x value span event (gives n) (λ a. k a.value) h acts cover shares throws t
    (λ a source2 store2 rest here behind. onward.goes a.value source2 (set store2 n a.value) notes1 rest
    (since_set n a.value (value_free x value span c cover sound) low high here) (set_same store2 n a.value))
  where
    n : ℕ
    n = length x.env.identifiers

-- A value that was there before goes into a fresh identifier, behind an event.
pub keeps_runs : {c : Code} {r : Range} {store : Store} {notes : Notes} {answers : List Answer} (world : World) (x : State)
    (value : InstructionValue) (span : Option Span) (event : Event) (v : Value)
    (k h : ValueCont) {source1 store1 : Store} {notes1 : Notes} {answers1 : List Answer}
    → act (length x.env.identifiers) value store1 ≡ Asks event (keeps (length x.env.identifiers) v)
    → IsContainedIn (with_value x value span) c
    → HasSoundNames x → SharesVariables c.ident world c.world → r.identifier ≤ length x.env.identifiers
    → length x.env.identifiers < r.identifiers
    → Throws c r store notes answers (innermost x.handlers) h
    → Continues c r store notes answers (with_value x value span).current.id.0 (length (with_value x value span).current.instructions)
    (length x.env.identifiers) k
    → Since c r store notes answers source1 store1 notes1 answers1
    → TracesFrom c x store1 notes1 answers1 (fired (set_open world.opens) event source1 answers1 (λ a. k v) h)
keeps_runs {c} {r} {store} {notes} {answers} world x value span event v k h {source1} {store1} {notes1} {answers1} acts cover sound shares low high throws onward t =
    asks_on world x value span event (keeps n v) (λ a. k v) h acts cover shares throws t
    (λ a source2 store2 rest here behind. onward.goes v source2 (set store2 n v) notes1 rest
    (since_set n v (value_free x value span c cover sound) low high here) (set_same store2 n v))
  where
    n : ℕ
    n = length x.env.identifiers
