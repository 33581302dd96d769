-- A run that asks goes on as it does behind the answer.
use Rattle.std.proofs.Common.{◌≡◌, ℕ, if◌then◌else◌, Bool, List, [], ◌∷◌, ◌++◌}
use Rattle.std.proofs.Common.{Option, Some, None, Result, Ok, Err, IfOk, refl, ap, subst, sym, ◌∙◌}
use Rattle.std.specs.Borrow.{Bor}
use Rattle.rl_base.specs.declared.error.OutOfMemory.{OutOfMemory}
use Rattle.rl_machine.specs.Machine.{set_by}
use Rattle.rl_machine.specs.Traces.{AnswerCont, Store, asked, by_kind, set, set_open}
use Rattle.rl_machine.specs.declared.trace.Answer.{Answer}
use Rattle.rl_machine.specs.declared.trace.AnswerKind.{AnswerKind}
use Rattle.rl_machine.specs.declared.trace.Assignment.{Assignment}
use Rattle.rl_machine.specs.declared.trace.Event.{Event}
use Rattle.rl_machine.specs.declared.trace.Trace.{Trace}
use Rattle.rl_machine.specs.declared.trace.Value.{Value}
use Rattle.rl_model.specs.Actions.{ask}
use Rattle.rl_model.specs.Scene.{Scene}
use Rattle.rl_names.specs.declared.names.FunctionNames.{FunctionNames}
use Rattle.rl_source_stack.specs.Controls.{apart_in, asked_then, from, goes, stepped_in, tested_in, trace_of}
use Rattle.rl_source_stack.specs.Konts.{Konts}
use Rattle.rl_source_stack.specs.States.{IsAsked, IsUnasked, State, WasAsked, state_by}
use Rattle.rl_source_stack.specs.declared.control.Control.{Control}
use Rattle.rl_source_stack.specs.declared.control.Control.TheVariants as control
use Rattle.rl_source_stack.specs.declared.stack.Frame.{Frame}
use Rattle.rl_source_stack.specs.declared.texts.JsxTexts.{JsxTexts}
use Rattle.rl_trace.proofs.Asked.{after_emit}
use Rattle.rl_trace.specs.Progress as progress
use Rattle.rl_trace.specs.Progress.{Seen, after}
use Rattle.rl_trace.specs.Shared.{ident_of}
use Rattle.rl_trace.specs.Values.{shown}
use Rattle.rl_trace.specs.declared.shared.Numbers.TheVariants as numbers
use Rattle.rl_trace.specs.declared.value.Val.{Val}

-- An answer assigns to symbols by their own numbers, in a run whose variables are symbols.
set_own : (opens : ℕ → Bool) (assignments : List Assignment) (store : Store)
    → set_by (ident_of numbers.Own) opens assignments store ≡ set_open opens assignments store
set_own opens [] store = refl
set_own opens (a ∷ assignments) store = set_own opens assignments (if opens a.symbol.0 then set store a.symbol.0 a.value else store)

asked_in : (names : FunctionNames) (texts : JsxTexts) (frames : List Frame) (e : Event) (a : Answer) (old new : Seen)
    → old.ident ≡ ident_of numbers.Own → progress.IsAsked e a old new
    → IsAsked e a (state_by names texts frames old) (state_by names texts frames new)
asked_in names texts frames e a old new own q = record {
  answers = q.answers;
  same =
      ap (state_by names texts frames) q.same
      ∙ ap (λ ident. behind (set_by ident old.world.opens a.assignments old.store)) own
      ∙ ap behind (set_own old.world.opens a.assignments old.store);
}
  where
    behind : Store → State
    behind store = record (state_by names texts frames old) { store = store; answers = new.answers; events = old.events ++ e ∷ [] }

unasked_in : (names : FunctionNames) (texts : JsxTexts) (frames : List Frame) (old new : Seen) → progress.IsUnasked old new
    → IsUnasked (state_by names texts frames old) (state_by names texts frames new)
unasked_in names texts frames old new q = record { same = ap (state_by names texts frames) q.same; answers = q.answers }

was_asked : (names : FunctionNames) (texts : JsxTexts) (frames : List Frame) (e : Event) (answer : Option (Bor Answer)) (old new : Seen)
    → old.ident ≡ ident_of numbers.Own → progress.WasAsked e answer old new
    → WasAsked e answer (state_by names texts frames old) (state_by names texts frames new)
was_asked names texts frames e None old new own q = unasked_in names texts frames old new q
was_asked names texts frames e (Some a) old new own q = asked_in names texts frames e a.now old new own q

-- A run whose variables are symbols has asked the events that its progress has asked.
pub run_asked : (names : FunctionNames) (texts : JsxTexts) (frames : List Frame) (e : Event) (old new : Seen)
    → (result : Result (Option (Bor Answer)) OutOfMemory)
    → old.ident ≡ ident_of numbers.Own → IfOk result (λ answer. progress.WasAsked e answer old new)
    → IfOk result (λ answer. WasAsked e answer (state_by names texts frames old) (state_by names texts frames new))
run_asked names texts frames e old new (Ok answer) own q = was_asked names texts frames e answer old new own q
run_asked names texts frames e old new (Err error) own q = q

-- The run goes on with the answer.
pub answered : (e : Event) (a : Answer) (old new : State) → IsAsked e a old new → (onward : Scene → Konts → AnswerCont)
    → after new.events (onward new.scene new.konts a new.store new.answers)
    ≡ after old.events (asked (set_open old.scene.world.opens) e old.store old.answers (onward old.scene old.konts))
answered e a old new q onward =
    ap (λ s. after s.events (onward s.scene s.konts a s.store new.answers)) q.same
    ∙ after_emit old.events e (onward old.scene old.konts a (set_open old.scene.world.opens a.assignments old.store) new.answers)
    ∙ sym (ap (λ rest. after old.events (asked (set_open old.scene.world.opens) e old.store rest (onward old.scene old.konts))) q.answers)

-- An answer that was given was asked for.
pub in_some : (e : Event) (answer : Option (Bor Answer)) (a : Bor Answer) (old new : State) → answer ≡ Some a → WasAsked e answer old new
    → IsAsked e a.now old new
in_some e answer a old new is q = subst (λ x. WasAsked e x old new) is q

-- The continuation of a run by the kind of the answer `a`.
abbrev pub on_kind : AnswerKind → (if_yes if_no if_thrown : Scene → Konts → AnswerCont) → Scene → Konts → AnswerCont
on_kind kind if_yes if_no if_thrown scene k a store rest =
    by_kind kind (if_yes scene k a store rest) (if_no scene k a store rest) (if_thrown scene k a store rest)

-- The trace of a run that goes on with the answer `a`.
abbrev pub onward_in : (onward : Scene → Konts → AnswerCont) → Answer → State → Trace
onward_in onward a s = after s.events (onward s.scene s.konts a s.store s.answers)

-- The run goes on by the kind of the answer.
pub answered_by : (e : Event) (a : Answer) (old new : State) → IsAsked e a old new → (kind : AnswerKind) → a.kind ≡ kind
    → (if_yes if_no if_thrown : Scene → Konts → AnswerCont)
    → onward_in (on_kind kind if_yes if_no if_thrown) a new
    ≡ after old.events (asked (set_open old.scene.world.opens) e old.store old.answers
    (λ b. on_kind b.kind if_yes if_no if_thrown old.scene old.konts b))
answered_by e a old new q kind is if_yes if_no if_thrown =
    sym (ap (λ k. onward_in (on_kind k if_yes if_no if_thrown) a new) is)
    ∙ answered e a old new q (λ scene k b. on_kind b.kind if_yes if_no if_thrown scene k b)

-- Continuations of an answer: its value, its throw, its pieces, the end of a loop, and another control.
abbrev pub with_value : Scene → Konts → AnswerCont
with_value scene k a = k.value a.value

abbrev pub with_throw : Scene → Konts → AnswerCont
with_throw scene k a = k.ways.throws a.value

abbrev pub with_pieces : Scene → Konts → AnswerCont
with_pieces scene k a = k.pieces a.pieces

abbrev pub with_end : Scene → Konts → AnswerCont
with_end scene k a = k.normal

abbrev pub with_control : Control → Scene → Konts → AnswerCont
with_control c scene k a = goes c scene k

abbrev pub Kinds : Event → Answer → (old new : State) → (if_yes if_no if_thrown : Scene → Konts → AnswerCont) → Trace → Type 0
Kinds e a old new if_yes if_no if_thrown asked_trace =
    (kind : AnswerKind) → a.kind ≡ kind
    → onward_in (on_kind kind if_yes if_no if_thrown) a new ≡ asked_trace

pub value_by : (e : Event) (a : Answer) (old new : State) → IsAsked e a old new
    → Kinds e a old new with_value with_value with_throw (from (ask old.scene e) old)
value_by e a old new q kind is = answered_by e a old new q kind is with_value with_value with_throw

pub then_by : (c : Control) (e : Event) (a : Answer) (old new : State) → IsAsked e a old new
    → Kinds e a old new (with_control c) (with_control c) with_throw (asked_then e c old)
then_by c e a old new q kind is = answered_by e a old new q kind is (with_control c) (with_control c) with_throw

pub pieces_by : (e : Event) (a : Answer) (old new : State) → IsAsked e a old new
    → Kinds e a old new with_pieces with_pieces with_throw (apart_in e old)
pieces_by e a old new q kind is = answered_by e a old new q kind is with_pieces with_pieces with_throw

pub next_by : (e : Event) (a : Answer) (old new : State) → IsAsked e a old new
    → Kinds e a old new with_value with_end with_throw (stepped_in e old)
next_by e a old new q kind is = answered_by e a old new q kind is with_value with_end with_throw

pub test_by : (hit miss : Control) (e : Event) (a : Answer) (old new : State) → IsAsked e a old new
    → Kinds e a old new (with_control hit) (with_control miss) (with_control miss) (tested_in e hit miss old)
test_by hit miss e a old new q kind is = answered_by e a old new q kind is (with_control hit) (with_control miss) (with_control miss)

-- A control that goes on with a value, by the value that it is.
pub as_value : (s : State) (v : Val) (w : Value) → shown v ≡ w
    → trace_of (control.Value v) s ≡ after s.events (s.konts.value w s.store s.answers)
as_value s v w is = ap (λ x. after s.events (s.konts.value x s.store s.answers)) is

pub as_throw : (s : State) (v : Val) (w : Value) → shown v ≡ w
    → trace_of (control.Throw v) s ≡ after s.events (s.konts.ways.throws w s.store s.answers)
as_throw s v w is = ap (λ x. after s.events (s.konts.ways.throws x s.store s.answers)) is

pub as_pieces : (s : State) (vs : Bor (List Value)) (ws : List Value) → vs.now ≡ ws
    → trace_of (control.Pieces vs) s ≡ after s.events (s.konts.pieces ws s.store s.answers)
as_pieces s vs ws is = ap (λ x. after s.events (s.konts.pieces x s.store s.answers)) is
