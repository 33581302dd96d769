-- The trace of a run that asks an event is that of the run behind it.
use Rattle.std.proofs.Common.{◌≡◌, List, [], ◌∷◌, ◌++◌, ap, sym, ◌∙◌, append_assoc}
use Rattle.rl_machine.specs.Traces.{AnswerCont, asked, emit}
use Rattle.rl_machine.specs.declared.trace.Answer.{Answer}
use Rattle.rl_machine.specs.declared.trace.Event.{Event}
use Rattle.rl_machine.specs.declared.trace.Trace.{Trace}
use Rattle.rl_trace.specs.Progress.{IsAsked, Seen, after, change_of}

pub after_emit : (events : List Event) (e : Event) (t : Trace) → after (events ++ e ∷ []) t ≡ after events (emit e t)
after_emit events e t = ap (λ es. record t { events = es }) (append_assoc events (e ∷ []) t.events)

-- The run goes on with the answer.
pub answered : (e : Event) (a : Answer) (old new : Seen) → IsAsked e a old new → (onward : AnswerCont)
    → after new.events (onward a new.store new.answers) ≡ after old.events (asked (change_of old) e old.store old.answers onward)
answered e a old new q onward =
    ap (λ s. after s.events (onward a s.store new.answers)) q.same
    ∙ after_emit old.events e (onward a (change_of old a.assignments old.store) new.answers)
    ∙ sym (ap (λ answers. after old.events (asked (change_of old) e old.store answers onward)) q.answers)
