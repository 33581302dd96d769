-- The traces of runs behind an event.
use Rattle.std.proofs.Common.{◌≡◌, ◌∙◌, ap, sym}
use Rattle.rl_machine.specs.Machine.{Code}
use Rattle.rl_machine.specs.Traces.{AnswerCont, asked, by_kind}
use Rattle.rl_machine.specs.declared.trace.Answer.{Answer}
use Rattle.rl_machine.specs.declared.trace.AnswerKind.{AnswerKind}
use Rattle.rl_machine.specs.declared.trace.Event.{Event}
use Rattle.rl_trace.specs.Progress.{IsAsked, Seen, after, change_of}
use Rattle.rl_trace.proofs.Asked.{after_emit}
use Rattle.rl_graph_steps.specs.States.{State, code, with_seen}

-- The run goes on with the answer.
pub goes_on : (e : Event) (a : Answer) (s : State) (new : Seen) → IsAsked e a s.seen new → (onward : Code → AnswerCont)
    → after new.events (onward (code (with_seen s new)) a new.store new.answers)
    ≡ after s.seen.events (asked (change_of s.seen) e s.seen.store s.seen.answers (onward (code s)))
goes_on e a s new q onward =
    ap (λ (n : Seen). after n.events (onward (code (with_seen s n)) a n.store new.answers)) q.same
    ∙ after_emit s.seen.events e (onward (code s) a (change_of s.seen a.assignments s.seen.store) new.answers)
    ∙ sym (ap (λ answers. after s.seen.events (asked (change_of s.seen) e s.seen.store answers (onward (code s)))) q.answers)

-- As `goes_on`, where the kind of the answer selects.
pub goes_by : (e : Event) (a : Answer) (s : State) (new : Seen) → IsAsked e a s.seen new → (k : AnswerKind) → a.kind ≡ k
    → (if_yes if_no if_thrown : Code → AnswerCont)
    → after new.events (by_kind k (if_yes (code (with_seen s new)) a new.store new.answers) (if_no (code
    (with_seen s new)) a new.store new.answers) (if_thrown (code (with_seen s new)) a new.store new.answers))
    ≡ after s.seen.events (asked (change_of s.seen) e s.seen.store s.seen.answers (λ b later rest. by_kind b.kind (if_yes
    (code s) b later rest) (if_no (code s) b later rest) (if_thrown (code s) b later rest)))
goes_by e a s new q k is if_yes if_no if_thrown =
    sym (ap (λ j. after new.events (by_kind j (if_yes (code (with_seen s new)) a new.store new.answers) (if_no (code
    (with_seen s new)) a new.store new.answers) (if_thrown (code (with_seen s new)) a new.store new.answers))) is)
    ∙ goes_on e a s new q (λ c b later rest. by_kind b.kind (if_yes c b later rest) (if_no c b later rest) (if_thrown c b later rest))
