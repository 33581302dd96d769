use Rattle.std.proofs.Common.{◌∷◌, Some, ap, subst, sym, ◌∙◌}
use Rattle.rl_trace.specs.Progress.{WasAsked, seen}
use Rattle.rl_graph_steps.specs.States.{compares, state_of}
use Rattle.rl_graph_steps.proofs.Cases.{case_hit, case_missed, case_thrown}
use Rattle.rl_graph_steps.proofs.machine.Machine.compare_one.Goals as goal

pub returns-in-Yes : goal.returns-in-Yes
returns-in-Yes c =
    λ ahead. case_hit ahead c.in-Some.test c.args.case.block c.args.left.now c.args.other c.args.value.0 c.args.asked c.in-Some-2.answer.now (state_of c.args.self.now c.args.run.now) (seen c.ask.new.self)
    (subst (λ e. WasAsked e (Some c.in-Some-2.answer) (seen c.args.run.now.progress) (seen c.ask.new.self)) c.in_ok-event-in-Some.ensures
    (subst (λ x. WasAsked c.in_ok-event-in-Some.event x (seen c.args.run.now.progress)
    (seen c.ask.new.self)) c.in-Some-2.is c.in_ok-answer-in-Some.ensures)) c.in-Yes.is
    ∙ ap (λ t. compares ahead (record { test = t; block = c.args.case.block } ∷ c.args.left.now) c.args.other c.args.value.0
    c.args.asked (state_of c.args.self.now c.args.run.now)) (sym c.in-Some.is)

pub returns-in-No : goal.returns-in-No
returns-in-No c =
    λ ahead. case_missed ahead c.in-Some.test c.args.case.block c.args.left.now c.args.other c.args.value.0 c.args.asked c.in-Some-2.answer.now (state_of c.args.self.now c.args.run.now) (seen c.ask.new.self)
    (subst (λ e. WasAsked e (Some c.in-Some-2.answer) (seen c.args.run.now.progress) (seen c.ask.new.self)) c.in_ok-event-in-Some.ensures
    (subst (λ x. WasAsked c.in_ok-event-in-Some.event x (seen c.args.run.now.progress)
    (seen c.ask.new.self)) c.in-Some-2.is c.in_ok-answer-in-Some.ensures)) c.in-No.is
    ∙ ap (λ t. compares ahead (record { test = t; block = c.args.case.block } ∷ c.args.left.now) c.args.other c.args.value.0
    c.args.asked (state_of c.args.self.now c.args.run.now)) (sym c.in-Some.is)

pub returns-in-Throw : goal.returns-in-Throw
returns-in-Throw c =
    λ ahead. case_thrown ahead c.in-Some.test c.args.case.block c.args.left.now c.args.other c.args.value.0 c.args.asked c.in-Some-2.answer.now (state_of c.args.self.now c.args.run.now) (seen c.ask.new.self)
    (subst (λ e. WasAsked e (Some c.in-Some-2.answer) (seen c.args.run.now.progress) (seen c.ask.new.self)) c.in_ok-event-in-Some.ensures
    (subst (λ x. WasAsked c.in_ok-event-in-Some.event x (seen c.args.run.now.progress)
    (seen c.ask.new.self)) c.in-Some-2.is c.in_ok-answer-in-Some.ensures)) c.in-Throw.is
    ∙ ap (λ t. compares ahead (record { test = t; block = c.args.case.block } ∷ c.args.left.now) c.args.other c.args.value.0
    c.args.asked (state_of c.args.self.now c.args.run.now)) (sym c.in-Some.is)
