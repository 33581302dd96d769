use Rattle.std.proofs.Common.{ap, sym, ◌∙◌}
use Rattle.rl_model.specs.Events.{next_key, next_of}
use Rattle.rl_source_stack.specs.Controls.{stepped_in}
use Rattle.rl_source_stack.specs.States.{State, state_of}
use Rattle.rl_source_stack.specs.declared.behind.Turns.{Turns}
use Rattle.rl_source_stack.proofs.Goings.{goes_as}
use Rattle.rl_source_statements.proofs.Turns.{repeating, stepping, testing, turn_again, turning}
use Rattle.rl_syntax.specs.Syntax.{syntax}
use Rattle.rl_trace.specs.Values.{shown}
use Rattle.rl_source_statements.proofs.loops.make_turn.Goals as goal

pub returns-in-While : goal.returns-in-While
returns-in-While c =
    let old : State = state_of c.args.run.now in
    let turns : Turns = c.args.turns in
    goes_as c.evaluate_for.result (state_of c.evaluate_for.new.run)
    (ap (testing old turns (syntax c.in-While.condition.tree.now)) c.in-While.is
    ∙ ap (turning old turns) (sym c.in-While.is)
    ∙ sym (turn_again old turns c.if-most-eq0.false)) c.evaluate_for.ensures

pub returns-in-For : goal.returns-in-For
returns-in-For c =
    let old : State = state_of c.args.run.now in
    let turns : Turns = c.args.turns in
    goes_as c.evaluate_for-in-For.result (state_of c.evaluate_for-in-For.new.run)
    (ap (testing old turns (syntax c.in-For.condition.tree.now)) c.in-For.is
    ∙ ap (turning old turns) (sym c.in-For.is)
    ∙ sym (turn_again old turns c.if-most-eq0.false)) c.evaluate_for-in-For.ensures

pub returns-in-DoWhile : goal.returns-in-DoWhile
returns-in-DoWhile c =
    let old : State = state_of c.args.run.now in
    let turns : Turns = c.args.turns in
    ap (repeating old turns) c.in-DoWhile.is ∙ ap (turning old turns) (sym c.in-DoWhile.is) ∙ sym (turn_again old turns c.if-most-eq0.false)

pub returns-in_ok-event-in-ForIn : goal.returns-in_ok-event-in-ForIn
returns-in_ok-event-in-ForIn c =
    let old : State = state_of c.args.run.now in
    let turns : Turns = c.args.turns in
    goes_as c.ask_next.result (state_of c.ask_next.new.self)
    (ap (stepped_in c.in_ok-event-in-ForIn.event) c.in_ok-push-in-ForIn.ensures
    ∙ ap (λ e. stepping old turns e turns.parts) c.in_ok-event-in-ForIn.ensures
    ∙ ap (stepping old turns (next_key (shown c.in-ForIn.collection))) c.in-ForIn.is
    ∙ ap (turning old turns) (sym c.in-ForIn.is)
    ∙ sym (turn_again old turns c.if-most-eq0.false)) c.ask_next.ensures

pub returns-in_ok-event-in-ForOf : goal.returns-in_ok-event-in-ForOf
returns-in_ok-event-in-ForOf c =
    let old : State = state_of c.args.run.now in
    let turns : Turns = c.args.turns in
    goes_as c.ask_next-in-ForOf.result (state_of c.ask_next-in-ForOf.new.self)
    (ap (stepped_in c.in_ok-event-in-ForOf.event) c.in_ok-push-in-ForOf.ensures
    ∙ ap (λ e. stepping old turns e turns.parts) c.in_ok-event-in-ForOf.ensures
    ∙ ap (stepping old turns (next_of (shown c.in-ForOf.iterator) (shown c.in-ForOf.collection))) c.in-ForOf.is
    ∙ ap (turning old turns) (sym c.in-ForOf.is)
    ∙ sym (turn_again old turns c.if-most-eq0.false)) c.ask_next-in-ForOf.ensures
