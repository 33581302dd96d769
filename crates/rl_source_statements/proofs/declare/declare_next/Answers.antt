use Rattle.std.proofs.Common.{ap, sym, ◌∙◌}
use Rattle.rl_model.specs.Statements.{declare_all, declare_one}
use Rattle.rl_source_stack.specs.Controls.{from_normal}
use Rattle.rl_source_stack.specs.States.{State, state_of}
use Rattle.rl_source_stack.proofs.Goings.{goes_as}
use Rattle.rl_syntax.specs.Syntax.{syntax}
use Rattle.rl_source_statements.proofs.declare.declare_next.Goals as goal

pub returns-in-None : goal.returns-in-None
returns-in-None c =
    sym (ap (λ ps. from_normal (declare_all (state_of c.args.run.now).scene ps) (state_of c.args.run.now)) c.in-None.ensures)

pub returns-in_ok-push-in-Some : goal.returns-in_ok-push-in-Some
returns-in_ok-push-in-Some c =
    let old : State = state_of c.args.run.now in
    goes_as c.declare_one.result (state_of c.declare_one.new.run)
    (ap (λ s. from_normal (declare_one s.scene (syntax c.in-Some.first.tree.now)) s) c.in_ok-push-in-Some.ensures
    ∙ sym (ap (λ ps. from_normal (declare_all old.scene ps) old) c.in-Some.ensures)) c.declare_one.ensures
