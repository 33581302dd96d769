use Rattle.std.proofs.Common.{ap, ◌∙◌}
use Rattle.rl_model.specs.Actions.{ask}
use Rattle.rl_source_stack.specs.Controls.{from}
use Rattle.rl_source_stack.specs.States.{State, pushed, state_of}
use Rattle.rl_source_stack.specs.declared.behind.Following.TheVariants as following
use Rattle.rl_source_stack.specs.declared.stack.Frame.TheVariants as frame
use Rattle.rl_source_stack.proofs.Goings.{goes_as}
use Rattle.rl_source_statements.proofs.execute.execute_debugger.Goals as goal

pub returns : goal.returns
returns c =
    let old : State = state_of c.args.run.now in
    goes_as c.ask_value.result (state_of c.ask_value.new.self)
    (ap (λ s. from (ask s.scene c.in_ok-event.event) s) c.in_ok-push.ensures
    ∙ ap (λ e. from (ask old.scene e) (pushed (frame.Following following.Ignore) old)) c.in_ok-event.ensures) c.ask_value.ensures
