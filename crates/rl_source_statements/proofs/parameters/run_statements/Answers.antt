use Rattle.std.proofs.Common.{ap, ◌∙◌}
use Rattle.rl_model.specs.Functions.{run_body}
use Rattle.rl_source_stack.specs.Controls.{from_normal, trace_of}
use Rattle.rl_source_stack.specs.States.{State, pushed, state_of}
use Rattle.rl_source_stack.specs.declared.control.Control.TheVariants as control
use Rattle.rl_source_stack.specs.declared.stack.Around.TheVariants as around
use Rattle.rl_source_stack.specs.declared.stack.Frame.TheVariants as frame
use Rattle.rl_source_statements.proofs.parameters.run_statements.Goals as goal

pub returns : goal.returns
returns c =
    let old : State = state_of c.args.run.now in
    ap (trace_of control.Normal)
    (c.in_ok-push-2.ensures
    ∙ ap (pushed (frame.Statement (around.Statements c.function_body_view-body.result.statements))) c.in_ok-push.ensures)
    ∙ ap (λ t. from_normal (run_body old.scene t) old) c.function_body_view-body.ensures
