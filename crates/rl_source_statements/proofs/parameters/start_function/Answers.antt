use Rattle.std.proofs.Common.{ap, ◌∙◌}
use Rattle.rl_source_stack.specs.Controls.{from_normal, trace_of}
use Rattle.rl_source_stack.specs.Parts.{code_syntax}
use Rattle.rl_source_stack.specs.States.{State, pushed, state_of}
use Rattle.rl_source_stack.specs.declared.control.Control.TheVariants as control
use Rattle.rl_source_stack.specs.declared.stack.Around.TheVariants as around
use Rattle.rl_source_stack.specs.declared.stack.Frame.TheVariants as frame
use Rattle.rl_source_statements.specs.Starts.{called}
use Rattle.rl_source_statements.proofs.parameters.start_function.Goals as goal

pub returns : goal.returns
returns c =
    let old : State = state_of c.args.run.now in
    ap (trace_of control.Normal)
    (c.in_ok-push-2.ensures
    ∙ ap (pushed (frame.Statement
    (around.Parameters c.formal_parameters_view-params.result.items c.args.arguments c.formal_parameters_view-params.result.rest)))
    c.in_ok-push.ensures)
    ∙ ap (λ t. from_normal (called old.scene t c.args.arguments.now (code_syntax c.args.body)) old) c.formal_parameters_view-params.ensures
