use Rattle.std.proofs.Common.{ap, ◌∙◌}
use Rattle.rl_model.specs.Functions.{take_params}
use Rattle.rl_source_stack.specs.Controls.{from_normal, trace_of}
use Rattle.rl_source_stack.specs.States.{State, state_of}
use Rattle.rl_source_stack.specs.declared.control.Control.TheVariants as control
use Rattle.rl_source_run.proofs.source.start_bodiless.Goals as goal

pub returns : goal.returns
returns c =
    let old : State = state_of c.args.run.now in
    ap (trace_of control.Normal) c.in_ok-push.ensures
    ∙ ap (λ t. from_normal (take_params old.scene t c.args.arguments.now) old) c.formal_parameters_view-params.ensures
