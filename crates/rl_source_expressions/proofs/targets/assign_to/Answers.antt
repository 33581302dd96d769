use Rattle.std.proofs.Common.{ap, sym, ◌∙◌}
use Rattle.rl_source_expressions.proofs.Targeted.{given_to}
use Rattle.rl_source_stack.proofs.Goings.{goes_as}
use Rattle.rl_source_stack.specs.Controls.{trace_of}
use Rattle.rl_source_stack.specs.States.{state_of}
use Rattle.rl_source_stack.specs.declared.control.Control.TheVariants as control
use Rattle.rl_trace.specs.Values.{shown}
use Rattle.rl_source_expressions.proofs.targets.assign_to.Goals as goal

pub returns-in-Whole : goal.returns-in-Whole
returns-in-Whole c =
    goes_as c.assign_whole.result (state_of c.assign_whole.new.run)
    (ap (λ t. trace_of (control.AssignTo t c.args.value) (state_of c.args.run.now)) (sym c.in-Whole.is))
    c.assign_whole.ensures

pub returns-in-MaybeDefault : goal.returns-in-MaybeDefault
returns-in-MaybeDefault c =
    goes_as c.assign_maybe_default.result (state_of c.assign_maybe_default.new.run)
    (ap (λ t. trace_of (control.AssignTo t c.args.value) (state_of c.args.run.now)) (sym c.in-MaybeDefault.is))
    c.assign_maybe_default.ensures

pub returns-in-Name : goal.returns-in-Name
returns-in-Name c =
    goes_as c.assign_name.result (state_of c.assign_name.new.run)
    (ap (λ t. trace_of (control.AssignTo t c.args.value) (state_of c.args.run.now)) (sym c.in-Name.is))
    c.assign_name.ensures

pub returns-in-Rest : goal.returns-in-Rest
returns-in-Rest c =
    ap (given_to (state_of c.args.run.now) (shown c.args.value)) c.assignment_target_rest_view-rest.ensures
    ∙ ap (λ t. trace_of (control.AssignTo t c.args.value) (state_of c.args.run.now)) (sym c.in-Rest.is)
