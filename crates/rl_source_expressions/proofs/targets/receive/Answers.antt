use Rattle.std.proofs.Common.{ap, sym}
use Rattle.rl_source_stack.proofs.Goings.{goes_as}
use Rattle.rl_source_stack.specs.Controls.{trace_of}
use Rattle.rl_source_stack.specs.States.{pushed, state_of}
use Rattle.rl_source_stack.specs.declared.control.Control.TheVariants as control
use Rattle.rl_source_stack.specs.declared.stack.Frame.TheVariants as frame
use Rattle.rl_source_expressions.proofs.targets.receive.Goals as goal

pub returns-in-Targets : goal.returns-in-Targets
returns-in-Targets c =
    goes_as c.assign_parts.result (state_of c.assign_parts.new.run)
    (ap (λ t. trace_of control.Normal (pushed (frame.Target t) (state_of c.args.run.now))) (sym c.in-Targets.is))
    c.assign_parts.ensures

pub returns-in-Give : goal.returns-in-Give
returns-in-Give c = ap (λ t. trace_of control.Normal (pushed (frame.Target t) (state_of c.args.run.now))) (sym c.in-Give.is)
