use Rattle.std.proofs.Common.{ap, sym}
use Rattle.rl_source_stack.proofs.Goings.{goes_as}
use Rattle.rl_source_stack.specs.Controls.{trace_of}
use Rattle.rl_source_stack.specs.States.{pushed, state_of}
use Rattle.rl_source_stack.specs.declared.behind.Following.TheVariants as following
use Rattle.rl_source_stack.specs.declared.control.Control.TheVariants as control
use Rattle.rl_source_stack.specs.declared.stack.Frame.TheVariants as frame
use Rattle.rl_source_statements.proofs.take.take_condition.Goals as goal

pub returns-in-Some : goal.returns-in-Some
returns-in-Some c =
    goes_as c.choose_truthy.result (state_of c.choose_truthy.new.self)
    (ap (λ other. trace_of (control.Value c.args.value)
    (pushed (frame.Following (following.If c.args.consequent other)) (state_of c.args.run.now))) (sym c.in-Some.is))
    c.choose_truthy.ensures

pub returns-in-None : goal.returns-in-None
returns-in-None c =
    goes_as c.choose_truthy-in-None.result (state_of c.choose_truthy-in-None.new.self)
    (ap (λ other. trace_of (control.Value c.args.value)
    (pushed (frame.Following (following.If c.args.consequent other)) (state_of c.args.run.now))) (sym c.in-None.is))
    c.choose_truthy-in-None.ensures
