use Rattle.std.proofs.Common.{ap, sym}
use Rattle.rl_source_stack.proofs.Goings.{goes_as}
use Rattle.rl_source_stack.specs.Controls.{trace_of}
use Rattle.rl_source_stack.specs.States.{pushed, state_of}
use Rattle.rl_source_stack.specs.declared.behind.Behind.TheVariants as behind
use Rattle.rl_source_stack.specs.declared.control.Control.TheVariants as control
use Rattle.rl_source_stack.specs.declared.stack.Frame.TheVariants as frame
use Rattle.rl_source_expressions.proofs.properties.take_object.Goals as goal

pub returns-then-optional : goal.returns-then-optional
returns-then-optional c =
    goes_as c.choose_nullish.result (state_of c.choose_nullish.new.self)
    (ap (λ o. trace_of (control.Value c.args.object)
    (pushed (frame.Value (behind.Object o c.args.property c.args.purpose)) (state_of c.args.run.now))) (sym c.if-optional.true))
    c.choose_nullish.ensures

pub returns-else-optional : goal.returns-else-optional
returns-else-optional c =
    ap (λ o. trace_of (control.Value c.args.object)
    (pushed (frame.Value (behind.Object o c.args.property c.args.purpose)) (state_of c.args.run.now)))
    (sym c.if-optional.false)
