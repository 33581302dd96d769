use Rattle.std.proofs.Common.{ap, sym, ◌∙◌}
use Rattle.rl_source_stack.proofs.Goings.{goes_as}
use Rattle.rl_source_stack.specs.Controls.{trace_of}
use Rattle.rl_source_stack.specs.States.{pushed, state_of}
use Rattle.rl_source_stack.specs.declared.control.Control.TheVariants as control
use Rattle.rl_source_stack.specs.declared.stack.Frame.TheVariants as frame
use Rattle.rl_source_stack.specs.declared.stack.Heading.TheVariants as heading
use Rattle.rl_source_expressions.proofs.calls.take_callee.Goals as goal

pub returns-then-optional : goal.returns-then-optional
returns-then-optional c =
    goes_as c.choose_nullish.result (state_of c.choose_nullish.new.self)
    (ap (λ h. trace_of (control.Value c.args.function) (pushed (frame.Head h) (state_of c.args.run.now)))
    (sym (c.in-Call.is ∙ ap (λ o. heading.Call o c.in-Call.arguments) c.if-optional.true)))
    c.choose_nullish.ensures

pub returns-else-optional : goal.returns-else-optional
returns-else-optional c =
    ap (λ h. trace_of (control.Value c.args.function) (pushed (frame.Head h) (state_of c.args.run.now)))
    (sym (c.in-Call.is ∙ ap (λ o. heading.Call o c.in-Call.arguments) c.if-optional.false))

pub returns-in-Tagged : goal.returns-in-Tagged
returns-in-Tagged c =
    goes_as c.gather_one.result (state_of c.gather_one.new.run)
    (ap (λ h. trace_of (control.Value c.args.function) (pushed (frame.Head h) (state_of c.args.run.now))) (sym c.in-Tagged.is))
    c.gather_one.ensures
