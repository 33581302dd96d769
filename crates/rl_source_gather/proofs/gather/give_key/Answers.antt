use Rattle.std.proofs.Common.{ap, ◌∙◌}
use Rattle.rl_model.specs.Expressions.{eval}
use Rattle.rl_source_stack.specs.Controls.{from, trace_of}
use Rattle.rl_source_stack.specs.States.{pushed, state_of}
use Rattle.rl_source_stack.specs.declared.control.Control.TheVariants as control
use Rattle.rl_source_stack.specs.declared.stack.Frame.TheVariants as frame
use Rattle.rl_source_gather.proofs.gather.give_key.Goals as goal

pub returns-in_ok-push-in-Expression : goal.returns-in_ok-push-in-Expression
returns-in_ok-push-in-Expression c =
    ap (trace_of (control.Evaluate c.in-Expression.key)) c.in_ok-push-in-Expression.ensures
    ∙ ap (λ t. from (eval (state_of c.args.run.now).scene t)
    (pushed (frame.Given c.args.what c.args.pending c.args.left c.args.given) (state_of c.args.run.now))) c.in-Expression.ensures
