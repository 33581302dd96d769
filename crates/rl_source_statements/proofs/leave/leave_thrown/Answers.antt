use Rattle.std.proofs.Common.{true, ap, sym, ◌∙◌}
use Rattle.rl_source_stack.specs.Controls.{trace_of}
use Rattle.rl_source_stack.specs.States.{pushed, state_of}
use Rattle.rl_source_stack.specs.declared.apart.Binding.TheVariants as binding
use Rattle.rl_source_stack.specs.declared.control.Control.TheVariants as control
use Rattle.rl_source_stack.specs.declared.stack.Around.TheVariants as around
use Rattle.rl_source_stack.specs.declared.stack.Frame.TheVariants as frame
use Rattle.rl_source_statements.proofs.leave.leave_thrown.Goals as goal

pub returns-in_ok-push-in-Some : goal.returns-in_ok-push-in-Some
returns-in_ok-push-in-Some c =
    ap (trace_of (control.Bind true (binding.Pattern c.in-Some.param) c.args.value)) c.in_ok-push-in-Some.ensures
    ∙ ap (λ p. trace_of (control.Throw c.args.value) (pushed (frame.Statement (around.Try p c.in-Try.body)) (state_of c.args.run.now)))
    (sym c.in-Some.is)
    ∙ ap (λ a. trace_of (control.Throw c.args.value) (pushed (frame.Statement a) (state_of c.args.run.now))) (sym c.in-Try.is)

pub returns-in-None : goal.returns-in-None
returns-in-None c =
    ap (λ p. trace_of (control.Throw c.args.value) (pushed (frame.Statement (around.Try p c.in-Try.body)) (state_of c.args.run.now)))
    (sym c.in-None.is)
    ∙ ap (λ a. trace_of (control.Throw c.args.value) (pushed (frame.Statement a) (state_of c.args.run.now))) (sym c.in-Try.is)
