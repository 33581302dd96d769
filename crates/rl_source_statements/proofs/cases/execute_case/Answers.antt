use Rattle.std.proofs.Common.{ap, ◌∙◌}
use Rattle.rl_source_stack.specs.Controls.{trace_of}
use Rattle.rl_source_stack.specs.States.{pushed}
use Rattle.rl_source_stack.specs.declared.control.Control.TheVariants as control
use Rattle.rl_source_stack.specs.declared.stack.Around.TheVariants as around
use Rattle.rl_source_stack.specs.declared.stack.Frame.TheVariants as frame
use Rattle.rl_source_statements.proofs.cases.execute_case.Goals as goal

pub returns : goal.returns
returns c =
    ap (trace_of control.Normal)
    (c.in_ok-push-2.ensures ∙ ap (pushed (frame.Statement (around.Statements c.args.statements))) c.in_ok-push.ensures)
