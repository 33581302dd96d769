use Rattle.std.proofs.Common.{ap}
use Rattle.rl_source_stack.specs.Controls.{trace_of}
use Rattle.rl_source_stack.specs.declared.control.Control.TheVariants as control
use Rattle.rl_source_statements.proofs.execute.evaluate_for.Goals as goal

pub returns : goal.returns
returns c = ap (trace_of (control.Evaluate c.args.expression)) c.in_ok-push.ensures
