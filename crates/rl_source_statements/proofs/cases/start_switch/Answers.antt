use Rattle.std.proofs.Common.{ap}
use Rattle.rl_source_stack.specs.Controls.{trace_of}
use Rattle.rl_source_stack.specs.declared.control.Control.TheVariants as control
use Rattle.rl_source_statements.proofs.cases.start_switch.Goals as goal

pub returns : goal.returns
returns c = ap (trace_of (control.Cases c.args.value c.args.cases c.args.cases)) c.in_ok-push.ensures
