use Rattle.std.proofs.Common.{◌≡◌}
use Rattle.rl_source_stack.specs.Controls.{trace_of}
use Rattle.rl_source_stack.specs.States.{state_of}
use Rattle.rl_source_run.proofs.drive.drive.Given as goal

abbrev pub invariant-steps : goal.invariant-steps
invariant-steps l = trace_of l.now (state_of l.run) ≡ trace_of l.initial.now (state_of l.initial.run)
