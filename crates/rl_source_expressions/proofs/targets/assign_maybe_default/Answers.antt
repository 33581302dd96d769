use Rattle.std.proofs.Common.{ap}
use Rattle.rl_source_expressions.proofs.Targeted.{given_to}
use Rattle.rl_source_stack.proofs.Goings.{goes_as}
use Rattle.rl_source_stack.specs.States.{state_of}
use Rattle.rl_trace.specs.Values.{shown}
use Rattle.rl_source_expressions.proofs.targets.assign_maybe_default.Goals as goal

pub returns-in-Default : goal.returns-in-Default
returns-in-Default c =
    goes_as c.assign_default.result (state_of c.assign_default.new.run)
    (ap (given_to (state_of c.args.run.now) (shown c.args.value)) c.in-Default.ensures)
    c.assign_default.ensures
