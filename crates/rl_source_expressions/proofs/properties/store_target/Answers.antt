use Rattle.std.proofs.Common.{ap}
use Rattle.rl_source_stack.proofs.Goings.{goes_as}
use Rattle.rl_source_stack.specs.Controls.{asked_then}
use Rattle.rl_source_stack.specs.States.{state_of}
use Rattle.rl_source_stack.specs.declared.control.Control.TheVariants as control
use Rattle.rl_source_expressions.proofs.properties.store_target.Goals as goal

pub returns : goal.returns
returns c =
    goes_as c.ask_then.result (state_of c.ask_then.new.self)
    (ap (λ x. asked_then x control.Normal (state_of c.args.run.now)) c.in_ok-event.ensures)
    c.ask_then.ensures
