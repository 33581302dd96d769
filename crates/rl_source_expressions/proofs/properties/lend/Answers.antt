use Rattle.std.proofs.Common.{ap}
use Rattle.rl_model.specs.Actions.{ask}
use Rattle.rl_model.specs.Events as events
use Rattle.rl_source_stack.proofs.Goings.{goes_as}
use Rattle.rl_source_stack.specs.Controls.{from}
use Rattle.rl_source_stack.specs.Properties.{key_of}
use Rattle.rl_source_stack.specs.States.{state_of}
use Rattle.rl_trace.specs.Values.{shown}
use Rattle.rl_source_expressions.proofs.properties.lend.Goals as goal

pub returns : goal.returns
returns c =
    goes_as c.load.result (state_of c.load.new.run)
    (ap (λ s. from (ask s.scene (events.load (shown c.args.object) (key_of c.args.key))) s) c.in_ok-push.ensures)
    c.load.ensures
