use Rattle.std.proofs.Common.{ap}
use Rattle.rl_model.specs.Actions.{ask}
use Rattle.rl_source_stack.proofs.Goings.{goes_as}
use Rattle.rl_source_stack.specs.Controls.{from}
use Rattle.rl_source_stack.specs.States.{state_of}
use Rattle.rl_source_expressions.proofs.take.ask_await.Goals as goal

pub returns : goal.returns
returns c =
    goes_as c.ask_value.result (state_of c.ask_value.new.self)
    (ap (λ x. from (ask (state_of c.args.run.now).scene x) (state_of c.args.run.now)) c.in_ok-event.ensures)
    c.ask_value.ensures
