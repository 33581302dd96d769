use Rattle.std.proofs.Common.{◌≡◌, IfOk, subst}
use Rattle.rl_model.specs.Actions.{ask}
use Rattle.rl_source_stack.specs.Controls.{from, trace_of}
use Rattle.rl_source_stack.specs.States.{state_of}
use Rattle.rl_source_gather.proofs.jsx.ask_named.Goals as goal

pub returns : goal.returns
returns c =
    subst (λ x. IfOk c.ask_value.result (λ d. trace_of d (state_of c.ask_value.new.self)
    ≡ from (ask (state_of c.args.run.now).scene x) (state_of c.args.run.now)))
    c.in_ok-event.ensures c.ask_value.ensures
