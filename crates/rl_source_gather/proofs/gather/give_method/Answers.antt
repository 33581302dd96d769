use Rattle.std.proofs.Common.{◌≡◌, IfOk, ap, subst, ◌∙◌}
use Rattle.rl_model.specs.Actions.{ask}
use Rattle.rl_model.specs.Events as events
use Rattle.rl_source_stack.specs.Controls.{from, trace_of}
use Rattle.rl_source_stack.specs.States.{state_of}
use Rattle.rl_source_gather.proofs.gather.give_method.Goals as goal

pub returns : goal.returns
returns c =
    subst (λ t. IfOk c.ask_value.result (λ d. trace_of d (state_of c.ask_value.new.self) ≡ t))
    (ap (λ e. from (ask (state_of c.push.new.self).scene e) (state_of c.push.new.self)) c.in_ok-event.ensures
    ∙ ap (λ s. from (ask s.scene (events.method c.args.node.0)) s) c.in_ok-push.ensures)
    c.ask_value.ensures
