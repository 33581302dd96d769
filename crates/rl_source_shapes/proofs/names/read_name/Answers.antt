use Rattle.std.proofs.Common.{◌≡◌, IfOk, ap, sym, subst, ◌∙◌}
use Rattle.rl_model.specs.Actions.{ask}
use Rattle.rl_model.specs.Expressions.{read}
use Rattle.rl_source_stack.specs.Controls.{from, trace_of}
use Rattle.rl_source_stack.specs.States.{state_of}
use Rattle.rl_source_shapes.proofs.names.read_name.Goals as goal

pub returns-in_ok-event-in-Outer : goal.returns-in_ok-event-in-Outer
returns-in_ok-event-in-Outer c =
    subst (λ t. IfOk c.ask_value.result (λ d. trace_of d (state_of c.ask_value.new.self) ≡ t))
    (ap (λ e. from (ask (state_of c.args.run.now).scene e) (state_of c.args.run.now)) c.in_ok-event-in-Outer.ensures
    ∙ ap (λ m. from (read (state_of c.args.run.now).scene m) (state_of c.args.run.now)) (sym c.in-Outer.is ∙ c.in_ok-symbol.ensures))
    c.ask_value.ensures
