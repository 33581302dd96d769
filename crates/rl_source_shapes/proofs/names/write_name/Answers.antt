use Rattle.std.proofs.Common.{◌≡◌, IfOk, ap, sym, subst, ◌∙◌}
use Rattle.rl_model.specs.Expressions.{write}
use Rattle.rl_source_stack.specs.Controls.{asked_then, from, trace_of}
use Rattle.rl_source_stack.specs.States.{state_of}
use Rattle.rl_source_stack.specs.declared.control.Control.TheVariants as control
use Rattle.rl_trace.specs.Values.{shown}
use Rattle.rl_source_shapes.proofs.names.write_name.Goals as goal

pub returns-in_ok-event-in-Outer : goal.returns-in_ok-event-in-Outer
returns-in_ok-event-in-Outer c =
    subst (λ t. IfOk c.ask_then.result (λ d. trace_of d (state_of c.ask_then.new.self) ≡ t))
    (ap (λ e. asked_then e (control.Value c.args.value) (state_of c.args.run.now)) c.in_ok-event-in-Outer.ensures
    ∙ ap (λ m. from (write (state_of c.args.run.now).scene m c.args.name.name.now (shown c.args.value)) (state_of c.args.run.now))
    (sym c.in-Outer.is ∙ c.in_ok-symbol.ensures))
    c.ask_then.ensures
