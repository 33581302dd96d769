use Rattle.std.proofs.Common.{Bool, ap, sym, ◌∙◌}
use Rattle.rl_machine.specs.declared.trace.Trace.{Trace}
use Rattle.rl_source_stack.proofs.Goings.{goes_as}
use Rattle.rl_source_stack.specs.Behinds.{updated_in}
use Rattle.rl_source_stack.specs.Controls.{asked_then, from}
use Rattle.rl_source_stack.specs.Properties.{key_of}
use Rattle.rl_source_stack.specs.States.{State, state_of}
use Rattle.rl_source_stack.specs.declared.control.Control.TheVariants as control
use Rattle.rl_source_stack.specs.declared.property.Key.{Key}
use Rattle.rl_trace.specs.Values.{shown}
use Rattle.rl_trace.specs.declared.value.Val.{Val}
use Rattle.rl_source_expressions.proofs.take.update_property.Goals as goal

-- The trace of a run that stores the new value of a property.
abbrev updated_by : State → (object : Val) → Key → (old new : Val) → (prefix : Bool) → Trace
updated_by s object key old new prefix = from (updated_in s.scene (shown object) (key_of key) prefix (shown old) (shown new)) s

pub returns-then-prefix : goal.returns-then-prefix
returns-then-prefix c =
    goes_as c.ask_then.result (state_of c.ask_then.new.self)
    (ap (λ e. asked_then e (control.Value c.args.new) (state_of c.args.run.now)) c.in_ok-event.ensures
    ∙ ap (updated_by (state_of c.args.run.now) c.args.object c.args.key c.args.old c.args.new) (sym c.if-prefix.true))
    c.ask_then.ensures

pub returns-else-prefix : goal.returns-else-prefix
returns-else-prefix c =
    goes_as c.ask_then-else-prefix.result (state_of c.ask_then-else-prefix.new.self)
    (ap (λ e. asked_then e (control.Value c.args.old) (state_of c.args.run.now)) c.in_ok-event.ensures
    ∙ ap (updated_by (state_of c.args.run.now) c.args.object c.args.key c.args.old c.args.new) (sym c.if-prefix.false))
    c.ask_then-else-prefix.ensures
