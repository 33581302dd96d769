use Rattle.std.proofs.Common.{ap, sym, ◌∙◌}
use Rattle.rl_base.specs.Operators.{update_text}
use Rattle.rl_model.specs.Actions.{ask, ◌>>=◌}
use Rattle.rl_model.specs.Events as events
use Rattle.rl_model.specs.Expressions.{update_name}
use Rattle.rl_source_expressions.proofs.Targeted.{outer_updated}
use Rattle.rl_source_stack.proofs.Goings.{goes_as}
use Rattle.rl_source_stack.specs.Behinds.{updated_name}
use Rattle.rl_source_stack.specs.Controls.{from}
use Rattle.rl_source_stack.specs.States.{state_of}
use Rattle.rl_trace.specs.Values.{shown}
use Rattle.rl_source_expressions.proofs.assignment.update_variable.Goals as goal

pub returns : goal.returns
returns c =
    goes_as c.ask_value.result (state_of c.ask_value.new.self)
    (ap (λ e. from (ask (state_of c.push.new.self).scene e) (state_of c.push.new.self)) c.in_ok-event.ensures
    ∙ ap (λ s. from (ask s.scene (events.update c.args.prefix (update_text c.args.operator) (shown c.read-old.result))) s)
    c.in_ok-push.ensures
    ∙ ap (λ v. from (ask (state_of c.args.run.now).scene (events.update c.args.prefix (update_text c.args.operator) v)
    >>= updated_name c.in-Local.symbol.0 c.args.prefix v) (state_of c.args.run.now)) c.read-old.ensures
    ∙ ap (λ m. from (update_name (state_of c.args.run.now).scene c.args.prefix (update_text c.args.operator) m) (state_of c.args.run.now))
    (sym c.in-Local.is ∙ c.in_ok-meaning.ensures))
    c.ask_value.ensures

pub returns-in_default : goal.returns-in_default
returns-in_default c =
    outer_updated (state_of c.args.run.now) _ c.args.prefix (update_text c.args.operator) c.in_default.not-Local
    ∙ ap (λ m. from (update_name (state_of c.args.run.now).scene c.args.prefix (update_text c.args.operator) m) (state_of c.args.run.now))
    c.in_ok-meaning.ensures
