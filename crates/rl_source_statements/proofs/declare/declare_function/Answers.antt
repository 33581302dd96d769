use Rattle.std.proofs.Common.{false, ap, sym, ◌∙◌}
use Rattle.rl_grammar.specs.Fields.{maybe}
use Rattle.rl_model.specs.Actions.{◌>>=◌, ask}
use Rattle.rl_model.specs.Events.{function}
use Rattle.rl_model.specs.Patterns.{bind}
use Rattle.rl_source_stack.specs.Controls.{from, from_normal}
use Rattle.rl_source_stack.specs.States.{State, pushed, state_of}
use Rattle.rl_source_stack.specs.declared.apart.Binding.TheVariants as binding
use Rattle.rl_source_stack.specs.declared.behind.Following.TheVariants as following
use Rattle.rl_source_stack.specs.declared.stack.Frame.TheVariants as frame
use Rattle.rl_source_stack.proofs.Goings.{goes_as}
use Rattle.rl_source_statements.proofs.Patterns.{storing_some}
use Rattle.rl_source_statements.specs.Starts.{storing_body}
use Rattle.rl_syntax.specs.Syntax.{syntax}
use Rattle.rl_source_statements.proofs.declare.declare_function.Goals as goal

pub returns-in_ok-event-in-Some-name : goal.returns-in_ok-event-in-Some-name
returns-in_ok-event-in-Some-name c =
    let old : State = state_of c.args.run.now in
    goes_as c.ask_value.result (state_of c.ask_value.new.self)
    (ap (λ s. from (ask s.scene c.in_ok-event-in-Some-name.event) s) c.in_ok-push-in-Some-name.ensures
    ∙ ap (λ e. from (ask old.scene e) (pushed (frame.Following (following.Bind false (binding.Pattern c.pattern_of.result))) old))
    c.in_ok-event-in-Some-name.ensures
    ∙ ap (λ n. from_normal (do v ← ask old.scene (function c.args.function.at.id.0); bind old.scene false n v) old) c.pattern_of.ensures
    ∙ sym (ap (λ action. from_normal action old)
    (storing_some _ _ _ _ c.args.function.at.id.0 (syntax c.in-Some-name.name.tree.now) (syntax c.in-Some._body.tree.now)
    c.in-Some-name.name.fit c.in-Some._body.fit))
    ∙ ap (λ n. from_normal
    (storing_body old.scene c.args.function.at.id.0 (maybe n (λ t. syntax t.tree.now)) (syntax c.in-Some._body.tree.now)) old)
    (sym c.in-Some-name.is)
    ∙ ap (λ b. from_normal
    (storing_body old.scene c.args.function.at.id.0 (maybe c.args.function.name (λ t. syntax t.tree.now))
    (maybe b (λ t. syntax t.tree.now))) old) (sym c.in-Some.is)) c.ask_value.ensures
