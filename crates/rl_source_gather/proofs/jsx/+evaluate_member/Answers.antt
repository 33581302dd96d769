use Rattle.rl_model.specs.Actions.{ask}
use Rattle.rl_model.specs.Events as events
use Rattle.rl_model.specs.Expressions.{read}
use Rattle.rl_source_gather.specs.Tags.{member_value}
use Rattle.rl_source_stack.specs.Controls.{from, trace_of}
use Rattle.rl_source_stack.specs.States.{state_of}
use Rattle.rl_syntax.specs.Syntax.{syntax}
use Rattle.std.proofs.Common.{IfOk, [], ap, codes, subst, ◌∙◌, ◌∷◌, ◌≡◌}
use Rattle.rl_source_gather.proofs.jsx.+evaluate_member.Goals as goal

pub returns-in-Namespaced : goal.returns-in-Namespaced
returns-in-Namespaced m c =
    subst (λ t. IfOk c.load_namespaced.result
    (λ d. trace_of d (state_of c.load_namespaced.new.run) ≡ from
    (member_value (state_of c.args.run.now).scene t c.args.property.now) (state_of c.args.run.now)))
    c.in-Namespaced.ensures c.load_namespaced.ensures

pub returns-in_ok-push_property-in-Name : goal.returns-in_ok-push_property-in-Name
returns-in_ok-push_property-in-Name m c =
    subst (λ t. IfOk c.ask_named.result (λ d. trace_of d (state_of c.ask_named.new.run) ≡ t))
    (ap (λ n. from (ask (state_of c.push_property.new.run).scene (events.global (n ∷ []))) (state_of c.push_property.new.run))
    c.as_str.ensures
    ∙ ap (λ s. from (ask s.scene (events.global (c.in-Name.name.now ∷ []))) s) c.in_ok-push_property-in-Name.ensures
    ∙ ap (λ t. from (member_value (state_of c.args.run.now).scene t c.args.property.now) (state_of c.args.run.now))
    c.in-Name.ensures)
    c.ask_named.ensures

pub returns-in_ok-push_property-in-Identifier : goal.returns-in_ok-push_property-in-Identifier
returns-in_ok-push_property-in-Identifier m c =
    subst (λ t. IfOk c.read_name.result (λ d. trace_of d (state_of c.read_name.new.run) ≡ t))
    (ap (λ s. from (read s.scene (s.scene.names.meaning c.identifier_reference_view.result.at.reference.0
    c.identifier_reference_view.result.name.now)) s) c.in_ok-push_property-in-Identifier.ensures
    ∙ ap (λ t. from (member_value (state_of c.args.run.now).scene t c.args.property.now) (state_of c.args.run.now))
    (c.identifier_reference_view.ensures ∙ c.in-Identifier.ensures))
    c.read_name.ensures

pub returns-in_ok-push_property-in-This : goal.returns-in_ok-push_property-in-This
returns-in_ok-push_property-in-This m c =
    subst (λ t. IfOk c.ask_named-in-This.result (λ d. trace_of d (state_of c.ask_named-in-This.new.run) ≡ t))
    (ap (λ s. from (ask s.scene (events.global (codes "this" ∷ []))) s) c.in_ok-push_property-in-This.ensures
    ∙ ap (λ t. from (member_value (state_of c.args.run.now).scene t c.args.property.now) (state_of c.args.run.now))
    c.in-This.ensures)
    c.ask_named-in-This.ensures

pub returns-in_ok-push_property-in-Member : goal.returns-in_ok-push_property-in-Member
returns-in_ok-push_property-in-Member m c =
    subst (λ t. IfOk c.evaluate_member.result (λ d. trace_of d (state_of c.evaluate_member.new.run) ≡ t))
    (ap (λ s. from (member_value s.scene (syntax c.in-Member.inner.tree.now) c.in-Member.middle.now) s)
    c.in_ok-push_property-in-Member.ensures
    ∙ ap (λ t. from (member_value (state_of c.args.run.now).scene t c.args.property.now) (state_of c.args.run.now))
    c.in-Member.ensures)
    c.evaluate_member.ensures
