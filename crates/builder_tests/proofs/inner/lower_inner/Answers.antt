use Rattle.std.proofs.Common.{rules, ap, ◌∙◌}
use Rattle.builder_tests.proofs.Inners.{given_same, has_inner}
use Rattle.rl_builder.specs.Builder.{State, state_of}
use Rattle.rl_builder.specs.Tables.{Tables}
use Rattle.builder_tests.proofs.inner.lower_inner.Goals as goal

pub returns-clause-inner : goal.returns-clause-inner
returns-clause-inner g c =
    let s : State = state_of g.U.ReadsUnit.tables c.args.parent.now in
    let names = c.in_ok-used_names.ensures ∙ c.used_names.ensures in
    let bindings = c.in_ok-bindings.ensures ∙ c.bindings.ensures in
    let given =
    given_same s c.args.scope c.component_scope-component.result _ _ _ _ _ _
    (ap (λ (t : Tables). t.semantic) c.unit-unit.ensures) (ap (λ (t : Tables). t.sites) c.unit-unit.ensures) c.component_scope-component.ensures
    (c.in_ok-context_identifiers.ensures ∙ c.context_identifiers.ensures) bindings (c.in_ok-context.ensures ∙ c.context.ensures) names in
    has_inner s _ _ _ _ _ c.build_inner.new.env c.add_function.new.self (record { node = c.args.node; function = c.in_ok-inner.inner.function }) _ _ c.args.scope
    given (search rules) c.in_ok-inner.ensures.made (search rules) (search rules)
    c.in_ok-merge_used_names.ensures.state (c.in_ok-inner.ensures.used_names ∙ names)
    c.in_ok-merge_bindings.ensures.state (c.in_ok-inner.ensures.bindings ∙ bindings)
