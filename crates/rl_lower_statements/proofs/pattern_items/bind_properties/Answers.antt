use Rattle.std.proofs.Common.{refl, sym, ap, ◌∙◌, subst}
use Rattle.rl_builder.specs.Builder.{state_of}
use Rattle.rl_grammar.specs.Fields.{maybe}
use Rattle.rl_hir.specs.Pieces.{taken_pieces}
use Rattle.rl_hir.specs.declared.instruction.ObjectPatternProperty.TheVariants as taken
use Rattle.rl_names.specs.Seen.{seen}
use Rattle.rl_promises.specs.Lowerable.{AreLowerable}
use Rattle.rl_syntax.specs.Syntax.{syntax}
use Rattle.rl_lower_statements.proofs.ItemDerivations.{binds_done, binds_named_rest, binds_next, loses_rest, plain_rest_may, properties_more}
use Rattle.rl_lower_statements.proofs.pattern_items.bind_properties.Goals as goal

pub bind_property-requires-clause-may : goal.bind_property-requires-clause-may
bind_property-requires-clause-may g c =
    (subst (AreLowerable (seen c.args.names.now)) c.in-Some.ensures c.properties.invariant.may).0

pub properties-preserved : goal.properties-preserved
properties-preserved g c =
    let loop = c.properties.invariant in
    let one = c.in_ok-property.ensures.bound in
    record {
      same_reference = c.in_ok-property.ensures.same_reference ∙ loop.same_reference;
      names = one.named;
      may = (subst (AreLowerable (seen c.args.names.now)) c.in-Some.ensures loop.may).1;
      room = properties_more (state_of g.U.ReadsUnit.tables c.properties.builder)
          (state_of g.U.ReadsUnit.tables c.bind_property.new.builder) c.in-Some.property.fit c.in-Some.ensures one.size loop.room;
      binds = binds_next taken_pieces c.properties.bound _ c.in-Some.ensures c.in_ok-push_property.ensures.pushed refl one loop.binds;
    }

pub name_place-requires-clause-free : goal.name_place-requires-clause-free
name_place-requires-clause-free g c =
    plain_rest_may {names = seen c.args.names.now} c.in-Some-pattern_name.name
    (c.binding_rest_element_view-rest.ensures ∙ sym (ap (λ rest. maybe rest (λ t. syntax t.tree.now)) c.in-Some-rest.is))
    c.in-Some-pattern_name.ensures.name c.requires.may_rest

pub returns-in_ok-push-in-Some-pattern_name-clause-bound : goal.returns-in_ok-push-in-Some-pattern_name-clause-bound
returns-in_ok-push-in-Some-pattern_name-clause-bound g c =
    binds_named_rest taken_pieces c.properties.bound (taken.Spread c.in_ok-place-in-Some-pattern_name.place) c.properties.later
    c.in-Some-pattern_name.name
    c.in_default.ensures
    (c.binding_rest_element_view-rest.ensures ∙ sym (ap (λ rest. maybe rest (λ t. syntax t.tree.now)) c.in-Some-rest.is))
    c.in-Some-pattern_name.ensures.name c.in_ok-push-in-Some-pattern_name.ensures.ok refl
    c.in_ok-place-in-Some-pattern_name.ensures.placed c.properties.invariant.binds

pub returns-in_ok-lose_rest-in-None-pattern_name-clause-bound : goal.returns-in_ok-lose_rest-in-None-pattern_name-clause-bound
returns-in_ok-lose_rest-in-None-pattern_name-clause-bound g c =
    loses_rest taken_pieces c.properties.bound c.properties.later c.in_default.ensures
    (c.binding_rest_element_view-rest.ensures ∙ sym (ap (λ rest. maybe rest (λ t. syntax t.tree.now)) c.in-Some-rest.is))
    c.in-None-pattern_name.ensures.name c.rest_type.ensures c.in_ok-lose_rest-in-None-pattern_name.ensures.state
    c.properties.invariant.binds

pub returns-in-None-clause-bound : goal.returns-in-None-clause-bound
returns-in-None-clause-bound g c =
    binds_done taken_pieces c.properties.bound c.properties.later c.in_default.ensures
    (ap (λ rest. maybe rest (λ t. syntax t.tree.now)) c.in-None.is) c.properties.invariant.binds
