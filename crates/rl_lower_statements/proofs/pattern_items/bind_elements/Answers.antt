use Rattle.std.proofs.Common.{sym, ap, ◌∙◌, subst, append-nil}
use Rattle.rl_builder.specs.Builder.{state_of}
use Rattle.rl_grammar.specs.Fields.{maybe}
use Rattle.rl_hir.specs.Pieces.{element_pieces}
use Rattle.rl_names.specs.Seen.{seen}
use Rattle.rl_promises.specs.Lowerable.{AreLowerable}
use Rattle.rl_syntax.specs.Syntax.{syntax}
use Rattle.rl_lower_statements.proofs.ItemDerivations.{binds_done, binds_next, binds_rest, items_more, rest_may}
use Rattle.rl_lower_statements.proofs.pattern_items.bind_elements.Goals as goal

pub bind_element-requires-clause-may : goal.bind_element-requires-clause-may
bind_element-requires-clause-may g c = (subst (AreLowerable (seen c.args.names.now)) c.in-Some.ensures c.items.invariant.may).0

pub items-preserved : goal.items-preserved
items-preserved g c =
    let loop = c.items.invariant in
    let one = c.in_ok-element.ensures.bound in
    record {
      same_reference = c.in_ok-element.ensures.same_reference ∙ loop.same_reference;
      names = one.named;
      may = (subst (AreLowerable (seen c.args.names.now)) c.in-Some.ensures loop.may).1;
      room = items_more (state_of g.U.ReadsUnit.tables c.items.builder) (state_of g.U.ReadsUnit.tables c.bind_element.new.builder)
          c.in-Some.item.fit c.in-Some.ensures one.size loop.room;
      binds = binds_next element_pieces c.items.bound _ c.in-Some.ensures c.in_ok-push.ensures.ok
          (append-nil (element_pieces c.in_ok-element.element)) one loop.binds;
    }

pub bind_rest-requires-clause-may : goal.bind_rest-requires-clause-may
bind_rest-requires-clause-may g c =
    rest_may (seen c.args.names.now)
    (c.binding_rest_element_view-rest.ensures ∙ sym (ap (λ rest. maybe rest (λ t. syntax t.tree.now)) c.in-Some-rest.is))
    c.requires.may_rest

pub returns-in_ok-push-in-Some-rest-clause-bound : goal.returns-in_ok-push-in-Some-rest-clause-bound
returns-in_ok-push-in-Some-rest-clause-bound g c =
    binds_rest c.items.bound c.in_default.ensures
    (c.binding_rest_element_view-rest.ensures ∙ sym (ap (λ rest. maybe rest (λ t. syntax t.tree.now)) c.in-Some-rest.is))
    c.in_ok-push-in-Some-rest.ensures.ok c.in_ok-place-in-Some-rest.ensures.bound c.items.invariant.binds

pub returns-in-None-clause-bound : goal.returns-in-None-clause-bound
returns-in-None-clause-bound g c =
    binds_done element_pieces c.items.bound c.items.later c.in_default.ensures
    (ap (λ rest. maybe rest (λ t. syntax t.tree.now)) c.in-None.is) c.items.invariant.binds
