use Rattle.std.proofs.Common.{◌≡◌, ℕ, ◌+◌, ◌≤◌, List, ap, arith, map, option_map, refl, subst, sym, ◌∙◌}
use Rattle.rl_ast.specs.BindingViews.{seen_identifier_reference}
use Rattle.rl_base.specs.Diagnostics.{diagnostic_at}
use Rattle.rl_base.specs.declared.row.Row.TheVariants as row
use Rattle.rl_builder.specs.Builder.{State, recorded, state_of}
use Rattle.rl_grammar.proofs.Viewing.{of_sort}
use Rattle.rl_grammar.specs.Fields.{maybe}
use Rattle.rl_grammar.specs.declared.kind.Kind.TheVariants as kind
use Rattle.rl_hir.specs.Pieces.{taken_pieces}
use Rattle.rl_hir.specs.declared.instruction.ObjectPatternProperty.TheVariants as taken
use Rattle.rl_lower_parts.proofs.ItemDerivations.{item_direct}
use Rattle.rl_lower_parts.proofs.ItemsInOrder.{first_local, loses_rest, other_locals, takes_done, takes_next, takes_plain_rest, takes_rest}
use Rattle.rl_lower_parts.proofs.PropertyDerivations.{under_may}
use Rattle.rl_lower_parts.proofs.TargetTrees.{node_counts}
use Rattle.rl_lower_parts.specs.Patterns.{taken_list}
use Rattle.rl_lower_parts.specs.declared.target_items.TargetPart.TheVariants as part
use Rattle.rl_names.specs.Seen.{seen}
use Rattle.rl_promises.specs.Lowerable.{AreLowerableTo}
use Rattle.rl_promises.specs.Patterns.{target_under}
use Rattle.rl_runs.specs.Blocks.{size_of}
use Rattle.rl_syntax.specs.Syntax.{Pieces, Syntax, nodes, nodes_of, pieces_of, syntax}
use Rattle.rl_lower_parts.proofs.target_items.take_properties.Goals as goal

pub take_property-requires-clause-direct : goal.take_property-requires-clause-direct
take_property-requires-clause-direct g c = λ kept.
    let loop = c.properties.invariant in
    let item : Syntax = syntax c.in-Some.property.tree.now in
    item_direct (seen c.args.names.now) c.args.forced (target_under item)
    (λ is. first_local (seen c.args.names.now) c.in-Some.ensures (loop.direct is)) loop.names.knows
    (under_may (seen c.args.names.now) item kept (subst (AreLowerableTo (seen c.args.names.now)) c.in-Some.ensures loop.may).0)

pub properties-preserved : goal.properties-preserved
properties-preserved g c =
    let loop = c.properties.invariant in
    let now : State = state_of g.U.ReadsUnit.tables c.properties.builder in
    let later : State = state_of g.U.ReadsUnit.tables c.take_property.new.builder in
    let taken = c.in_ok-property.ensures.taken in
    let more : Pieces = pieces_of (map syntax c.in-Some.more.trees.now) in
    let first : Syntax = syntax c.in-Some.property.tree.now in
    let left : Pieces = pieces_of (map syntax c.properties.left.trees.now) in
    let counted : nodes_of left ≡ nodes first + nodes_of more = ap nodes_of c.in-Some.ensures in
    let one : 1 ≤ nodes first = node_counts first (of_sort kind.AssignmentTargetProperty first refl c.in-Some.property.fit) in
    let few : size_of later ≤ size_of now + 4 = taken.size in
    record {
      same_reference = c.in_ok-property.ensures.same_reference ∙ loop.same_reference;
      names = taken.named;
      direct = λ is. other_locals (seen c.args.names.now) c.in-Some.ensures (loop.direct is);
      may = (subst (AreLowerableTo (seen c.args.names.now)) c.in-Some.ensures loop.may).1;
      room = omega (arith, counted, one, few, loop.room);
      takes = takes_next taken_pieces c.properties.taken (taken_list c.in_ok-property.property) c.in-Some.ensures
          c.in_ok-push_property.ensures.pushed refl taken loop.takes;
    }

pub returns-in_default-rest-clause-taken : goal.returns-in_default-rest-clause-taken
returns-in_default-rest-clause-taken g c =
    takes_done taken_pieces c.properties.taken c.properties.later c.in_default.ensures
    (ap (λ r. maybe r (λ t. syntax t.tree.now)) c.in_default-rest.is) c.properties.invariant.takes

pub returns-in_ok-push-in-Some-target_name-clause-taken : goal.returns-in_ok-push-in-Some-target_name-clause-taken
returns-in_ok-push-in-Some-target_name-clause-taken g c =
    let rest = c.assignment_target_rest_view-rest.result in
    takes_rest taken_pieces c.properties.taken (taken.Spread c.in_ok-place-in-Some-target_name.place) c.properties.later
    (part.Target rest.target) rest.at c.in_default.ensures c.in_ok-push-in-Some-target_name.ensures.ok refl
    (ap (λ r. maybe r (λ t. syntax t.tree.now)) c.in-Some-rest.is ∙ sym c.assignment_target_rest_view-rest.ensures) refl
    (takes_plain_rest rest.at (syntax rest.target.tree.now) (seen_identifier_reference c.in-Some-target_name.field-0)
    (sym c.target_name.ensures ∙ ap (option_map seen_identifier_reference) c.in-Some-target_name.is))
    c.requires.forced c.in_ok-place-in-Some-target_name.ensures.state c.in_ok-place-in-Some-target_name.ensures.place
    c.in_ok-place-in-Some-target_name.ensures.left c.properties.invariant.takes

pub returns-in_ok-lose_rest-in-None-clause-taken : goal.returns-in_ok-lose_rest-in-None-clause-taken
returns-in_ok-lose_rest-in-None-clause-taken g c =
    let rest = c.assignment_target_rest_view-rest.result in
    loses_rest taken_pieces c.properties.taken c.properties.later rest.at c.in_default.ensures
    (ap (λ r. maybe r (λ t. syntax t.tree.now)) c.in-Some-rest.is ∙ sym c.assignment_target_rest_view-rest.ensures) rest.target.fit
    (sym c.target_name.ensures ∙ ap (option_map seen_identifier_reference) c.in-None.is)
    (c.in_ok-lose_rest-in-None.ensures.state
    ∙ ap (λ (word : List ℕ). recorded (state_of g.U.ReadsUnit.tables c.properties.builder) (diagnostic_at row.F10 word rest.at.span))
    c.rest_type.ensures)
    c.properties.invariant.takes
