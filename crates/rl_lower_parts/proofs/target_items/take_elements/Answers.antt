use Rattle.std.proofs.Common.{◌≡◌, ◌+◌, ◌≤◌, [], ◌∷◌, ap, append-nil, arith, map, refl, subst, sym, ◌∙◌}
use Rattle.rl_builder.specs.Builder.{State, state_of}
use Rattle.rl_grammar.proofs.Viewing.{of_sort}
use Rattle.rl_grammar.specs.Fields.{maybe}
use Rattle.rl_grammar.specs.declared.kind.Kind.TheVariants as kind
use Rattle.rl_hir.specs.Pieces.{element_pieces}
use Rattle.rl_hir.specs.declared.instruction.ArrayElement.TheVariants as elements
use Rattle.rl_lower_parts.proofs.ItemDerivations.{item_direct}
use Rattle.rl_lower_parts.proofs.ItemsInOrder.{first_local, other_locals, takes_done, takes_next, takes_rest}
use Rattle.rl_lower_parts.proofs.TargetTrees.{element_under, node_counts}
use Rattle.rl_lower_parts.specs.declared.target_items.TargetPart.TheVariants as part
use Rattle.rl_names.specs.Seen.{seen}
use Rattle.rl_promises.specs.Lowerable.{AreLowerableTo, IsLowerableTo}
use Rattle.rl_promises.specs.Patterns.{target_under}
use Rattle.rl_runs.specs.Blocks.{size_of}
use Rattle.rl_syntax.specs.Syntax.{Pieces, Syntax, nodes, nodes_of, pieces_of, syntax}
use Rattle.rl_lower_parts.proofs.target_items.take_elements.Goals as goal

pub take_element-requires-clause-direct : goal.take_element-requires-clause-direct
take_element-requires-clause-direct g c =
    let loop = c.items.invariant in
    let item : Syntax = syntax c.in-Some.item.tree.now in
    item_direct (seen c.args.names.now) c.args.forced (target_under item)
    (λ is. first_local (seen c.args.names.now) c.in-Some.ensures (loop.direct is)) loop.names.knows
    (subst (IsLowerableTo (seen c.args.names.now)) (sym (element_under item c.in-Some.item.fit))
    (subst (AreLowerableTo (seen c.args.names.now)) c.in-Some.ensures loop.may).0)

pub items-preserved : goal.items-preserved
items-preserved g c =
    let loop = c.items.invariant in
    let now : State = state_of g.U.ReadsUnit.tables c.items.builder in
    let later : State = state_of g.U.ReadsUnit.tables c.take_element.new.builder in
    let taken = c.in_ok-element.ensures.taken in
    let more : Pieces = pieces_of (map syntax c.in-Some.more.trees.now) in
    let first : Syntax = syntax c.in-Some.item.tree.now in
    let counted : nodes_of (pieces_of (map syntax c.items.left.trees.now)) ≡ nodes first + nodes_of more = ap nodes_of c.in-Some.ensures in
    let one : 1 ≤ nodes first = node_counts first (of_sort kind.AssignmentTargetElement first refl c.in-Some.item.fit) in
    let few : size_of later ≤ size_of now + 4 = taken.size in
    record {
      same_reference = c.in_ok-element.ensures.same_reference ∙ loop.same_reference;
      names = taken.named;
      direct = λ is. other_locals (seen c.args.names.now) c.in-Some.ensures (loop.direct is);
      may = (subst (AreLowerableTo (seen c.args.names.now)) c.in-Some.ensures loop.may).1;
      room = omega (arith, counted, one, few, loop.room);
      takes = takes_next element_pieces c.items.taken (c.in_ok-element.element ∷ []) c.in-Some.ensures c.in_ok-push.ensures.ok
          (append-nil (element_pieces c.in_ok-element.element)) taken loop.takes;
    }

pub returns-in_ok-push-in-Some-rest-clause-taken : goal.returns-in_ok-push-in-Some-rest-clause-taken
returns-in_ok-push-in-Some-rest-clause-taken g c =
    takes_rest element_pieces c.items.taken (elements.Spread c.in_ok-place-in-Some-rest.place) c.items.later
    (part.Target c.assignment_target_rest_view-rest.result.target) c.assignment_target_rest_view-rest.result.at c.in_default.ensures
    c.in_ok-push-in-Some-rest.ensures.ok refl
    (ap (λ r. maybe r (λ t. syntax t.tree.now)) c.in-Some-rest.is ∙ sym c.assignment_target_rest_view-rest.ensures) refl refl
    c.requires.forced c.in_ok-place-in-Some-rest.ensures.state c.in_ok-place-in-Some-rest.ensures.place
    c.in_ok-place-in-Some-rest.ensures.left c.items.invariant.takes

pub returns-in-None-clause-taken : goal.returns-in-None-clause-taken
returns-in-None-clause-taken g c =
    takes_done element_pieces c.items.taken c.items.later c.in_default.ensures
    (ap (λ r. maybe r (λ t. syntax t.tree.now)) c.in-None.is) c.items.invariant.takes
