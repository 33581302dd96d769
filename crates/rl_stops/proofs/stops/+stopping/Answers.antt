use Rattle.std.proofs.Common.{map, sym, ◌∙◌}
use Rattle.rl_names.specs.Seen.{seen}
use Rattle.rl_stops.proofs.Stopping.{assign_compound, assign_other, assign_parts, assign_plain, bind_parts, cond_parts, cond_stop}
use Rattle.rl_stops.proofs.Stopping.{declarator_parts, declarator_stop, id_parts, instantiate_none, instantiate_stop, logical_other}
use Rattle.rl_stops.proofs.Stopping.{logical_parts, logical_stop, prop_parts, prop_stop, tagged_other, tagged_parts, tagged_stop}
use Rattle.rl_stops.proofs.Stopping.{unary_parts, unary_stop, update_parts, update_stop, worded}
use Rattle.rl_stops.proofs.TargetStopping.{array_parts, array_stop, array_target, default_parts, default_stop, keyed_parts, keyed_stop, object_parts}
use Rattle.rl_stops.proofs.TargetStopping.{object_stop, object_target, param_parts, param_stop}
use Rattle.rl_syntax.specs.Syntax.{pieces_of, syntax}
use Rattle.rl_stops.proofs.stops.+stopping.Goals as goal

pub stop_in_node-returns-in-None : goal.stop_in_node-returns-in-None
stop_in_node-returns-in-None t c =
    let ps = pieces_of (map syntax c.args.parts.now) in
    worded (seen c.args.names.now) c.args.at ps _ _ _ c.in-Id.is
    (id_parts (seen c.args.names.now) c.args.at ps _ c.in-None.ensures c.first_among.ensures)

pub stop_in_node-returns-in-None-text_ahead : goal.stop_in_node-returns-in-None-text_ahead
stop_in_node-returns-in-None-text_ahead t c =
    let ps = pieces_of (map syntax c.args.parts.now) in
    worded (seen c.args.names.now) c.args.at ps _ _ _ c.in-Bind.is
    (bind_parts (seen c.args.names.now) c.args.at ps _ c.in-None-text_ahead.ensures c.first_among-in-None-text_ahead.ensures)

pub stop_in_node-returns-in-Some-three : goal.stop_in_node-returns-in-Some-three
stop_in_node-returns-in-Some-three t c =
    let ps = pieces_of (map syntax c.args.parts.now) in
    worded (seen c.args.names.now) c.args.at ps _ _ _ c.in-Cond.is
    (cond_stop (seen c.args.names.now) c.args.at ps _ _ _ _ c.in-Some-three.ensures c.first_of_three.ensures)

pub stop_in_node-returns-in-None-three : goal.stop_in_node-returns-in-None-three
stop_in_node-returns-in-None-three t c =
    let ps = pieces_of (map syntax c.args.parts.now) in
    worded (seen c.args.names.now) c.args.at ps _ _ _ c.in-Cond.is
    (cond_parts (seen c.args.names.now) c.args.at ps _ c.in-None-three.ensures c.first_among-in-None-three.ensures)

pub stop_in_node-returns-in-Some-two : goal.stop_in_node-returns-in-Some-two
stop_in_node-returns-in-Some-two t c =
    let ps = pieces_of (map syntax c.args.parts.now) in
    worded (seen c.args.names.now) c.args.at ps _ _ _ c.in-Logical.is
    (logical_stop (seen c.args.names.now) c.args.at ps (pieces_of (map syntax c.in-Some-text_ahead-2.operands.now)) _ _ _ _
    c.in-Some-text_ahead-2.ensures c.in-Some-two.ensures c.first_of_two.ensures)

pub stop_in_node-returns-in-None-two : goal.stop_in_node-returns-in-None-two
stop_in_node-returns-in-None-two t c =
    let ps = pieces_of (map syntax c.args.parts.now) in
    worded (seen c.args.names.now) c.args.at ps _ _ _ c.in-Logical.is
    (logical_other (seen c.args.names.now) c.args.at ps (pieces_of (map syntax c.in-Some-text_ahead-2.operands.now)) _ _
    c.in-Some-text_ahead-2.ensures c.in-None-two.ensures c.first_among-in-None-two.ensures)

pub stop_in_node-returns-in-None-text_ahead-2 : goal.stop_in_node-returns-in-None-text_ahead-2
stop_in_node-returns-in-None-text_ahead-2 t c =
    let ps = pieces_of (map syntax c.args.parts.now) in
    worded (seen c.args.names.now) c.args.at ps _ _ _ c.in-Logical.is
    (logical_parts (seen c.args.names.now) c.args.at ps _ c.in-None-text_ahead-2.ensures c.first_among-in-None-text_ahead-2.ensures)

pub stop_in_node-returns-in-Some-two-2 : goal.stop_in_node-returns-in-Some-two-2
stop_in_node-returns-in-Some-two-2 t c =
    let ps = pieces_of (map syntax c.args.parts.now) in
    worded (seen c.args.names.now) c.args.at ps _ _ _ c.in-Declarator.is
    (declarator_stop (seen c.args.names.now) c.args.at ps _ _ _ c.in-Some-two-2.ensures c.first_of_two-in-Some-two-2.ensures)

pub stop_in_node-returns-in-None-two-2 : goal.stop_in_node-returns-in-None-two-2
stop_in_node-returns-in-None-two-2 t c =
    let ps = pieces_of (map syntax c.args.parts.now) in
    worded (seen c.args.names.now) c.args.at ps _ _ _ c.in-Declarator.is
    (declarator_parts (seen c.args.names.now) c.args.at ps _ c.in-None-two-2.ensures c.first_among-in-None-two-2.ensures)

pub stop_in_node-returns-in-Some-split_first : goal.stop_in_node-returns-in-Some-split_first
stop_in_node-returns-in-Some-split_first t c =
    let ps = pieces_of (map syntax c.args.parts.now) in
    worded (seen c.args.names.now) c.args.at ps _ _ _ c.in-Instantiate.is
    (instantiate_stop (seen c.args.names.now) c.args.at ps (pieces_of (map syntax c.in-Some-split_first._types.now)) _ _
    c.in-Some-split_first.ensures c.first_stop.ensures)

pub stop_in_node-returns-in-None-split_first : goal.stop_in_node-returns-in-None-split_first
stop_in_node-returns-in-None-split_first t c =
    let ps = pieces_of (map syntax c.args.parts.now) in
    worded (seen c.args.names.now) c.args.at ps _ _ _ c.in-Instantiate.is
    (instantiate_none (seen c.args.names.now) c.args.at ps c.in-None-split_first.ensures)

pub stop_in_node-returns-else-is_lost_delete : goal.stop_in_node-returns-else-is_lost_delete
stop_in_node-returns-else-is_lost_delete t c =
    let ps = pieces_of (map syntax c.args.parts.now) in
    worded (seen c.args.names.now) c.args.at ps _ _ _ c.in-Unary.is
    (unary_stop (seen c.args.names.now) c.args.at ps _ _ _ c.in-Some-text_and_tree.ensures
    (sym c.is_lost_delete.ensures ∙ c.if-is_lost_delete.false) c.first_stop-else-is_lost_delete.ensures)

pub stop_in_node-returns-in-None-text_and_tree : goal.stop_in_node-returns-in-None-text_and_tree
stop_in_node-returns-in-None-text_and_tree t c =
    let ps = pieces_of (map syntax c.args.parts.now) in
    worded (seen c.args.names.now) c.args.at ps _ _ _ c.in-Unary.is
    (unary_parts (seen c.args.names.now) c.args.at ps _ c.in-None-text_and_tree.ensures c.first_among-in-None-text_and_tree.ensures)

pub stop_in_node-returns-else-is_wrapped : goal.stop_in_node-returns-else-is_wrapped
stop_in_node-returns-else-is_wrapped t c =
    let ps = pieces_of (map syntax c.args.parts.now) in
    worded (seen c.args.names.now) c.args.at ps _ _ _ c.in-Update.is
    (update_stop (seen c.args.names.now) c.args.at ps _ _ _ _ c.in-Some-three-2.ensures
    (sym c.is_wrapped.ensures ∙ c.if-is_wrapped.false) c.first_stop-else-is_wrapped.ensures)

pub stop_in_node-returns-in-None-three-2 : goal.stop_in_node-returns-in-None-three-2
stop_in_node-returns-in-None-three-2 t c =
    let ps = pieces_of (map syntax c.args.parts.now) in
    worded (seen c.args.names.now) c.args.at ps _ _ _ c.in-Update.is
    (update_parts (seen c.args.names.now) c.args.at ps _ c.in-None-three-2.ensures c.first_among-in-None-three-2.ensures)

pub stop_in_node-returns-then-is_equals : goal.stop_in_node-returns-then-is_equals
stop_in_node-returns-then-is_equals t c =
    let ps = pieces_of (map syntax c.args.parts.now) in
    worded (seen c.args.names.now) c.args.at ps _ _ _ c.in-Assign.is
    (assign_plain (seen c.args.names.now) c.args.at ps (pieces_of (map syntax c.in-Some-text_ahead-3.operands.now)) _ _ _ _
    c.in-Some-text_ahead-3.ensures c.in-Some-two-3.ensures (sym c.is_equals.ensures ∙ c.if-is_equals.true)
    c.first_of_assigned.ensures)

pub stop_in_node-returns-else-is_pattern : goal.stop_in_node-returns-else-is_pattern
stop_in_node-returns-else-is_pattern t c =
    let ps = pieces_of (map syntax c.args.parts.now) in
    worded (seen c.args.names.now) c.args.at ps _ _ _ c.in-Assign.is
    (assign_compound (seen c.args.names.now) c.args.at ps (pieces_of (map syntax c.in-Some-text_ahead-3.operands.now)) _ _ _ _
    c.in-Some-text_ahead-3.ensures c.in-Some-two-3.ensures (sym c.is_equals.ensures ∙ c.if-is_equals.false)
    (sym c.is_logical.ensures ∙ c.if-is_logical.false) (sym c.is_pattern.ensures ∙ c.if-is_pattern.false)
    c.first_of_two-else-is_pattern.ensures)

pub stop_in_node-returns-in-None-two-3 : goal.stop_in_node-returns-in-None-two-3
stop_in_node-returns-in-None-two-3 t c =
    let ps = pieces_of (map syntax c.args.parts.now) in
    worded (seen c.args.names.now) c.args.at ps _ _ _ c.in-Assign.is
    (assign_other (seen c.args.names.now) c.args.at ps (pieces_of (map syntax c.in-Some-text_ahead-3.operands.now)) _ _
    c.in-Some-text_ahead-3.ensures c.in-None-two-3.ensures c.first_among-in-None-two-3.ensures)

pub stop_in_node-returns-in-None-text_ahead-3 : goal.stop_in_node-returns-in-None-text_ahead-3
stop_in_node-returns-in-None-text_ahead-3 t c =
    let ps = pieces_of (map syntax c.args.parts.now) in
    worded (seen c.args.names.now) c.args.at ps _ _ _ c.in-Assign.is
    (assign_parts (seen c.args.names.now) c.args.at ps _ c.in-None-text_ahead-3.ensures c.first_among-in-None-text_ahead-3.ensures)

pub stop_in_node-returns-then-are_raw : goal.stop_in_node-returns-then-are_raw
stop_in_node-returns-then-are_raw t c =
    let ps = pieces_of (map syntax c.args.parts.now) in
    worded (seen c.args.names.now) c.args.at ps _ _ _ c.in-Tagged.is
    (tagged_stop (seen c.args.names.now) c.args.at ps _ _ (pieces_of (map syntax c.in-Some-template_lists.quasis.now))
    (pieces_of (map syntax c.in-Some-template_lists.expressions.now)) _ c.in-Some-two-4.ensures c.in-Some-template_lists.ensures
    (sym c.are_raw.ensures ∙ c.if-are_raw.true) c.first_of_tagged.ensures)

pub stop_in_node-returns-in-None-template_lists : goal.stop_in_node-returns-in-None-template_lists
stop_in_node-returns-in-None-template_lists t c =
    let ps = pieces_of (map syntax c.args.parts.now) in
    worded (seen c.args.names.now) c.args.at ps _ _ _ c.in-Tagged.is
    (tagged_other (seen c.args.names.now) c.args.at ps _ _ _ c.in-Some-two-4.ensures c.in-None-template_lists.ensures
    c.first_among-in-None-template_lists.ensures)

pub stop_in_node-returns-in-None-two-4 : goal.stop_in_node-returns-in-None-two-4
stop_in_node-returns-in-None-two-4 t c =
    let ps = pieces_of (map syntax c.args.parts.now) in
    worded (seen c.args.names.now) c.args.at ps _ _ _ c.in-Tagged.is
    (tagged_parts (seen c.args.names.now) c.args.at ps _ c.in-None-two-4.ensures c.first_among-in-None-two-4.ensures)

pub stop_in_node-returns-then-is_known_key : goal.stop_in_node-returns-then-is_known_key
stop_in_node-returns-then-is_known_key t c =
    let ps = pieces_of (map syntax c.args.parts.now) in
    worded (seen c.args.names.now) c.args.at ps _ _ _ c.in-Prop.is
    (prop_stop (seen c.args.names.now) c.args.at ps _ _ _ _ c.in-Some-flag_and_trees.ensures
    (sym c.is_known_key.ensures ∙ c.if-is_known_key.true) c.first_of_two-then-is_known_key.ensures)

pub stop_in_node-returns-in-None-flag_and_trees : goal.stop_in_node-returns-in-None-flag_and_trees
stop_in_node-returns-in-None-flag_and_trees t c =
    let ps = pieces_of (map syntax c.args.parts.now) in
    worded (seen c.args.names.now) c.args.at ps _ _ _ c.in-Prop.is
    (prop_parts (seen c.args.names.now) c.args.at ps _ c.in-None-flag_and_trees.ensures c.first_among-in-None-flag_and_trees.ensures)

pub stop_in_node-returns-in-Some-two-5 : goal.stop_in_node-returns-in-Some-two-5
stop_in_node-returns-in-Some-two-5 t c =
    let ps = pieces_of (map syntax c.args.parts.now) in
    worded (seen c.args.names.now) c.args.at ps _ _ _ c.in-Param.is
    (param_stop (seen c.args.names.now) c.args.at ps _ _ _ c.in-Some-two-5.ensures c.first_of_two-in-Some-two-5.ensures)

pub stop_in_node-returns-in-None-two-5 : goal.stop_in_node-returns-in-None-two-5
stop_in_node-returns-in-None-two-5 t c =
    let ps = pieces_of (map syntax c.args.parts.now) in
    worded (seen c.args.names.now) c.args.at ps _ _ _ c.in-Param.is
    (param_parts (seen c.args.names.now) c.args.at ps _ c.in-None-two-5.ensures c.first_among-in-None-two-5.ensures)

pub stop_in_node-returns-in-Some-two-6 : goal.stop_in_node-returns-in-Some-two-6
stop_in_node-returns-in-Some-two-6 t c =
    let ps = pieces_of (map syntax c.args.parts.now) in
    worded (seen c.args.names.now) c.args.at ps _ _ _ c.in-Defaultpat.is
    (default_stop (seen c.args.names.now) c.args.at ps _ _ _ c.in-Some-two-6.ensures c.first_of_two-in-Some-two-6.ensures)

pub stop_in_node-returns-in-None-two-6 : goal.stop_in_node-returns-in-None-two-6
stop_in_node-returns-in-None-two-6 t c =
    let ps = pieces_of (map syntax c.args.parts.now) in
    worded (seen c.args.names.now) c.args.at ps _ _ _ c.in-Defaultpat.is
    (default_parts (seen c.args.names.now) c.args.at ps _ c.in-None-two-6.ensures c.first_among-in-None-two-6.ensures)

pub stop_in_node-returns-else-loses_item : goal.stop_in_node-returns-else-loses_item
stop_in_node-returns-else-loses_item t c =
    let ps = pieces_of (map syntax c.args.parts.now) in
    worded (seen c.args.names.now) c.args.at ps _ _ _ c.in-Keyedpat.is
    (keyed_stop (seen c.args.names.now) c.args.at ps _ _ _ _ c.in-Some-three-3.ensures
    (sym c.loses_item.ensures ∙ c.if-loses_item.false) c.first_stop-else-loses_item.ensures)

pub stop_in_node-returns-in-None-three-3 : goal.stop_in_node-returns-in-None-three-3
stop_in_node-returns-in-None-three-3 t c =
    let ps = pieces_of (map syntax c.args.parts.now) in
    worded (seen c.args.names.now) c.args.at ps _ _ _ c.in-Keyedpat.is
    (keyed_parts (seen c.args.names.now) c.args.at ps _ c.in-None-three-3.ensures c.first_among-in-None-three-3.ensures)

pub stop_in_node-returns-in-Some-list_and_tree : goal.stop_in_node-returns-in-Some-list_and_tree
stop_in_node-returns-in-Some-list_and_tree t c =
    let ps = pieces_of (map syntax c.args.parts.now) in
    worded (seen c.args.names.now) c.args.at ps _ _ _ c.in-Arraypat.is
    (array_stop (seen c.args.names.now) c.args.at ps (pieces_of (map syntax c.in-Some-list_and_tree.items.now))
    (syntax c.in-Some-list_and_tree.rest.now) _ c.in-Some-list_and_tree.ensures c.first_of_array.ensures)

pub stop_in_node-returns-in-None-list_and_tree : goal.stop_in_node-returns-in-None-list_and_tree
stop_in_node-returns-in-None-list_and_tree t c =
    let ps = pieces_of (map syntax c.args.parts.now) in
    worded (seen c.args.names.now) c.args.at ps _ _ _ c.in-Arraypat.is
    (array_parts (seen c.args.names.now) c.args.at ps _ c.in-None-list_and_tree.ensures
    c.first_among-in-None-list_and_tree.ensures)

pub stop_in_node-returns-in-Some-list_and_tree-2 : goal.stop_in_node-returns-in-Some-list_and_tree-2
stop_in_node-returns-in-Some-list_and_tree-2 t c =
    let ps = pieces_of (map syntax c.args.parts.now) in
    worded (seen c.args.names.now) c.args.at ps _ _ _ c.in-Objectpat.is
    (object_stop (seen c.args.names.now) c.args.at ps (pieces_of (map syntax c.in-Some-list_and_tree-2.properties.now))
    (syntax c.in-Some-list_and_tree-2.rest.now) _ c.in-Some-list_and_tree-2.ensures c.first_of_object.ensures)

pub stop_in_node-returns-in-None-list_and_tree-2 : goal.stop_in_node-returns-in-None-list_and_tree-2
stop_in_node-returns-in-None-list_and_tree-2 t c =
    let ps = pieces_of (map syntax c.args.parts.now) in
    worded (seen c.args.names.now) c.args.at ps _ _ _ c.in-Objectpat.is
    (object_parts (seen c.args.names.now) c.args.at ps _ c.in-None-list_and_tree-2.ensures
    c.first_among-in-None-list_and_tree-2.ensures)

pub stop_to_array-returns-in-Some : goal.stop_to_array-returns-in-Some
stop_to_array-returns-in-Some t c =
    array_target (seen c.args.names.now) (pieces_of (map syntax c.args.parts.now)) (pieces_of (map syntax c.in-Some.items.now))
    (syntax c.in-Some.rest.now) _ c.in-Some.ensures c.stop_to_items.ensures

pub stop_to_object-returns-in-Some : goal.stop_to_object-returns-in-Some
stop_to_object-returns-in-Some t c =
    object_target (seen c.args.names.now) (pieces_of (map syntax c.args.parts.now)) (pieces_of (map syntax c.in-Some.properties.now))
    (syntax c.in-Some.rest.now) _ _ c.in-Some.ensures c.is_plain_rest.ensures c.stop_to_items.ensures
