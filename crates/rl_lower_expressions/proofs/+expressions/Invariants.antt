use Rattle.std.proofs.Common.{◌≡◌, ◌+◌, ◌*◌, ◌≤◌, ◌++◌, true, false, List, drop, map}
use Rattle.rl_ast.specs.ExpressionViews.{seen_expression}
use Rattle.rl_ast.specs.declared.expression.Expression.TheVariants as expression
use Rattle.rl_builder.specs.Builder.{State, state_of}
use Rattle.rl_grammar.specs.Fields.{maybe}
use Rattle.rl_hir.specs.Pieces.{Piece, argument_pieces, element_pieces, gathered, property_pieces, value_pieces}
use Rattle.rl_hir.specs.declared.instruction.Place.{Place}
use Rattle.rl_lower_expressions.proofs.Derivations.{HasRow}
use Rattle.rl_lower_expressions.proofs.TargetDerivations.{AreLeft}
use Rattle.rl_lower_parts.specs.Patterns.{AreLowerableLeft, HasLeftRoom, all_left, seen_part}
use Rattle.rl_lowered.specs.Lowered.{LoweredAll, LoweredLast, LoweredLater, LoweredProperties}
use Rattle.rl_lowered.specs.Named.{IsNamed}
use Rattle.rl_lowered.specs.Promised.{HasRoom, nodes_left, share}
use Rattle.rl_names.specs.Seen.{seen}
use Rattle.rl_promises.specs.Lowerable.{AreLowerable, IsLowerable}
use Rattle.rl_syntax.specs.Sizes.{size_of}
use Rattle.rl_syntax.specs.Syntax.{Pieces, Then, nodes, nodes_of, pieces_of, syntax}
use Rattle.rl_syntax.specs.declared.numbered.Numbered.{Numbered}
use Rattle.rl_lower_expressions.proofs.+expressions.Given as goal

-- The plain trees of a row.
abbrev shown : List Numbered → Pieces
shown trees = pieces_of (map syntax trees)

-- The nodes that are left; the groups of expressions in the order of their calls, and rows below the node that they are parts of.
abbrev pub decreases-expression::lower_expression : goal.decreases-expression::lower_expression
decreases-expression::lower_expression g l = 16 * nodes (syntax l.expression.tree.now) + 8

abbrev pub decreases-expression::lower_operation : goal.decreases-expression::lower_operation
decreases-expression::lower_operation g l = 16 * nodes (syntax l.expression.tree.now) + 7

abbrev pub decreases-expression::lower_access : goal.decreases-expression::lower_access
decreases-expression::lower_access g l = 16 * nodes (syntax l.expression.tree.now) + 6

abbrev pub decreases-expression::lower_composite : goal.decreases-expression::lower_composite
decreases-expression::lower_composite g l = 16 * nodes (syntax l.expression.tree.now) + 5

abbrev pub decreases-expression::lower_refused : goal.decreases-expression::lower_refused
decreases-expression::lower_refused g l = 16 * nodes (syntax l.expression.tree.now) + 4

abbrev pub decreases-expression::lower_logical : goal.decreases-expression::lower_logical
decreases-expression::lower_logical g l = 16 * nodes (seen_expression (expression.Logical l.at l.operator l.left l.right)) + 2

abbrev pub decreases-expression::lower_conditional : goal.decreases-expression::lower_conditional
decreases-expression::lower_conditional g l = 16 * nodes (seen_expression (expression.Conditional l.at l.test l.consequent l.alternate)) + 2

abbrev pub decreases-expression::lower_sequence : goal.decreases-expression::lower_sequence
decreases-expression::lower_sequence g l = 16 * nodes (seen_expression (expression.Sequence l.at l.expressions)) + 2

abbrev pub decreases-expression::lower_import : goal.decreases-expression::lower_import
decreases-expression::lower_import g l = 16 * nodes (seen_expression (expression.ImportCall l.at l.source l.options)) + 2

abbrev pub decreases-access::lower_call : goal.decreases-access::lower_call
decreases-access::lower_call g l = 16 * (nodes (syntax l.callee.tree.now) + nodes_of (shown l.arguments.trees.now) + 1) + 2

abbrev pub decreases-access::lower_tagged : goal.decreases-access::lower_tagged
decreases-access::lower_tagged g l = 16 * nodes (seen_expression (expression.Tagged l.at l.tag l.quasi)) + 2

abbrev pub decreases-access::lower_template : goal.decreases-access::lower_template
decreases-access::lower_template g l = 16 * nodes (syntax l.template.tree.now) + 2

abbrev pub decreases-operator::lower_unary : goal.decreases-operator::lower_unary
decreases-operator::lower_unary g l = 16 * nodes (seen_expression (expression.Unary l.at l.operator l.argument)) + 2

abbrev pub decreases-operator::lower_delete : goal.decreases-operator::lower_delete
decreases-operator::lower_delete g l = 16 * nodes (seen_expression (expression.Unary l.at l.operator l.argument)) + 1

abbrev pub decreases-operator::lower_update : goal.decreases-operator::lower_update
decreases-operator::lower_update g l = 16 * nodes (seen_expression (expression.Update l.at l.operator l.prefix l.target)) + 2

abbrev pub decreases-operator::lower_cast : goal.decreases-operator::lower_cast
decreases-operator::lower_cast g l = 16 * nodes (syntax l.expression.tree.now) + 9

abbrev pub decreases-operator::lower_private : goal.decreases-operator::lower_private
decreases-operator::lower_private g l = 16 * nodes (syntax l.object.tree.now) + 9

abbrev pub decreases-assignment::lower_assignment : goal.decreases-assignment::lower_assignment
decreases-assignment::lower_assignment g l = 16 * nodes (seen_expression (expression.Assignment l.at l.operator l.target l.right)) + 2

abbrev pub decreases-assignment::lower_assigned : goal.decreases-assignment::lower_assigned
decreases-assignment::lower_assigned g l = 16 * (nodes (syntax l.target.tree.now) + nodes (syntax l.right.tree.now) + 1) + 1

abbrev pub decreases-assignment::lower_compound : goal.decreases-assignment::lower_compound
decreases-assignment::lower_compound g l = 16 * (nodes (syntax l.target.tree.now) + nodes (syntax l.right.tree.now) + 1) + 1

abbrev pub decreases-assignment::compound_name : goal.decreases-assignment::compound_name
decreases-assignment::compound_name g l = 16 * (nodes (syntax l.name.tree.now) + nodes (syntax l.right.tree.now)) + 10

abbrev pub decreases-assignment::compound_private : goal.decreases-assignment::compound_private
decreases-assignment::compound_private g l = 16 * (nodes (syntax l.object.tree.now) + nodes (syntax l.right.tree.now)) + 10

abbrev pub decreases-assignment::update_member_by : goal.decreases-assignment::update_member_by
decreases-assignment::update_member_by g l = 16 * nodes (syntax l.right.tree.now) + 9

abbrev pub decreases-target::lower_default : goal.decreases-target::lower_default
decreases-target::lower_default g l = 16 * nodes (syntax l.default.tree.now) + 9

abbrev pub decreases-target::lower_array_target : goal.decreases-target::lower_array_target
decreases-target::lower_array_target g l =
    16 * (nodes_of (shown l.items.trees.now) + nodes (maybe l.rest (λ t. syntax t.tree.now)) + 1) + 3

abbrev pub decreases-target::lower_object_target : goal.decreases-target::lower_object_target
decreases-target::lower_object_target g l =
    16 * (nodes_of (shown l.properties.trees.now) + nodes (maybe l.rest (λ t. syntax t.tree.now)) + 1) + 3

abbrev pub decreases-target::lower_target : goal.decreases-target::lower_target
decreases-target::lower_target g l = 16 * nodes (syntax l.target.tree.now) + 4

abbrev pub decreases-target::lower_maybe_default : goal.decreases-target::lower_maybe_default
decreases-target::lower_maybe_default g l = 16 * nodes (syntax l.target.tree.now) + 5

abbrev pub decreases-target::lower_left_part : goal.decreases-target::lower_left_part
decreases-target::lower_left_part g l = 16 * nodes (seen_part l.left.part) + 6

abbrev pub decreases-target::lower_left : goal.decreases-target::lower_left
decreases-target::lower_left g l = 16 * nodes_left (all_left l.left.now) + 10

abbrev pub decreases-access::lower_static : goal.decreases-access::lower_static
decreases-access::lower_static g l = 16 * nodes (syntax l.object.tree.now) + 9

abbrev pub decreases-access::lower_computed : goal.decreases-access::lower_computed
decreases-access::lower_computed g l = 16 * (nodes (syntax l.object.tree.now) + nodes (syntax l.property.tree.now)) + 10

abbrev pub decreases-access::lower_key : goal.decreases-access::lower_key
decreases-access::lower_key g l = 16 * nodes (syntax l.key.tree.now) + 9

abbrev pub decreases-access::lower_method : goal.decreases-access::lower_method
decreases-access::lower_method g l = 16 * nodes_of (shown l.arguments.trees.now) + 11

abbrev pub decreases-chain::lower_front : goal.decreases-chain::lower_front
decreases-chain::lower_front g l = 16 * nodes (syntax l.expression.tree.now) + 12

abbrev pub decreases-chain::lower_inner : goal.decreases-chain::lower_inner
decreases-chain::lower_inner g l = 16 * nodes (syntax l.expression.tree.now) + 11

abbrev pub decreases-chain::lower_lent : goal.decreases-chain::lower_lent
decreases-chain::lower_lent g l = 16 * nodes (syntax l.callee.tree.now) + 9

abbrev pub decreases-chain::lower_spine : goal.decreases-chain::lower_spine
decreases-chain::lower_spine g l = 16 * nodes (syntax l.expression.tree.now) + 10

abbrev pub decreases-chain::lower_link : goal.decreases-chain::lower_link
decreases-chain::lower_link g l = 16 * nodes (syntax l.expression.tree.now) + 9

abbrev pub decreases-chain::lower_static_link : goal.decreases-chain::lower_static_link
decreases-chain::lower_static_link g l = 16 * nodes (seen_expression (expression.Member l.at l.optional l.object l.property)) + 8

abbrev pub decreases-chain::lower_computed_link : goal.decreases-chain::lower_computed_link
decreases-chain::lower_computed_link g l = 16 * nodes (seen_expression (expression.Index l.at l.optional l.object l.property)) + 8

abbrev pub decreases-chain::lower_private_link : goal.decreases-chain::lower_private_link
decreases-chain::lower_private_link g l =
    16 * nodes (seen_expression (expression.PrivateMember l.at l.optional l.object l.property)) + 8

abbrev pub decreases-chain::lower_called_link : goal.decreases-chain::lower_called_link
decreases-chain::lower_called_link g l = 16 * nodes (seen_expression (expression.Call l.at l.optional l.callee l.arguments)) + 8

abbrev pub decreases-chain::open_link : goal.decreases-chain::open_link
decreases-chain::open_link g l = 16 * nodes (syntax l.expression.tree.now) + 13

abbrev pub decreases-parts::lower_argument : goal.decreases-parts::lower_argument
decreases-parts::lower_argument g l = 16 * nodes (syntax l.argument.tree.now) + 9

abbrev pub decreases-parts::lower_element : goal.decreases-parts::lower_element
decreases-parts::lower_element g l = 16 * nodes (syntax l.element.tree.now) + 9

abbrev pub decreases-parts::lower_property : goal.decreases-parts::lower_property
decreases-parts::lower_property g l = 16 * nodes (syntax l.property.tree.now) + 9

abbrev pub decreases-parts::lower_keyed : goal.decreases-parts::lower_keyed
decreases-parts::lower_keyed g l = 16 * (nodes (syntax l.key.tree.now) + nodes (syntax l.value.tree.now)) + 9

abbrev pub decreases-parts::lower_arguments : goal.decreases-parts::lower_arguments
decreases-parts::lower_arguments g l = 16 * nodes_of (shown l.arguments.trees.now) + 10

abbrev pub decreases-parts::lower_elements : goal.decreases-parts::lower_elements
decreases-parts::lower_elements g l = 16 * nodes_of (shown l.elements.trees.now) + 10

abbrev pub decreases-parts::lower_properties : goal.decreases-parts::lower_properties
decreases-parts::lower_properties g l = 16 * nodes_of (shown l.properties.trees.now) + 10

abbrev pub decreases-parts::lower_expressions : goal.decreases-parts::lower_expressions
decreases-parts::lower_expressions g l = 16 * nodes_of (shown l.expressions.trees.now) + 10

abbrev pub decreases-parts::lower_last : goal.decreases-parts::lower_last
decreases-parts::lower_last g l = 16 * nodes_of (shown l.expressions.trees.now) + 10

abbrev pub decreases-parts::lower_arguments-arguments : goal.decreases-parts::lower_arguments-arguments
decreases-parts::lower_arguments-arguments g l = size_of (shown l.left.trees.now)

abbrev pub decreases-parts::lower_elements-elements : goal.decreases-parts::lower_elements-elements
decreases-parts::lower_elements-elements g l = size_of (shown l.left.trees.now)

abbrev pub decreases-parts::lower_properties-properties : goal.decreases-parts::lower_properties-properties
decreases-parts::lower_properties-properties g l = size_of (shown l.left.trees.now)

abbrev pub decreases-parts::lower_expressions-expressions : goal.decreases-parts::lower_expressions-expressions
decreases-parts::lower_expressions-expressions g l = size_of (shown l.left.trees.now)

abbrev pub decreases-parts::lower_last-expressions : goal.decreases-parts::lower_last-expressions
decreases-parts::lower_last-expressions g l = size_of (shown l.left.trees.now)

-- The parts that wait may be lowered, and with them all are.
abbrev pub invariant-target::lower_left-parts : goal.invariant-target::lower_left-parts
invariant-target::lower_left-parts g l = record {
  same_reference : l.builder.env.ghost_name ≡ l.initial.builder.env.ghost_name;
  left : AreLeft (seen l.names) l.left (drop l.part-index l.left) (state_of g.U.ReadsUnit.tables l.initial.builder)
      (state_of g.U.ReadsUnit.tables l.builder);
}

-- The arguments that are left may be lowered, and with them all are.
abbrev pub invariant-parts::lower_arguments-arguments : goal.invariant-parts::lower_arguments-arguments
invariant-parts::lower_arguments-arguments g l = record {
  same_reference : l.builder.env.ghost_name ≡ l.initial.builder.env.ghost_name;
  row : HasRow argument_pieces (seen l.names) false (shown l.arguments.trees.now) (shown l.left.trees.now)
      (state_of g.U.ReadsUnit.tables l.initial.builder) (state_of g.U.ReadsUnit.tables l.builder) l.given;
}

-- The elements that are left may be lowered, and with them all are.
abbrev pub invariant-parts::lower_elements-elements : goal.invariant-parts::lower_elements-elements
invariant-parts::lower_elements-elements g l = record {
  same_reference : l.builder.env.ghost_name ≡ l.initial.builder.env.ghost_name;
  row : HasRow element_pieces (seen l.names) false (shown l.elements.trees.now) (shown l.left.trees.now)
      (state_of g.U.ReadsUnit.tables l.initial.builder) (state_of g.U.ReadsUnit.tables l.builder) l.given;
}

-- The properties that are left may be lowered, and with them all are.
abbrev pub invariant-parts::lower_properties-properties : goal.invariant-parts::lower_properties-properties
invariant-parts::lower_properties-properties g l = record {
  same_reference : l.builder.env.ghost_name ≡ l.initial.builder.env.ghost_name;
  row : HasRow property_pieces (seen l.names) true (shown l.properties.trees.now) (shown l.left.trees.now)
      (state_of g.U.ReadsUnit.tables l.initial.builder) (state_of g.U.ReadsUnit.tables l.builder) l.given;
}

-- The expressions that are left may be lowered, and with them all are.
abbrev pub invariant-parts::lower_expressions-expressions : goal.invariant-parts::lower_expressions-expressions
invariant-parts::lower_expressions-expressions g l = record {
  same_reference : l.builder.env.ghost_name ≡ l.initial.builder.env.ghost_name;
  row : HasRow value_pieces (seen l.names) false (shown l.expressions.trees.now) (shown l.left.trees.now)
      (state_of g.U.ReadsUnit.tables l.initial.builder) (state_of g.U.ReadsUnit.tables l.builder) l.given;
}

-- The last expression so far and those that are left may be lowered, and with them all are.
abbrev pub invariant-parts::lower_last-expressions : goal.invariant-parts::lower_last-expressions
invariant-parts::lower_last-expressions g l = record {
  same_reference : l.builder.env.ghost_name ≡ l.initial.builder.env.ghost_name;
  names : IsNamed (seen l.names) (state_of g.U.ReadsUnit.tables l.builder);
  may : AreLowerable (seen l.names) (Then (syntax l.last.tree.now) (shown l.left.trees.now));
  room : HasRoom (state_of g.U.ReadsUnit.tables l.builder) (share (nodes (syntax l.last.tree.now) + nodes_of (shown l.left.trees.now)));
  fewer : nodes (syntax l.last.tree.now) + nodes_of (shown l.left.trees.now) ≤ nodes_of (shown l.expressions.trees.now);
  gives : (new : State) (place : Place)
      → LoweredLast (seen l.names) (Then (syntax l.last.tree.now) (shown l.left.trees.now)) (state_of g.U.ReadsUnit.tables l.builder) new
      place
      → LoweredLast (seen l.names) (shown l.expressions.trees.now) (state_of g.U.ReadsUnit.tables l.initial.builder) new place;
}
