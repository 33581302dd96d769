use Rattle.rl_builder.specs.Builder.{State, state_of}
use Rattle.rl_hir.specs.Pieces.{argument_pieces, element_pieces, value_pieces}
use Rattle.rl_lower_expressions.proofs.Derivations.{gives_all, gives_properties}
use Rattle.rl_lower_expressions.proofs.Derivations.{last_alone, last_next, next}
use Rattle.rl_lower_expressions.proofs.Derivations.{one_computed, one_fraction, one_hole, one_part, one_property}
use Rattle.rl_lower_expressions.proofs.Derivations.{one_spread, one_spread_property, one_unknown}
use Rattle.rl_lower_expressions.proofs.Derivations.{row_all, row_properties}
use Rattle.rl_lower_parts.proofs.Derivations.{room_after}
use Rattle.rl_lowered.proofs.Told.{told_last}
use Rattle.rl_lowered.specs.Promised.{share}
use Rattle.rl_names.specs.Seen.{seen}
use Rattle.rl_promises.specs.Lowerable.{AreLowerable}
use Rattle.rl_syntax.specs.Syntax.{Pieces, Syntax, Then, nodes, nodes_of, pieces_of, span_of, syntax}
use Rattle.std.proofs.Common.{◌≡◌, ◌+◌, Some, map, refl, ap, sym, ◌∙◌, subst, arith}
use Rattle.rl_lower_expressions.proofs.+expressions.Goals as goal

pub parts::lower_argument-returns-in_ok-place-in-Expression-clause-lowered
    : goal.parts::lower_argument-returns-in_ok-place-in-Expression-clause-lowered
parts::lower_argument-returns-in_ok-place-in-Expression-clause-lowered g t c =
    one_part c.in-Expression.ensures c.in_ok-place-in-Expression.ensures.lowered

pub parts::lower_argument-returns-in_ok-place-in-Spread-clause-lowered
    : goal.parts::lower_argument-returns-in_ok-place-in-Spread-clause-lowered
parts::lower_argument-returns-in_ok-place-in-Spread-clause-lowered g t c =
    one_spread c.in-Spread.ensures c.in_ok-place-in-Spread.ensures.lowered

pub parts::lower_arguments-arguments-preserved : goal.parts::lower_arguments-arguments-preserved
parts::lower_arguments-arguments-preserved g t c =
    record {
      same_reference = c.in_ok-lower_argument.ensures.same_reference ∙ c.arguments.invariant.same_reference;
      row = row_all argument_pieces c.arguments.given c.in_ok-lower_argument.field-0 c.in-Some.ensures c.in_ok-push.ensures.ok
          c.in_ok-lower_argument.ensures.lowered c.arguments.invariant.row;
    }

pub parts::lower_arguments-returns-clause-lowered : goal.parts::lower_arguments-returns-clause-lowered
parts::lower_arguments-returns-clause-lowered g t c = gives_all argument_pieces c.arguments.given c.in_default.ensures
    c.arguments.invariant.row.gives

pub parts::lower_element-returns-in_ok-place-in-Expression-clause-lowered
    : goal.parts::lower_element-returns-in_ok-place-in-Expression-clause-lowered
parts::lower_element-returns-in_ok-place-in-Expression-clause-lowered g t c =
    one_part c.in-Expression.ensures c.in_ok-place-in-Expression.ensures.lowered

pub parts::lower_element-returns-in_ok-place-in-Spread-clause-lowered
    : goal.parts::lower_element-returns-in_ok-place-in-Spread-clause-lowered
parts::lower_element-returns-in_ok-place-in-Spread-clause-lowered g t c =
    one_spread c.in-Spread.ensures c.in_ok-place-in-Spread.ensures.lowered

pub parts::lower_element-returns-in-Hole-clause-lowered : goal.parts::lower_element-returns-in-Hole-clause-lowered
parts::lower_element-returns-in-Hole-clause-lowered g t c = one_hole c.in-Hole.ensures

pub parts::lower_elements-elements-preserved : goal.parts::lower_elements-elements-preserved
parts::lower_elements-elements-preserved g t c =
    record {
      same_reference = c.in_ok-lower_element.ensures.same_reference ∙ c.elements.invariant.same_reference;
      row = row_all element_pieces c.elements.given c.in_ok-lower_element.field-0 c.in-Some.ensures c.in_ok-push.ensures.ok
          c.in_ok-lower_element.ensures.lowered c.elements.invariant.row;
    }

pub parts::lower_elements-returns-clause-lowered : goal.parts::lower_elements-returns-clause-lowered
parts::lower_elements-returns-clause-lowered g t c = gives_all element_pieces c.elements.given c.in_default.ensures
    c.elements.invariant.row.gives

pub parts::lower_expressions-expressions-preserved : goal.parts::lower_expressions-expressions-preserved
parts::lower_expressions-expressions-preserved g t c =
    record {
      same_reference = c.in_ok-lower_expression.ensures.same_reference ∙ c.expressions.invariant.same_reference;
      row = row_all value_pieces c.expressions.given c.in_ok-lower_expression.field-0 c.in-Some.ensures c.in_ok-push.ensures.ok
          (one_part refl c.in_ok-lower_expression.ensures.lowered) c.expressions.invariant.row;
    }

pub parts::lower_expressions-returns-clause-lowered : goal.parts::lower_expressions-returns-clause-lowered
parts::lower_expressions-returns-clause-lowered g t c = gives_all value_pieces c.expressions.given c.in_default.ensures
    c.expressions.invariant.row.gives

pub parts::lower_keyed-returns-in_ok-place-in-Fixed-clause-lowered : goal.parts::lower_keyed-returns-in_ok-place-in-Fixed-clause-lowered
parts::lower_keyed-returns-in_ok-place-in-Fixed-clause-lowered g t c = λ at.
    one_property {at = at} {computed = c.args.computed} {key = syntax c.args.key.tree.now} c.in-Fixed.ensures c.in_ok-key-in-Fixed.ensures
    c.in_ok-place-in-Fixed.ensures.lowered

pub parts::lower_keyed-returns-in_ok-place-in-Computed-clause-lowered
    : goal.parts::lower_keyed-returns-in_ok-place-in-Computed-clause-lowered
parts::lower_keyed-returns-in_ok-place-in-Computed-clause-lowered g t c = λ at.
    one_computed {at = at} {computed = c.args.computed} c.in-Computed.ensures.0 c.in-Computed.ensures.1
    c.in_ok-key-in-Computed.ensures.lowered c.in_ok-place-in-Computed.ensures.lowered

pub parts::lower_keyed-returns-in_ok-lower_expression-in-Fraction-clause-lowered
    : goal.parts::lower_keyed-returns-in_ok-lower_expression-in-Fraction-clause-lowered
parts::lower_keyed-returns-in_ok-lower_expression-in-Fraction-clause-lowered g t c = λ at.
    one_fraction {at = at} {computed = c.args.computed} c.in-Fraction.ensures.0 c.in-Fraction.ensures.1
    c.in_ok-refuse-in-Fraction.ensures.state c.in_ok-lower_expression-in-Fraction.ensures.lowered

pub parts::lower_last-expressions-preserved : goal.parts::lower_last-expressions-preserved
parts::lower_last-expressions-preserved g t c =
    let loop = c.expressions.invariant in
    let now : State = state_of g.U.ReadsUnit.tables c.expressions.builder in
    let later : State = state_of g.U.ReadsUnit.tables c.lower_expression.new.builder in
    let lowered = c.in_ok-lower_expression-in-Some.ensures.lowered in
    let left : Pieces = pieces_of (map syntax c.expressions.left.trees.now) in
    let rest : Pieces = pieces_of (map syntax c.in-Some-split_first.rest.trees.now) in
    let last : Syntax = syntax c.expressions.last.tree.now in
    let next : Syntax = syntax c.in-Some-split_first.next.tree.now in
    let split : left ≡ Then next rest = c.in-Some-split_first.ensures in
    let counted : nodes_of left ≡ nodes next + nodes_of rest = ap nodes_of split in
    record {
      same_reference = c.in_ok-lower_expression-in-Some.ensures.same_reference ∙ loop.same_reference;
      names = lowered.named loop.names;
      may = subst (AreLowerable (seen c.args.names.now)) split loop.may.1;
      room = room_after now later (share (nodes last)) (share (nodes next + nodes_of rest)) (share (nodes last + nodes_of left))
          lowered.size
          (omega (arith, counted)) loop.room;
      fewer = omega (arith, counted, loop.fewer);
      gives = λ new place more. loop.gives new place (last_next split lowered more);
    }

pub parts::lower_last-returns-clause-lowered : goal.parts::lower_last-returns-clause-lowered
parts::lower_last-returns-clause-lowered g t c =
    told_last (c.expressions.invariant.gives _ _ (last_alone c.in_default.ensures c.in_ok-place-in-Some.ensures.lowered))

pub parts::lower_properties-properties-preserved : goal.parts::lower_properties-properties-preserved
parts::lower_properties-properties-preserved g t c =
    record {
      same_reference = c.in_ok-property.ensures.same_reference ∙ c.properties.invariant.same_reference;
      row = row_properties c.properties.given c.in_ok-property.property c.in-Some.ensures c.in_ok-push_where.ensures.pushed
          c.in_ok-property.ensures.lowered c.properties.invariant.row;
    }

pub parts::lower_properties-returns-clause-lowered : goal.parts::lower_properties-returns-clause-lowered
parts::lower_properties-returns-clause-lowered g t c = gives_properties c.properties.given c.in_default.ensures
    c.properties.invariant.row.gives

pub parts::lower_property-returns-then-not-is_known_key-clause-lowered
    : goal.parts::lower_property-returns-then-not-is_known_key-clause-lowered
parts::lower_property-returns-then-not-is_known_key-clause-lowered g t c =
    one_unknown {at = c.in-Value.at} {computed = c.in-Value.computed} c.in-Value.ensures (sym c.if-not-is_known_key.ensures)
    c.span_of.ensures c.in_ok-refuse-in-Value.ensures.state

pub parts::lower_property-returns-in_ok-place-in-Spread-clause-lowered
    : goal.parts::lower_property-returns-in_ok-place-in-Spread-clause-lowered
parts::lower_property-returns-in_ok-place-in-Spread-clause-lowered g t c = one_spread_property c.in-Spread.ensures
    c.in_ok-place-in-Spread.ensures.lowered
