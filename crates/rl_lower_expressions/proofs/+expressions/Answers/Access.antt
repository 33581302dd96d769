use Rattle.rl_builder.specs.Builder.{State, state_of}
use Rattle.rl_lower_expressions.proofs.CallDerivations.{named_behind}
use Rattle.rl_lower_expressions.proofs.Derivations.{asked_ok, cooked_form}
use Rattle.rl_lower_expressions.proofs.Derivations.{next}
use Rattle.rl_lower_expressions.proofs.Derivations.{plain_callee}
use Rattle.rl_lower_parts.proofs.Derivations.{refused_ok}
use Rattle.rl_lower_expressions.proofs.Derivations.{tagged_form, tagged_may, template_form}
use Rattle.rl_lower_expressions.proofs.MemberDerivations.{computed_key}
use Rattle.rl_lower_parts.proofs.Derivations.{grown}
use Rattle.rl_lower_expressions.proofs.MemberDerivations.{member_parts, method_ok, numbered_key}
use Rattle.rl_lower_expressions.proofs.MemberDerivations.{static_key}
use Rattle.rl_lowered.specs.Forms.{is_property}
use Rattle.rl_lowered.specs.Promised.{share}
use Rattle.rl_names.specs.Seen.{seen}
use Rattle.rl_runs.specs.Blocks.{size_of}
use Rattle.rl_syntax.specs.Syntax.{nodes_of, pieces_of, syntax}
use Rattle.std.proofs.Common.{rules, ℕ, ◌+◌, ◌≤◌, Some, map, refl, sym, arith}
use Rattle.rl_lowered.specs.Forms as forms
use Rattle.rl_lower_expressions.proofs.+expressions.Goals as goal

pub access::lower_call-returns-then-not-is_property-clause-lowered : goal.access::lower_call-returns-then-not-is_property-clause-lowered
access::lower_call-returns-then-not-is_property-clause-lowered g t c =
    asked_ok {at = c.args.at} c.lower_value_to_temporary.result _ refl
    (forms.Call (plain_callee (syntax c.args.callee.tree.now) (sym c.if-not-is_property.ensures)) refl)
    (next c.in_ok-callee.ensures.lowered c.in_ok-arguments.ensures.lowered.by)
    c.lower_value_to_temporary.ensures.state c.lower_value_to_temporary.ensures.place

pub access::lower_computed-returns-clause-lowered : goal.access::lower_computed-returns-clause-lowered
access::lower_computed-returns-clause-lowered g t c = member_parts c.in_ok-object.ensures.lowered c.in_ok-property.ensures.lowered

pub access::lower_key-returns-in-Some-clause-lowered : goal.access::lower_key-returns-in-Some-clause-lowered
access::lower_key-returns-in-Some-clause-lowered g t c = numbered_key c.in-Some.number _ c.new.ensures c.in-Some.ensures

pub access::lower_key-returns-in_ok-place-in-None-clause-lowered : goal.access::lower_key-returns-in_ok-place-in-None-clause-lowered
access::lower_key-returns-in_ok-place-in-None-clause-lowered g t c = computed_key c.in-None.ensures c.in_ok-place-in-None.ensures.lowered

pub access::lower_method-lower_value_to_temporary-requires-2 : goal.access::lower_method-lower_value_to_temporary-requires-2
access::lower_method-lower_value_to_temporary-requires-2 g t c =
    let s0 : State = state_of g.U.ReadsUnit.tables c.args.builder.now in
    let s1 : State = state_of g.U.ReadsUnit.tables c.lower_value_to_temporary.new.builder in
    let s2 : State = state_of g.U.ReadsUnit.tables c.lower_arguments.new.builder in
    let count : ℕ = nodes_of (pieces_of (map syntax c.args.arguments.trees.now)) in
    let first : size_of s1 ≤ size_of s0 + 4 = grown s0 s1 _ _ c.in_ok-property.ensures.state in
    let second : size_of s2 ≤ size_of s1 + share count = c.in_ok-arguments.ensures.lowered.size in
    record { room = omega (arith, first, second, c.requires.room) }

pub access::lower_method-returns-clause-lowered : goal.access::lower_method-returns-clause-lowered
access::lower_method-returns-clause-lowered g t c =
    method_ok (state_of g.U.ReadsUnit.tables c.args.builder.now) c.args.at c.args.there c.args.member c.lower_value_to_temporary-2.result
    (state_of g.U.ReadsUnit.tables c.lower_value_to_temporary-2.new.builder) c.in_ok-value.ensures c.in_ok-property.ensures.state
    c.in_ok-property.ensures.place c.in_ok-arguments.ensures.lowered c.in_ok-new.ensures
    c.lower_value_to_temporary-2.ensures.state c.lower_value_to_temporary-2.ensures.place

pub access::lower_method-lower_arguments-requires : goal.access::lower_method-lower_arguments-requires
access::lower_method-lower_arguments-requires g t c =
    λ lifetimes outlives. (
      search rules,
      (
        search rules,
        (
          (named_behind (state_of g.U.ReadsUnit.tables c.args.builder.now) _ _ _
              c.in_ok-property.ensures.state c.requires.names),
          (
            search rules,
            (let s0 : State = state_of g.U.ReadsUnit.tables c.args.builder.now
                in let s1 : State = state_of g.U.ReadsUnit.tables c.lower_value_to_temporary.new.builder in let first : size_of s1 ≤
                size_of s0 + 4 =
                grown s0 s1 _ _ c.in_ok-property.ensures.state in omega (arith, first, c.requires.room)),
          ),
        ),
      ),
    )

pub access::lower_static-returns-clause-lowered : goal.access::lower_static-returns-clause-lowered
access::lower_static-returns-clause-lowered g t c = member_parts c.in_ok-object.ensures.lowered (static_key _ c.in_ok-copy.ensures)

pub access::lower_tagged-returns-then-not-are_raw-clause-lowered : goal.access::lower_tagged-returns-then-not-are_raw-clause-lowered
access::lower_tagged-returns-then-not-are_raw-clause-lowered g t c =
    refused_ok {at = c.args.at} c.refuse_as_undefined.result _ _ refl
    (cooked_form c.template_literal_view-template.ensures (sym c.if-not-are_raw.ensures))
    c.refuse_as_undefined.ensures.state c.refuse_as_undefined.ensures.place

pub access::lower_tagged-returns-clause-lowered : goal.access::lower_tagged-returns-clause-lowered
access::lower_tagged-returns-clause-lowered g t c =
    asked_ok {at = c.args.at} c.lower_value_to_temporary.result _ refl
    (tagged_form _ c.template_literal_view-template.ensures (sym c.if-not-are_raw.ensures) c.in_ok-template.ensures c.in_ok-quasis.ensures)
    (next c.in_ok-tag.ensures.lowered c.in_ok-subexpressions.ensures.lowered.by)
    c.lower_value_to_temporary.ensures.state c.lower_value_to_temporary.ensures.place

pub access::lower_tagged-lower_expression-requires : goal.access::lower_tagged-lower_expression-requires
access::lower_tagged-lower_expression-requires g t c =
    let free = (tagged_may (seen c.args.names.now) c.args.at (syntax c.args.tag.tree.now) c.template_literal_view-template.ensures (sym
    c.if-not-are_raw.ensures) c.requires.may).0 in
    λ lifetimes outlives. (search rules, (search rules, (search rules, (free, search rules))))

pub access::lower_tagged-lower_expressions-requires : goal.access::lower_tagged-lower_expressions-requires
access::lower_tagged-lower_expressions-requires g t c =
    let free = (tagged_may (seen c.args.names.now) c.args.at (syntax c.args.tag.tree.now) c.template_literal_view-template.ensures (sym
    c.if-not-are_raw.ensures) c.requires.may).1 in
    λ lifetimes outlives. (search rules, (search rules, (search rules, (free, search rules))))

pub access::lower_template-returns-clause-lowered : goal.access::lower_template-returns-clause-lowered
access::lower_template-returns-clause-lowered g t c =
    asked_ok c.lower_value_to_temporary.result _ c.template_literal_view-template.ensures
    (template_form _ c.in_ok-literal.ensures c.in_ok-quasis.ensures) c.in_ok-subexpressions.ensures.lowered.by
    c.lower_value_to_temporary.ensures.state c.lower_value_to_temporary.ensures.place
