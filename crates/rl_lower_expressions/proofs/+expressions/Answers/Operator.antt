use Rattle.rl_base.specs.Operators.{unary_text, update_text}
use Rattle.rl_builder.specs.Builder.{state_of}
use Rattle.rl_lower_expressions.proofs.Derivations.{asked_ok}
use Rattle.rl_lower_expressions.proofs.Derivations.{index_told, member_told, next}
use Rattle.rl_lower_expressions.proofs.Derivations.{nothing}
use Rattle.rl_lower_expressions.proofs.Derivations.{private_ok}
use Rattle.rl_lower_parts.proofs.Derivations.{refused_ok}
use Rattle.rl_lower_expressions.proofs.MemberDerivations.{delete_may, deleted_ok, lost_delete}
use Rattle.rl_lower_expressions.proofs.MemberDerivations.{private_delete_ok, private_update_ok}
use Rattle.rl_lower_expressions.proofs.MemberDerivations.{updated_ok}
use Rattle.rl_lower_expressions.proofs.OperandDerivations.{index_may, private_may, static_may, target_may}
use Rattle.rl_lower_expressions.proofs.OperatorDerivations.{cast_ok}
use Rattle.rl_promises.specs.Patterns.{is_pattern}
use Rattle.rl_names.specs.Seen.{seen}
use Rattle.rl_promises.specs.Lowerable.{IsLowerable}
use Rattle.rl_promises.specs.Outs.{is_wrapped}
use Rattle.rl_syntax.specs.Syntax.{Flag, Said, syntax}
use Rattle.std.proofs.Common.{rules, true≢false, refl, ap, sym, ◌∙◌}
use Rattle.rl_lowered.specs.Forms as forms
use Rattle.rl_lower_expressions.proofs.+expressions.Goals as goal

pub operator::lower_cast-returns-clause-lowered : goal.operator::lower_cast-returns-clause-lowered
operator::lower_cast-returns-clause-lowered g t c =
    cast_ok c.args.at c.type_annotation_view-annotation.result.kind c.lower_type-cast.result
    (state_of g.U.ReadsUnit.tables c.args.builder.now) c.lower_value_to_temporary.result
    (state_of g.U.ReadsUnit.tables c.lower_value_to_temporary.new.builder) c.type_annotation_view-annotation.ensures c.args.annotation.fit
    c.in_ok-value.ensures.lowered c.lower_type-cast.ensures.state c.lower_type-cast.ensures.cast
    c.lower_value_to_temporary.ensures.state c.lower_value_to_temporary.ensures.place

pub operator::lower_delete-returns-then-not-is_link-clause-lowered : goal.operator::lower_delete-returns-then-not-is_link-clause-lowered
operator::lower_delete-returns-then-not-is_link-clause-lowered g t c =
    refused_ok {names = seen c.args.names.now} {at = c.args.at} c.refuse_as_undefined.result _ _ refl
    (lost_delete c.args.operator (syntax c.without_parentheses-inner.result.tree.now) c.without_parentheses-inner.ensures.deletes
    (sym c.if-not-is_link.ensures) c.requires.deletes)
    c.refuse_as_undefined.ensures.state c.refuse_as_undefined.ensures.place

pub operator::lower_delete-returns-in_ok-value-in-Member-clause-lowered
    : goal.operator::lower_delete-returns-in_ok-value-in-Member-clause-lowered
operator::lower_delete-returns-in_ok-value-in-Member-clause-lowered g t c =
    let may : IsLowerable (seen c.args.names.now) (syntax c.without_parentheses-inner.result.tree.now) =
    delete_may (seen c.args.names.now) c.args.at (unary_text c.args.operator) c.without_parentheses-inner.ensures.inside
    c.without_parentheses-inner.ensures.deletes (sym c.if-not-is_link.ensures) c.requires.deletes c.requires.may in
    deleted_ok {names = seen c.args.names.now} c.args.at c.args.operator c.in_ok-member-in-Member.member c.lower_value_to_temporary.result
    (state_of g.U.ReadsUnit.tables c.lower_value_to_temporary.new.builder)
    (member_told (seen c.args.names.now) c.in-Member.optional c.in-Member.ensures may) c.without_parentheses-inner.ensures.inside
    c.requires.deletes c.in_ok-value-in-Member.ensures c.in_ok-member-in-Member.ensures.lowered
    c.lower_value_to_temporary.ensures.state c.lower_value_to_temporary.ensures.place

pub operator::lower_delete-returns-in_ok-value-in-Index-clause-lowered
    : goal.operator::lower_delete-returns-in_ok-value-in-Index-clause-lowered
operator::lower_delete-returns-in_ok-value-in-Index-clause-lowered g t c =
    let may : IsLowerable (seen c.args.names.now) (syntax c.without_parentheses-inner.result.tree.now) =
    delete_may (seen c.args.names.now) c.args.at (unary_text c.args.operator) c.without_parentheses-inner.ensures.inside
    c.without_parentheses-inner.ensures.deletes (sym c.if-not-is_link.ensures) c.requires.deletes c.requires.may in
    deleted_ok {names = seen c.args.names.now} c.args.at c.args.operator c.in_ok-member-in-Index.member
    c.lower_value_to_temporary-in-Index.result (state_of g.U.ReadsUnit.tables c.lower_value_to_temporary-in-Index.new.builder)
    (index_told (seen c.args.names.now) c.in-Index.optional c.in-Index.ensures may) c.without_parentheses-inner.ensures.inside
    c.requires.deletes c.in_ok-value-in-Index.ensures c.in_ok-member-in-Index.ensures.lowered
    c.lower_value_to_temporary-in-Index.ensures.state c.lower_value_to_temporary-in-Index.ensures.place

pub operator::lower_delete-returns-in-PrivateMember-clause-lowered : goal.operator::lower_delete-returns-in-PrivateMember-clause-lowered
operator::lower_delete-returns-in-PrivateMember-clause-lowered g t c =
    private_delete_ok (seen c.args.names.now) c.args.at c.args.operator (state_of g.U.ReadsUnit.tables c.args.builder.now)
    (state_of g.U.ReadsUnit.tables c.lower_private.new.builder) c.in-PrivateMember.optional c.lower_private.result
    c.in-PrivateMember.ensures
    (delete_may (seen c.args.names.now) c.args.at (unary_text c.args.operator) c.without_parentheses-inner.ensures.inside
    c.without_parentheses-inner.ensures.deletes (sym c.if-not-is_link.ensures) c.requires.deletes c.requires.may)
    c.without_parentheses-inner.ensures.inside c.requires.deletes c.lower_private.ensures.lowered

pub operator::lower_delete-lower_static-requires : goal.operator::lower_delete-lower_static-requires
operator::lower_delete-lower_static-requires g t c =
    let free = static_may (seen c.args.names.now) c.in-Member.optional c.in-Member.ensures (delete_may (seen c.args.names.now)
    c.args.at (unary_text c.args.operator) c.without_parentheses-inner.ensures.inside c.without_parentheses-inner.ensures.deletes (sym
    c.if-not-is_link.ensures) c.requires.deletes c.requires.may) in
    λ lifetimes outlives. (search rules, (search rules, (search rules, (free, search rules))))

pub operator::lower_delete-lower_computed-requires : goal.operator::lower_delete-lower_computed-requires
operator::lower_delete-lower_computed-requires g t c =
    let free = index_may (seen c.args.names.now) c.in-Index.optional c.in-Index.ensures (delete_may (seen c.args.names.now) c.args.at
    (unary_text c.args.operator) c.without_parentheses-inner.ensures.inside c.without_parentheses-inner.ensures.deletes (sym
    c.if-not-is_link.ensures) c.requires.deletes c.requires.may) in
    λ lifetimes outlives. (search rules, (search rules, (search rules, (free, search rules))))

pub operator::lower_delete-lower_private-requires : goal.operator::lower_delete-lower_private-requires
operator::lower_delete-lower_private-requires g t c =
    let free = private_may (seen c.args.names.now) c.in-PrivateMember.optional c.in-PrivateMember.ensures (delete_may (seen
    c.args.names.now) c.args.at (unary_text c.args.operator) c.without_parentheses-inner.ensures.inside
    c.without_parentheses-inner.ensures.deletes (sym c.if-not-is_link.ensures) c.requires.deletes c.requires.may) in
    λ lifetimes outlives. (search rules, (search rules, (search rules, (free, search rules))))

pub operator::lower_private-returns-clause-lowered : goal.operator::lower_private-returns-clause-lowered
operator::lower_private-returns-clause-lowered g t c =
    private_ok c.args.at c.refuse_as_undefined.result _ c.in_ok-lower_expression.ensures.lowered c.refuse_as_undefined.ensures.state
    c.refuse_as_undefined.ensures.place

pub operator::lower_unary-returns-clause-lowered : goal.operator::lower_unary-returns-clause-lowered
operator::lower_unary-returns-clause-lowered g t c =
    asked_ok {at = c.args.at} c.lower_value_to_temporary.result _ refl (forms.Unary (sym c.if-is_delete.ensures))
    (next c.in_ok-value.ensures.lowered nothing) c.lower_value_to_temporary.ensures.state c.lower_value_to_temporary.ensures.place

pub operator::lower_update-returns-in_ok-member-in-Member-clause-lowered
    : goal.operator::lower_update-returns-in_ok-member-in-Member-clause-lowered
operator::lower_update-returns-in_ok-member-in-Member-clause-lowered g t c =
    updated_ok {names = seen c.args.names.now} c.args.at c.args.operator c.args.prefix c.in_ok-member-in-Member.member
    c.update_member.result (state_of g.U.ReadsUnit.tables c.update_member.new.builder)
    (member_told (seen c.args.names.now) c.in-Member.optional c.in-Member.ensures
    (target_may (seen c.args.names.now) c.args.at (Said (update_text c.args.operator)) (Flag c.args.prefix)
    c.in-Member.ensures refl c.requires.may))
    c.in_ok-member-in-Member.ensures.lowered c.update_member.ensures.state c.update_member.ensures.place

pub operator::lower_update-returns-in_ok-member-in-Index-clause-lowered
    : goal.operator::lower_update-returns-in_ok-member-in-Index-clause-lowered
operator::lower_update-returns-in_ok-member-in-Index-clause-lowered g t c =
    updated_ok {names = seen c.args.names.now} c.args.at c.args.operator c.args.prefix c.in_ok-member-in-Index.member
    c.update_member-in-Index.result (state_of g.U.ReadsUnit.tables c.update_member-in-Index.new.builder)
    (index_told (seen c.args.names.now) c.in-Index.optional c.in-Index.ensures
    (target_may (seen c.args.names.now) c.args.at (Said (update_text c.args.operator)) (Flag c.args.prefix)
    c.in-Index.ensures refl c.requires.may))
    c.in_ok-member-in-Index.ensures.lowered c.update_member-in-Index.ensures.state c.update_member-in-Index.ensures.place

pub operator::lower_update-returns-in-PrivateMember-clause-lowered : goal.operator::lower_update-returns-in-PrivateMember-clause-lowered
operator::lower_update-returns-in-PrivateMember-clause-lowered g t c =
    private_update_ok (seen c.args.names.now) c.args.at (Said (update_text c.args.operator)) (Flag c.args.prefix)
    (state_of g.U.ReadsUnit.tables c.args.builder.now) (state_of g.U.ReadsUnit.tables c.lower_private.new.builder)
    c.in-PrivateMember.optional c.lower_private.result c.in-PrivateMember.ensures
    (target_may (seen c.args.names.now) c.args.at (Said (update_text c.args.operator)) (Flag c.args.prefix)
    c.in-PrivateMember.ensures refl c.requires.may)
    c.lower_private.ensures.lowered

pub operator::lower_update-unreachable-requires : goal.operator::lower_update-unreachable-requires
operator::lower_update-unreachable-requires g t c = true≢false (ap is_pattern c.in-Array.ensures ∙ c.requires.may.0)

pub operator::lower_update-unreachable-requires-in-Object : goal.operator::lower_update-unreachable-requires-in-Object
operator::lower_update-unreachable-requires-in-Object g t c = true≢false (ap is_pattern c.in-Object.ensures ∙ c.requires.may.0)

pub operator::lower_update-returns-in-As-clause-lowered : goal.operator::lower_update-returns-in-As-clause-lowered
operator::lower_update-returns-in-As-clause-lowered g t c =
    refused_ok {names = seen c.args.names.now} {at = c.args.at} c.refuse_as_undefined.result _ _ refl
    (forms.WrappedUpdate (ap is_wrapped (sym c.in-As.ensures)))
    c.refuse_as_undefined.ensures.state c.refuse_as_undefined.ensures.place

pub operator::lower_update-returns-in-Satisfies-clause-lowered : goal.operator::lower_update-returns-in-Satisfies-clause-lowered
operator::lower_update-returns-in-Satisfies-clause-lowered g t c =
    refused_ok {names = seen c.args.names.now} {at = c.args.at} c.refuse_as_undefined-in-Satisfies.result _ _ refl
    (forms.WrappedUpdate (ap is_wrapped (sym c.in-Satisfies.ensures)))
    c.refuse_as_undefined-in-Satisfies.ensures.state c.refuse_as_undefined-in-Satisfies.ensures.place

pub operator::lower_update-returns-in-Assert-clause-lowered : goal.operator::lower_update-returns-in-Assert-clause-lowered
operator::lower_update-returns-in-Assert-clause-lowered g t c =
    refused_ok {names = seen c.args.names.now} {at = c.args.at} c.refuse_as_undefined-in-Assert.result _ _ refl
    (forms.WrappedUpdate (ap is_wrapped (sym c.in-Assert.ensures)))
    c.refuse_as_undefined-in-Assert.ensures.state c.refuse_as_undefined-in-Assert.ensures.place

pub operator::lower_update-returns-in-NonNull-clause-lowered : goal.operator::lower_update-returns-in-NonNull-clause-lowered
operator::lower_update-returns-in-NonNull-clause-lowered g t c =
    refused_ok {names = seen c.args.names.now} {at = c.args.at} c.refuse_as_undefined-in-NonNull.result _ _ refl
    (forms.WrappedUpdate (ap is_wrapped (sym c.in-NonNull.ensures)))
    c.refuse_as_undefined-in-NonNull.ensures.state c.refuse_as_undefined-in-NonNull.ensures.place
