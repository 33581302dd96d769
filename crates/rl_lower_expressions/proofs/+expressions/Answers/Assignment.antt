use Rattle.rl_builder.specs.Builder.{State, state_of}
use Rattle.rl_lower_expressions.proofs.AssignedPatterns.{applied_plain, assigned_by, assigned_may, assigned_may_take}
use Rattle.rl_lower_expressions.proofs.AssignedPatterns.{assigned_may_value, assigned_pattern_ok, compound_may, compound_pattern_ok}
use Rattle.rl_lower_expressions.proofs.AssignedPatterns.{name_plain, shown_both, shown_may, where_pattern, where_plain}
use Rattle.rl_lower_expressions.proofs.AssignmentDerivations.{assigned_member_ok, assigned_name_ok, assigned_private_ok}
use Rattle.rl_lower_expressions.proofs.AssignmentDerivations.{assignment_told, compound_member_ok, compound_name_ok}
use Rattle.rl_lower_expressions.proofs.AssignmentDerivations.{compound_private_ok, compound_private_told}
use Rattle.rl_lower_expressions.proofs.AssignmentDerivations.{compound_shown, compound_target_ok, compound_told}
use Rattle.rl_lower_expressions.proofs.AssignmentDerivations.{logical_operator, logical_refused}
use Rattle.rl_lower_expressions.proofs.CallDerivations.{named_behind}
use Rattle.rl_lower_expressions.proofs.Derivations.{index_told, member_told}
use Rattle.rl_lower_expressions.proofs.Derivations.{private_told}
use Rattle.rl_lower_parts.proofs.Derivations.{refused_ok}
use Rattle.rl_lower_parts.proofs.Derivations.{grown}
use Rattle.rl_lower_expressions.proofs.OperandDerivations.{index_may, private_may, static_may}
use Rattle.rl_lowered.specs.Promised.{HasRoom, share}
use Rattle.rl_names.specs.Seen.{seen}
use Rattle.rl_runs.specs.Blocks.{size_of}
use Rattle.rl_syntax.specs.Syntax.{Syntax, nodes, span_of, syntax}
use Rattle.std.proofs.Common.{rules, ℕ, ◌+◌, ◌≤◌, [], Some, refl, sym, ◌∙◌, arith}
use Rattle.rl_lower_expressions.proofs.+expressions.Goals as goal

pub assignment::lower_assigned-returns-in-Identifier-clause-lowered : goal.assignment::lower_assigned-returns-in-Identifier-clause-lowered
assignment::lower_assigned-returns-in-Identifier-clause-lowered g t c =
    assigned_name_ok (seen c.args.names.now) c.args.at (state_of g.U.ReadsUnit.tables c.assign_name.new.builder) c.assign_name.result
    (c.identifier_reference_view-identifier.ensures ∙ c.in-Identifier.ensures) c.in_ok-value.ensures.lowered c.assign_name.ensures.lowered

pub assignment::lower_assigned-returns-in_ok-member-in-Member-clause-lowered
    : goal.assignment::lower_assigned-returns-in_ok-member-in-Member-clause-lowered
assignment::lower_assigned-returns-in_ok-member-in-Member-clause-lowered g t c =
    assigned_member_ok c.args.at c.in_ok-member-in-Member.member c.store_member.result
    (state_of g.U.ReadsUnit.tables c.store_member.new.builder)
    (member_told (seen c.args.names.now) c.in-Member.optional c.in-Member.ensures
    (where_plain c.in-Member.ensures refl c.requires.may)) c.in_ok-value.ensures.lowered
    c.in_ok-member-in-Member.ensures.lowered c.store_member.ensures.state c.store_member.ensures.place

pub assignment::lower_assigned-returns-in_ok-member-in-Index-clause-lowered
    : goal.assignment::lower_assigned-returns-in_ok-member-in-Index-clause-lowered
assignment::lower_assigned-returns-in_ok-member-in-Index-clause-lowered g t c =
    assigned_member_ok c.args.at c.in_ok-member-in-Index.member c.store_member-in-Index.result
    (state_of g.U.ReadsUnit.tables c.store_member-in-Index.new.builder)
    (index_told (seen c.args.names.now) c.in-Index.optional c.in-Index.ensures
    (where_plain c.in-Index.ensures refl c.requires.may)) c.in_ok-value.ensures.lowered
    c.in_ok-member-in-Index.ensures.lowered c.store_member-in-Index.ensures.state c.store_member-in-Index.ensures.place

pub assignment::lower_assigned-returns-in_ok-lower_expression-in-PrivateMember-clause-lowered
    : goal.assignment::lower_assigned-returns-in_ok-lower_expression-in-PrivateMember-clause-lowered
assignment::lower_assigned-returns-in_ok-lower_expression-in-PrivateMember-clause-lowered g t c =
    assigned_private_ok c.args.at c.refuse_as_undefined.result (state_of g.U.ReadsUnit.tables c.refuse_as_undefined.new.builder)
    (private_told (seen c.args.names.now) c.in-PrivateMember.optional c.in-PrivateMember.ensures
    (where_plain c.in-PrivateMember.ensures refl c.requires.may))
    c.in_ok-value.ensures.lowered c.in_ok-lower_expression-in-PrivateMember.ensures.lowered
    c.refuse_as_undefined.ensures.state c.refuse_as_undefined.ensures.place

pub assignment::lower_assigned-returns-in-Array-clause-lowered : goal.assignment::lower_assigned-returns-in-Array-clause-lowered
assignment::lower_assigned-returns-in-Array-clause-lowered g t c =
    assigned_pattern_ok c.args.at c.lower_target.result (state_of g.U.ReadsUnit.tables c.lower_target.new.builder) c.in-Array.ensures refl
    c.span_of.ensures c.in_ok-value.ensures.lowered c.lower_target.ensures.lowered

pub assignment::lower_assigned-returns-in-Object-clause-lowered : goal.assignment::lower_assigned-returns-in-Object-clause-lowered
assignment::lower_assigned-returns-in-Object-clause-lowered g t c =
    assigned_pattern_ok c.args.at c.lower_target-in-Object.result (state_of g.U.ReadsUnit.tables c.lower_target-in-Object.new.builder)
    c.in-Object.ensures refl c.span_of-in-Object.ensures c.in_ok-value.ensures.lowered c.lower_target-in-Object.ensures.lowered

pub assignment::lower_assigned-assign_name-requires : goal.assignment::lower_assigned-assign_name-requires
assignment::lower_assigned-assign_name-requires g t c =
    record {
      names = search rules;
      free = shown_may (seen c.args.names.now) (c.identifier_reference_view-identifier.ensures ∙ c.in-Identifier.ensures) refl
          c.requires.may;
      room = search rules;
    }

pub assignment::lower_assigned-lower_static-requires : goal.assignment::lower_assigned-lower_static-requires
assignment::lower_assigned-lower_static-requires g t c =
    let free = static_may (seen c.args.names.now) c.in-Member.optional c.in-Member.ensures
    (where_plain c.in-Member.ensures refl c.requires.may) in
    λ lifetimes outlives. (search rules, (search rules, (search rules, (free, search rules))))

pub assignment::lower_assigned-lower_computed-requires : goal.assignment::lower_assigned-lower_computed-requires
assignment::lower_assigned-lower_computed-requires g t c =
    let free = index_may (seen c.args.names.now) c.in-Index.optional c.in-Index.ensures
    (where_plain c.in-Index.ensures refl c.requires.may) in
    λ lifetimes outlives. (search rules, (search rules, (search rules, (free, search rules))))

pub assignment::lower_assigned-lower_expression-requires-in-PrivateMember
    : goal.assignment::lower_assigned-lower_expression-requires-in-PrivateMember
assignment::lower_assigned-lower_expression-requires-in-PrivateMember g t c =
    let free = private_may (seen c.args.names.now) c.in-PrivateMember.optional c.in-PrivateMember.ensures
    (where_plain c.in-PrivateMember.ensures refl c.requires.may) in
    λ lifetimes outlives. (search rules, (search rules, (search rules, (free, search rules))))

pub assignment::lower_assigned-lower_target-requires : goal.assignment::lower_assigned-lower_target-requires
assignment::lower_assigned-lower_target-requires g t c =
    let free = where_pattern c.in-Array.ensures refl c.requires.may_take in
    λ lifetimes outlives. (search rules, (search rules, (search rules, (free, search rules))))

pub assignment::lower_assigned-lower_target-requires-in-Object : goal.assignment::lower_assigned-lower_target-requires-in-Object
assignment::lower_assigned-lower_target-requires-in-Object g t c =
    let free = where_pattern c.in-Object.ensures refl c.requires.may_take in
    λ lifetimes outlives. (search rules, (search rules, (search rules, (free, search rules))))

pub assignment::lower_compound-compound_name-requires : goal.assignment::lower_compound-compound_name-requires
assignment::lower_compound-compound_name-requires g t c =
    let free = shown_both (seen c.args.names.now) (syntax c.args.right.tree.now) c.in-Identifier.ensures
    (name_plain (syntax c.in-Identifier.name.tree.now) c.in-Identifier.name.fit) c.requires.may in
    λ lifetimes outlives. (search rules, (search rules, (search rules, (free, search rules))))

pub assignment::lower_compound-lower_static-requires : goal.assignment::lower_compound-lower_static-requires
assignment::lower_compound-lower_static-requires g t c =
    let free = static_may (seen c.args.names.now) c.in-Member.optional c.in-Member.ensures
    (where_plain c.in-Member.ensures refl c.requires.may).0 in
    λ lifetimes outlives. (search rules, (search rules, (search rules, (free, search rules))))

pub assignment::lower_compound-update_member_by-requires : goal.assignment::lower_compound-update_member_by-requires
assignment::lower_compound-update_member_by-requires g t c =
    let free = (where_plain c.in-Member.ensures refl c.requires.may).1 in
    λ lifetimes outlives. (search rules, (search rules, (search rules, (free, search rules))))

pub assignment::lower_compound-lower_computed-requires : goal.assignment::lower_compound-lower_computed-requires
assignment::lower_compound-lower_computed-requires g t c =
    let free = index_may (seen c.args.names.now) c.in-Index.optional c.in-Index.ensures
    (where_plain c.in-Index.ensures refl c.requires.may).0 in
    λ lifetimes outlives. (search rules, (search rules, (search rules, (free, search rules))))

pub assignment::lower_compound-update_member_by-requires-in-Index : goal.assignment::lower_compound-update_member_by-requires-in-Index
assignment::lower_compound-update_member_by-requires-in-Index g t c =
    let free = (where_plain c.in-Index.ensures refl c.requires.may).1 in
    λ lifetimes outlives. (search rules, (search rules, (search rules, (free, search rules))))

pub assignment::lower_compound-compound_private-requires : goal.assignment::lower_compound-compound_private-requires
assignment::lower_compound-compound_private-requires g t c =
    let both = where_plain c.in-PrivateMember.ensures refl c.requires.may in
    let object = private_may (seen c.args.names.now) c.in-PrivateMember.optional c.in-PrivateMember.ensures both.0 in
    λ lifetimes outlives. (search rules, (search rules, (search rules, ((object, both.1), search rules))))

pub assignment::lower_compound-returns-in-Array-clause-lowered : goal.assignment::lower_compound-returns-in-Array-clause-lowered
assignment::lower_compound-returns-in-Array-clause-lowered g t c =
    compound_pattern_ok (seen c.args.names.now) c.args.at c.args.applied (syntax c.args.right.tree.now)
    (state_of g.U.ReadsUnit.tables c.args.builder.now) c.refuse_as_undefined.result _ c.in-Array.ensures refl
    c.refuse_as_undefined.ensures.state c.refuse_as_undefined.ensures.place

pub assignment::lower_compound-returns-in-Object-clause-lowered : goal.assignment::lower_compound-returns-in-Object-clause-lowered
assignment::lower_compound-returns-in-Object-clause-lowered g t c =
    compound_pattern_ok (seen c.args.names.now) c.args.at c.args.applied (syntax c.args.right.tree.now)
    (state_of g.U.ReadsUnit.tables c.args.builder.now) c.refuse_as_undefined-in-Object.result _ c.in-Object.ensures refl
    c.refuse_as_undefined-in-Object.ensures.state c.refuse_as_undefined-in-Object.ensures.place

pub assignment::lower_compound-returns-in-Identifier-clause-lowered : goal.assignment::lower_compound-returns-in-Identifier-clause-lowered
assignment::lower_compound-returns-in-Identifier-clause-lowered g t c =
    compound_shown (seen c.args.names.now) c.args.at c.args.applied (syntax c.args.right.tree.now)
    (state_of g.U.ReadsUnit.tables c.args.builder.now)
    (state_of g.U.ReadsUnit.tables c.compound_name.new.builder) c.compound_name.result c.in-Identifier.ensures
    c.compound_name.ensures.lowered

pub assignment::compound_name-returns-clause-lowered : goal.assignment::compound_name-returns-clause-lowered
assignment::compound_name-returns-clause-lowered g t c =
    compound_name_ok (seen c.args.names.now) c.args.at c.args.applied (state_of g.U.ReadsUnit.tables c.update_name_by.new.builder)
    c.update_name_by.result c.identifier_reference_view-identifier.ensures c.in_ok-old.ensures.lowered c.in_ok-right.ensures.lowered
    c.update_name_by.ensures.lowered

pub assignment::lower_compound-returns-in_ok-member-in-Member-clause-lowered
    : goal.assignment::lower_compound-returns-in_ok-member-in-Member-clause-lowered
assignment::lower_compound-returns-in_ok-member-in-Member-clause-lowered g t c =
    compound_target_ok c.args.at (syntax c.args.right.tree.now) c.args.applied c.in_ok-member-in-Member.member
    (state_of g.U.ReadsUnit.tables c.update_member_by.new.builder) c.update_member_by.result
    (member_told (seen c.args.names.now) c.in-Member.optional c.in-Member.ensures
    (where_plain c.in-Member.ensures refl c.requires.may).0)
    c.in_ok-member-in-Member.ensures.lowered c.update_member_by.ensures.lowered

pub assignment::lower_compound-returns-in_ok-member-in-Index-clause-lowered
    : goal.assignment::lower_compound-returns-in_ok-member-in-Index-clause-lowered
assignment::lower_compound-returns-in_ok-member-in-Index-clause-lowered g t c =
    compound_target_ok c.args.at (syntax c.args.right.tree.now) c.args.applied c.in_ok-member-in-Index.member
    (state_of g.U.ReadsUnit.tables c.update_member_by-in-Index.new.builder) c.update_member_by-in-Index.result
    (index_told (seen c.args.names.now) c.in-Index.optional c.in-Index.ensures
    (where_plain c.in-Index.ensures refl c.requires.may).0)
    c.in_ok-member-in-Index.ensures.lowered c.update_member_by-in-Index.ensures.lowered

pub assignment::lower_compound-returns-in-PrivateMember-clause-lowered
    : goal.assignment::lower_compound-returns-in-PrivateMember-clause-lowered
assignment::lower_compound-returns-in-PrivateMember-clause-lowered g t c =
    compound_private_told (seen c.args.names.now) c.args.at c.in-PrivateMember.there c.in-PrivateMember.property.now c.args.applied
    (syntax c.args.right.tree.now) (state_of g.U.ReadsUnit.tables c.args.builder.now)
    (state_of g.U.ReadsUnit.tables c.compound_private.new.builder)
    c.compound_private.result
    (private_told (seen c.args.names.now) c.in-PrivateMember.optional c.in-PrivateMember.ensures
    (where_plain c.in-PrivateMember.ensures refl c.requires.may).0)
    c.compound_private.ensures.lowered

pub assignment::compound_private-returns-clause-lowered : goal.assignment::compound_private-returns-clause-lowered
assignment::compound_private-returns-clause-lowered g t c =
    compound_private_ok c.args.at c.args.there c.lower_undefined.result (state_of g.U.ReadsUnit.tables c.lower_undefined.new.builder)
    c.in_ok-lower_private.ensures.lowered c.in_ok-lower_expression.ensures.lowered c.lower_undefined.ensures.state
    c.lower_undefined.ensures.place

pub assignment::compound_private-lower_expression-requires : goal.assignment::compound_private-lower_expression-requires
assignment::compound_private-lower_expression-requires g t c =
    let object : ℕ = nodes (syntax c.args.object.tree.now) in
    let right : ℕ = nodes (syntax c.args.right.tree.now) in
    let s : State = state_of g.U.ReadsUnit.tables c.args.builder.now in
    let s1 : State = state_of g.U.ReadsUnit.tables c.lower_private.new.builder in
    let private = c.in_ok-lower_private.ensures.lowered [] in
    let first : size_of s1 ≤ size_of s + share (0 + (object + (0 + 0)) + 1) = private.size in
    let all : HasRoom s (share (object + right + 2)) = c.requires.room in
    let roomy : HasRoom s1 (share right) = omega (arith, first, all) in
    λ lifetimes outlives. (search rules, (search rules, (private.named c.requires.names, (c.requires.may.1, roomy))))

pub assignment::compound_private-lower_undefined-requires : goal.assignment::compound_private-lower_undefined-requires
assignment::compound_private-lower_undefined-requires g t c =
    let object : ℕ = nodes (syntax c.args.object.tree.now) in
    let right : ℕ = nodes (syntax c.args.right.tree.now) in
    let s : State = state_of g.U.ReadsUnit.tables c.args.builder.now in
    let s1 : State = state_of g.U.ReadsUnit.tables c.lower_private.new.builder in
    let s2 : State = state_of g.U.ReadsUnit.tables c.lower_expression.new.builder in
    let first : size_of s1 ≤ size_of s + share (0 + (object + (0 + 0)) + 1) = (c.in_ok-lower_private.ensures.lowered []).size in
    let second : size_of s2 ≤ size_of s1 + share right = c.in_ok-lower_expression.ensures.lowered.size in
    let all : HasRoom s (share (object + right + 2)) = c.requires.room in
    record { room = omega (arith, first, second, all) }

pub assignment::lower_assignment-returns-in-Assign-clause-lowered : goal.assignment::lower_assignment-returns-in-Assign-clause-lowered
assignment::lower_assignment-returns-in-Assign-clause-lowered g t c =
    assignment_told (seen c.args.names.now) c.args.at c.args.operator (syntax c.args.target.tree.now) (syntax c.args.right.tree.now)
    (state_of g.U.ReadsUnit.tables c.args.builder.now) (state_of g.U.ReadsUnit.tables c.lower_assigned.new.builder)
    c.lower_assigned.result c.in-Assign.is c.lower_assigned.ensures.lowered

pub assignment::lower_assignment-returns-in-Some-clause-lowered : goal.assignment::lower_assignment-returns-in-Some-clause-lowered
assignment::lower_assignment-returns-in-Some-clause-lowered g t c =
    compound_told (seen c.args.names.now) c.args.at c.args.operator c.in-Some.applied (syntax c.args.target.tree.now)
    (syntax c.args.right.tree.now) (state_of g.U.ReadsUnit.tables c.args.builder.now)
    (state_of g.U.ReadsUnit.tables c.lower_compound.new.builder) c.lower_compound.result (sym c.in-Some.ensures)
    c.lower_compound.ensures.lowered

pub assignment::lower_assignment-returns-in-None-clause-lowered : goal.assignment::lower_assignment-returns-in-None-clause-lowered
assignment::lower_assignment-returns-in-None-clause-lowered g t c =
    refused_ok {names = seen c.args.names.now} {at = c.args.at} c.refuse_as_undefined.result _ _ refl
    (logical_refused c.args.operator (logical_operator c.args.operator c.in_default.not-Assign c.in-None.ensures))
    c.refuse_as_undefined.ensures.state c.refuse_as_undefined.ensures.place

pub assignment::lower_assignment-lower_assigned-requires : goal.assignment::lower_assignment-lower_assigned-requires
assignment::lower_assignment-lower_assigned-requires g t c =
    let names = seen c.args.names.now in
    let target : Syntax = syntax c.args.target.tree.now in
    let right : Syntax = syntax c.args.right.tree.now in
    let may = assigned_by names c.args.at target right c.args.operator c.in-Assign.is c.requires.may in
    λ lifetimes outlives. (
      search rules,
      (
        search rules,
        (
          search rules,
          (
            c.requires.may.0,
            (
              assigned_may names c.args.at target right may,
              (assigned_may_take names c.args.at target right may, (assigned_may_value names c.args.at target right may, search rules)),
            ),
          ),
        ),
      ),
    )

pub assignment::lower_assignment-lower_compound-requires : goal.assignment::lower_assignment-lower_compound-requires
assignment::lower_assignment-lower_compound-requires g t c =
    let free = compound_may (seen c.args.names.now) c.args.at (syntax c.args.target.tree.now) (syntax c.args.right.tree.now)
    c.args.operator (applied_plain c.args.operator c.in-Some.applied (sym c.in-Some.ensures)) c.requires.may in
    λ lifetimes outlives. (search rules, (search rules, (search rules, (c.requires.may.0, (free, search rules)))))

pub assignment::update_member_by-lower_expression-requires : goal.assignment::update_member_by-lower_expression-requires
assignment::update_member_by-lower_expression-requires g t c =
    let right : ℕ = nodes (syntax c.args.right.tree.now) in
    let s0 : State = state_of g.U.ReadsUnit.tables c.args.builder.now in
    let s1 : State = state_of g.U.ReadsUnit.tables c.lower_value_to_temporary.new.builder in
    let named = named_behind s0 _ _ _ c.in_ok-old.ensures.state c.requires.names in
    let first : size_of s1 ≤ size_of s0 + 4 = grown s0 s1 _ _ c.in_ok-old.ensures.state in
    let all : HasRoom s0 (share (right + 1)) = c.requires.room in
    let roomy : HasRoom s1 (share right) = omega (arith, first, all) in
    λ lifetimes outlives. (search rules, (search rules, (named, (c.requires.may, roomy))))

pub assignment::update_member_by-lower_value_to_temporary-requires-2 : goal.assignment::update_member_by-lower_value_to_temporary-requires-2
assignment::update_member_by-lower_value_to_temporary-requires-2 g t c =
    let right : ℕ = nodes (syntax c.args.right.tree.now) in
    let s0 : State = state_of g.U.ReadsUnit.tables c.args.builder.now in
    let s1 : State = state_of g.U.ReadsUnit.tables c.lower_value_to_temporary.new.builder in
    let s2 : State = state_of g.U.ReadsUnit.tables c.lower_expression.new.builder in
    let first : size_of s1 ≤ size_of s0 + 4 = grown s0 s1 _ _ c.in_ok-old.ensures.state in
    let second : size_of s2 ≤ size_of s1 + share right = c.in_ok-right.ensures.lowered.size in
    let all : HasRoom s0 (share (right + 1)) = c.requires.room in
    record { room = omega (arith, first, second, all) }

pub assignment::update_member_by-store_member-requires : goal.assignment::update_member_by-store_member-requires
assignment::update_member_by-store_member-requires g t c =
    let right : ℕ = nodes (syntax c.args.right.tree.now) in
    let s0 : State = state_of g.U.ReadsUnit.tables c.args.builder.now in
    let s1 : State = state_of g.U.ReadsUnit.tables c.lower_value_to_temporary.new.builder in
    let s2 : State = state_of g.U.ReadsUnit.tables c.lower_expression.new.builder in
    let s3 : State = state_of g.U.ReadsUnit.tables c.lower_value_to_temporary-2.new.builder in
    let first : size_of s1 ≤ size_of s0 + 4 = grown s0 s1 _ _ c.in_ok-old.ensures.state in
    let second : size_of s2 ≤ size_of s1 + share right = c.in_ok-right.ensures.lowered.size in
    let third : size_of s3 ≤ size_of s2 + 4 = grown s2 s3 _ _ c.in_ok-updated.ensures.state in
    let all : HasRoom s0 (share (right + 1)) = c.requires.room in
    record { room = omega (arith, first, second, third, all) }

pub assignment::update_member_by-returns-clause-lowered : goal.assignment::update_member_by-returns-clause-lowered
assignment::update_member_by-returns-clause-lowered g t c =
    compound_member_ok (state_of g.U.ReadsUnit.tables c.args.builder.now) c.args.there c.args.applied c.args.member c.store_member.result
    (state_of g.U.ReadsUnit.tables c.store_member.new.builder) c.in_ok-load.ensures c.in_ok-old.ensures.state
    c.in_ok-old.ensures.place c.in_ok-right.ensures.lowered c.in_ok-updated.ensures.state c.in_ok-updated.ensures.place
    c.store_member.ensures.state c.store_member.ensures.place
