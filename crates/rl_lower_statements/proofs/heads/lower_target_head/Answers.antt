use Rattle.std.proofs.Common.{arith, refl}
use Rattle.rl_builder.specs.Builder.{state_of}
use Rattle.rl_names.specs.Seen.{seen}
use Rattle.rl_lower_expressions.proofs.Derivations.{index_told, member_told}
use Rattle.rl_lower_statements.proofs.HeadDerivations.{lost_ok, pattern_head_ok, pattern_may, shown_may, stored_member_ok}
use Rattle.rl_lowered.specs.Promised.{HasRoom, share}
use Rattle.rl_syntax.specs.Syntax.{nodes, syntax}
use Rattle.rl_lower_statements.proofs.heads.lower_target_head.Goals as goal

pub returns-in_ok-member-in-Member-clause-lowered : goal.returns-in_ok-member-in-Member-clause-lowered
returns-in_ok-member-in-Member-clause-lowered g c =
    stored_member_ok c.args.value c.in_ok-member-in-Member.member c.store_member.result
    (state_of g.U.ReadsUnit.tables c.store_member.new.builder)
    (member_told (seen c.args.names.now) c.in-Member.optional c.in-Member.ensures
    (shown_may (seen c.args.names.now) c.in-Member.ensures refl refl c.requires.may))
    c.in_ok-member-in-Member.ensures.lowered c.store_member.ensures.state c.store_member.ensures.place

pub returns-in_ok-member-in-Index-clause-lowered : goal.returns-in_ok-member-in-Index-clause-lowered
returns-in_ok-member-in-Index-clause-lowered g c =
    stored_member_ok c.args.value c.in_ok-member-in-Index.member c.store_member-in-Index.result
    (state_of g.U.ReadsUnit.tables c.store_member-in-Index.new.builder)
    (index_told (seen c.args.names.now) c.in-Index.optional c.in-Index.ensures
    (shown_may (seen c.args.names.now) c.in-Index.ensures refl refl c.requires.may))
    c.in_ok-member-in-Index.ensures.lowered c.store_member-in-Index.ensures.state c.store_member-in-Index.ensures.place

pub returns-in-PrivateMember-clause-lowered : goal.returns-in-PrivateMember-clause-lowered
returns-in-PrivateMember-clause-lowered g c =
    lost_ok (seen c.args.names.now) c.args.value _ c.lose_head.result _ _ c.in-PrivateMember.ensures refl refl
    c.lose_head.ensures.state c.lose_head.ensures.place

pub returns-in-As-clause-lowered : goal.returns-in-As-clause-lowered
returns-in-As-clause-lowered g c =
    lost_ok (seen c.args.names.now) c.args.value _ c.lose_head-in-As.result _ _ c.in-As.ensures refl refl
    c.lose_head-in-As.ensures.state c.lose_head-in-As.ensures.place

pub returns-in-Satisfies-clause-lowered : goal.returns-in-Satisfies-clause-lowered
returns-in-Satisfies-clause-lowered g c =
    lost_ok (seen c.args.names.now) c.args.value _ c.lose_head-in-Satisfies.result _ _ c.in-Satisfies.ensures refl refl
    c.lose_head-in-Satisfies.ensures.state c.lose_head-in-Satisfies.ensures.place

pub returns-in-Assert-clause-lowered : goal.returns-in-Assert-clause-lowered
returns-in-Assert-clause-lowered g c =
    lost_ok (seen c.args.names.now) c.args.value _ c.lose_head-in-Assert.result _ _ c.in-Assert.ensures refl refl
    c.lose_head-in-Assert.ensures.state c.lose_head-in-Assert.ensures.place

pub returns-in-NonNull-clause-lowered : goal.returns-in-NonNull-clause-lowered
returns-in-NonNull-clause-lowered g c =
    lost_ok (seen c.args.names.now) c.args.value _ c.lose_head-in-NonNull.result _ _ c.in-NonNull.ensures refl refl
    c.lose_head-in-NonNull.ensures.state c.lose_head-in-NonNull.ensures.place

pub lower_target-requires-clause-may : goal.lower_target-requires-clause-may
lower_target-requires-clause-may g c = pattern_may (seen c.args.names.now) c.in-Array.ensures refl c.requires.may_take

pub lower_target-requires-clause-room : goal.lower_target-requires-clause-room
lower_target-requires-clause-room g c =
    let room : HasRoom (state_of g.U.ReadsUnit.tables c.args.builder.now) (share (nodes (syntax c.args.target.tree.now))) =
    c.requires.room in
    omega (arith, room)

pub returns-in-Array-clause-lowered : goal.returns-in-Array-clause-lowered
returns-in-Array-clause-lowered g c =
    pattern_head_ok (seen c.args.names.now) c.args.value c.lower_target.result _ _ c.in-Array.ensures refl c.lower_target.ensures.lowered

pub lower_target-requires-in-Object-clause-may : goal.lower_target-requires-in-Object-clause-may
lower_target-requires-in-Object-clause-may g c = pattern_may (seen c.args.names.now) c.in-Object.ensures refl c.requires.may_take

pub lower_target-requires-in-Object-clause-room : goal.lower_target-requires-in-Object-clause-room
lower_target-requires-in-Object-clause-room g c =
    let room : HasRoom (state_of g.U.ReadsUnit.tables c.args.builder.now) (share (nodes (syntax c.args.target.tree.now))) =
    c.requires.room in
    omega (arith, room)

pub returns-in-Object-clause-lowered : goal.returns-in-Object-clause-lowered
returns-in-Object-clause-lowered g c =
    pattern_head_ok (seen c.args.names.now) c.args.value c.lower_target-in-Object.result _ _ c.in-Object.ensures refl
    c.lower_target-in-Object.ensures.lowered
