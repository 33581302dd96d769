use Rattle.std.proofs.Common.{◌+◌, ◌≤◌, sym, ◌∙◌, arith}
use Rattle.rl_builder.specs.Builder.{State, state_of}
use Rattle.rl_names.specs.Seen.{seen}
use Rattle.rl_runs.specs.Blocks.{size_of}
use Rattle.rl_lower_expressions.proofs.AssignmentDerivations.{compound_constant_ok, compound_variable_ok}
use Rattle.rl_lower_expressions.proofs.CallDerivations.{named_behind}
use Rattle.rl_lower_parts.proofs.Derivations.{grown}
use Rattle.rl_lower_expressions.proofs.assignment.update_local_by.Goals as goal

pub resolve_variable-requires-2-clause-names : goal.resolve_variable-requires-2-clause-names
resolve_variable-requires-2-clause-names g c =
    named_behind (state_of g.U.ReadsUnit.tables c.args.builder.now) _ _ _ c.in_ok-updated.ensures.state c.requires.names

pub resolve_variable-requires-2-clause-room : goal.resolve_variable-requires-2-clause-room
resolve_variable-requires-2-clause-room g c =
    let s0 : State = state_of g.U.ReadsUnit.tables c.args.builder.now in
    let s1 : State = state_of g.U.ReadsUnit.tables c.lower_value_to_temporary.new.builder in
    let first : size_of s1 ≤ size_of s0 + 4 = grown s0 s1 _ _ c.in_ok-updated.ensures.state in
    omega (arith, first, c.requires.room)

pub lower_value_to_temporary-requires-2 : goal.lower_value_to_temporary-requires-2
lower_value_to_temporary-requires-2 g c =
    let s0 : State = state_of g.U.ReadsUnit.tables c.args.builder.now in
    let s1 : State = state_of g.U.ReadsUnit.tables c.lower_value_to_temporary.new.builder in
    let s2 : State = state_of g.U.ReadsUnit.tables c.resolve_variable-2.new.builder in
    let first : size_of s1 ≤ size_of s0 + 4 = grown s0 s1 _ _ c.in_ok-updated.ensures.state in
    let second : size_of s2 ≤ size_of s1 + 2 = c.in_ok-identifier.ensures.size in
    record { room = omega (arith, first, second, c.requires.room) }

pub lower_value_to_temporary-requires-3 : goal.lower_value_to_temporary-requires-3
lower_value_to_temporary-requires-3 g c =
    let s0 : State = state_of g.U.ReadsUnit.tables c.args.builder.now in
    let s1 : State = state_of g.U.ReadsUnit.tables c.lower_value_to_temporary.new.builder in
    let s2 : State = state_of g.U.ReadsUnit.tables c.resolve_variable-2.new.builder in
    let s3 : State = state_of g.U.ReadsUnit.tables c.lower_value_to_temporary-2.new.builder in
    let first : size_of s1 ≤ size_of s0 + 4 = grown s0 s1 _ _ c.in_ok-updated.ensures.state in
    let second : size_of s2 ≤ size_of s1 + 2 = c.in_ok-identifier.ensures.size in
    let third : size_of s3 ≤ size_of s2 + 4 = grown s2 s3 _ _ c.in_ok-lower_value_to_temporary.ensures.state in
    record { room = omega (arith, first, second, third, c.requires.room) }

pub returns-then-is_const-clause-lowered : goal.returns-then-is_const-clause-lowered
returns-then-is_const-clause-lowered g c =
    compound_constant_ok c.lower_undefined.result (seen c.args.names.now) c.args.at c.args.there c.args.symbol _ c.args.applied c.args.old
    c.args.right _ c.in_ok-resolve_variable.ensures.state c.in_ok-resolve_variable.ensures.found
    (sym c.is_const.ensures ∙ c.if-is_const.true) c.in_ok-refuse_constant.ensures.state
    c.lower_undefined.ensures.state c.lower_undefined.ensures.place

pub returns-clause-lowered : goal.returns-clause-lowered
returns-clause-lowered g c =
    compound_variable_ok (state_of g.U.ReadsUnit.tables c.args.builder.now) c.lower_value_to_temporary-3.result (seen c.args.names.now)
    c.args.at c.args.there c.args.symbol _ c.args.applied c.args.old c.args.right _ (sym c.is_const.ensures ∙ c.if-is_const.false)
    c.in_ok-updated.ensures.state c.in_ok-updated.ensures.place
    c.in_ok-identifier.ensures.state c.in_ok-identifier.ensures.found c.assigned_to-store.ensures
    c.in_ok-lower_value_to_temporary.ensures.state
    c.lower_value_to_temporary-3.ensures.state c.lower_value_to_temporary-3.ensures.place
