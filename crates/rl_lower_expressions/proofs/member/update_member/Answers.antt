use Rattle.std.proofs.Common.{◌≡◌, ℕ, ◌+◌, ◌≤◌, arith}
use Rattle.rl_builder.specs.Builder.{State, state_of}
use Rattle.rl_runs.specs.Blocks.{size_of}
use Rattle.rl_lower_parts.proofs.Derivations.{grown}
use Rattle.rl_lower_expressions.proofs.member.update_member.Goals as goal

pub lower_value_to_temporary-requires-4 : goal.lower_value_to_temporary-requires-4
lower_value_to_temporary-requires-4 g c =
    let s0 : State = state_of g.U.ReadsUnit.tables c.args.builder.now in
    let s1 : State = state_of g.U.ReadsUnit.tables c.lower_value_to_temporary.new.builder in
    let s2 : State = state_of g.U.ReadsUnit.tables c.lower_value_to_temporary-2.new.builder in
    let s3 : State = state_of g.U.ReadsUnit.tables c.lower_value_to_temporary-3.new.builder in
    let first : size_of s1 ≤ size_of s0 + 4 = grown s0 s1 _ _ c.in_ok-old.ensures.state in
    let second : size_of s2 ≤ size_of s1 + 4 = grown s1 s2 _ _ c.in_ok-one.ensures.state in
    let third : size_of s3 ≤ size_of s2 + 4 = grown s2 s3 _ _ c.in_ok-updated.ensures.state in
    record { room = omega (arith, first, second, third, c.requires.room) }
