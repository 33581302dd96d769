use Rattle.std.proofs.Common.{ℕ, ◌+◌, refl, arith}
use Rattle.rl_builder.specs.Builder.{State, state_of}
use Rattle.rl_lowered.specs.Promised.{share}
use Rattle.rl_names.specs.Seen.{seen}
use Rattle.rl_syntax.specs.Syntax.{nodes, syntax}
use Rattle.rl_lower_parts.proofs.Derivations.{room_after}
use Rattle.rl_lower_statements.proofs.TryDerivations.{throw_ok, throwing_room}
use Rattle.rl_lower_statements.proofs.throw.lower_throw.Goals as goal

pub end_by_throw-requires : goal.end_by_throw-requires
end_by_throw-requires g c =
    let value : ℕ = nodes (syntax c.args.argument.tree.now) in
    let s : State = state_of g.U.ReadsUnit.tables c.args.builder.now in
    let t : State = state_of g.U.ReadsUnit.tables c.lower_expression.new.builder in
    throwing_room c.args.at.span t _ 1 c.in_ok-note_handler.ensures.state
    (room_after s t (share value) 1 (share (value + 0 + 1)) c.in_ok-value.ensures.lowered.size (omega arith) c.requires.room)

pub returns-clause-lowered : goal.returns-clause-lowered
returns-clause-lowered g c =
    throw_ok (seen c.args.names.now) c.args.at _ _ c.end_by_throw.result refl c.in_ok-value.ensures.lowered
    c.in_ok-note_handler.ensures.state
    c.end_by_throw.ensures.state
