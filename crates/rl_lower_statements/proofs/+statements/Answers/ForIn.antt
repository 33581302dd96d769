use Rattle.std.proofs.Common.{rules, ℕ, ◌+◌, ap}
use Rattle.std.proofs.Common.{arith}
use Rattle.rl_builder.specs.Builder.{State, state_of}
use Rattle.rl_builder.specs.declared.jumps.JumpScope.TheVariants as scopes
use Rattle.rl_frames.specs.Rounds.{forin_of}
use Rattle.rl_lowered.specs.Named.{IsNamed}
use Rattle.rl_lowered.specs.Promised.{HasRoom, share}
use Rattle.rl_names.specs.Seen.{seen}
use Rattle.rl_runs.specs.Moves.{block_id}
use Rattle.rl_syntax.specs.Syntax.{nodes, syntax}
use Rattle.rl_lower_statements.proofs.LoopDerivations.{inside_loop}
use Rattle.rl_lower_statements.proofs.LoopDerivations.{scope_kept}
use Rattle.rl_lower_statements.proofs.RoundDerivations.{bodied_room, for_in_arounds, for_in_begun_named, for_in_head_room}
use Rattle.rl_lower_statements.proofs.RoundDerivations.{for_in_righted_named, for_in_room, for_in_told}
use Rattle.rl_lower_statements.proofs.RoundDerivations.{forin_head, forin_outer}
use Rattle.rl_lower_statements.proofs.RoundDerivations.{right_room, rounds_bodied_named}
use Rattle.rl_lower_statements.proofs.+statements.Goals as goal

pub loops::lower_for_in-lower_statement-requires : goal.loops::lower_for_in-lower_statement-requires
loops::lower_for_in-lower_statement-requires g t c =
    let head : ℕ = nodes (syntax c.args.left.tree.now) in
    let right : ℕ = nodes (syntax c.args.right.tree.now) in
    let body : ℕ = nodes (syntax c.args.body.tree.now) in
    let s : State = state_of g.U.ReadsUnit.tables c.args.builder.now in
    let b : State = state_of g.U.ReadsUnit.tables c.begin.new.b in
    let named : IsNamed (seen c.args.names.now) b =
    for_in_begun_named c.in_ok-label.label s b c.in_ok-frame.ensures.state c.requires.names in
    let room : HasRoom b (share body + (share right + (share head + 60))) =
    for_in_room head right body c.in_ok-label.label s b c.in_ok-frame.ensures.state c.requires.room in
    λ lifetimes outlives. (
      search rules,
      (
        search rules,
        (
          named,
          (
            inside_loop (seen c.args.names.now) (syntax c.args.body.tree.now) s b
                (for_in_arounds s b c.in_ok-label.ensures c.in_ok-frame.ensures.state) c.requires.may.0,
            omega (arith, room),
          ),
        ),
      ),
    )

pub loops::lower_for_in-body-requires-clause-open : goal.loops::lower_for_in-body-requires-clause-open
loops::lower_for_in-body-requires-clause-open g t c =
    let s : State = state_of g.U.ReadsUnit.tables c.args.builder.now in
    forin_outer s c.in_ok-frame.ensures.frame

pub loops::lower_for_in-body-requires-clause-scope : goal.loops::lower_for_in-body-requires-clause-scope
loops::lower_for_in-body-requires-clause-scope g t c =
    let s : State = state_of g.U.ReadsUnit.tables c.args.builder.now in
    let b : State = state_of g.U.ReadsUnit.tables c.begin.new.b in
    let s2 : State = state_of g.U.ReadsUnit.tables c.lower_statement.new.builder in
    scope_kept s b s2 (scopes.Loop c.in_ok-label.label (block_id (s.env.next_block + 1)) (block_id s.env.next_block))
    (ap (λ (o : State). o.scopes) c.in_ok-frame.ensures.state) c.in_ok-lower_statement.ensures.lowered

pub loops::lower_for_in-lower_expression-requires-clause-names : goal.loops::lower_for_in-lower_expression-requires-clause-names
loops::lower_for_in-lower_expression-requires-clause-names g t c =
    let s : State = state_of g.U.ReadsUnit.tables c.args.builder.now in
    let b : State = state_of g.U.ReadsUnit.tables c.begin.new.b in
    let s2 : State = state_of g.U.ReadsUnit.tables c.lower_statement.new.builder in
    let b2 : State = state_of g.U.ReadsUnit.tables c.body.new.b in
    let named : IsNamed (seen c.args.names.now) b =
    for_in_begun_named c.in_ok-label.label s b c.in_ok-frame.ensures.state c.requires.names in
    let named2 : IsNamed (seen c.args.names.now) b2 =
    rounds_bodied_named (forin_of c.in_ok-frame.frame) c.span_of.result s2 b2 c.in_ok-body.ensures.state
    (c.in_ok-lower_statement.ensures.lowered.named named) in
    named2

pub loops::lower_for_in-lower_expression-requires-clause-room : goal.loops::lower_for_in-lower_expression-requires-clause-room
loops::lower_for_in-lower_expression-requires-clause-room g t c =
    let head : ℕ = nodes (syntax c.args.left.tree.now) in
    let right : ℕ = nodes (syntax c.args.right.tree.now) in
    let body : ℕ = nodes (syntax c.args.body.tree.now) in
    let s : State = state_of g.U.ReadsUnit.tables c.args.builder.now in
    let b : State = state_of g.U.ReadsUnit.tables c.begin.new.b in
    let s2 : State = state_of g.U.ReadsUnit.tables c.lower_statement.new.builder in
    let b2 : State = state_of g.U.ReadsUnit.tables c.body.new.b in
    let room : HasRoom b (share body + (share right + (share head + 60))) =
    for_in_room head right body c.in_ok-label.label s b c.in_ok-frame.ensures.state c.requires.room in
    let room2 : HasRoom b2 (share right + (share head + 60)) =
    bodied_room head right body (forin_of c.in_ok-frame.frame) c.span_of.result b s2 b2 c.in_ok-lower_statement.ensures.lowered.size
    c.in_ok-body.ensures.state room in
    omega (arith, room2)

pub loops::lower_for_in-right-requires-clause-open : goal.loops::lower_for_in-right-requires-clause-open
loops::lower_for_in-right-requires-clause-open g t c =
    let s : State = state_of g.U.ReadsUnit.tables c.args.builder.now in
    forin_head s c.in_ok-frame.ensures.frame c.in_ok-body.ensures.frame

pub loops::lower_for_in-right-requires-clause-room : goal.loops::lower_for_in-right-requires-clause-room
loops::lower_for_in-right-requires-clause-room g t c =
    let head : ℕ = nodes (syntax c.args.left.tree.now) in
    let right : ℕ = nodes (syntax c.args.right.tree.now) in
    let body : ℕ = nodes (syntax c.args.body.tree.now) in
    let s : State = state_of g.U.ReadsUnit.tables c.args.builder.now in
    let b : State = state_of g.U.ReadsUnit.tables c.begin.new.b in
    let s2 : State = state_of g.U.ReadsUnit.tables c.lower_statement.new.builder in
    let b2 : State = state_of g.U.ReadsUnit.tables c.body.new.b in
    let s3 : State = state_of g.U.ReadsUnit.tables c.lower_expression.new.builder in
    let room : HasRoom b (share body + (share right + (share head + 60))) =
    for_in_room head right body c.in_ok-label.label s b c.in_ok-frame.ensures.state c.requires.room in
    let room2 : HasRoom b2 (share right + (share head + 60)) =
    bodied_room head right body (forin_of c.in_ok-frame.frame) c.span_of.result b s2 b2 c.in_ok-lower_statement.ensures.lowered.size
    c.in_ok-body.ensures.state room in
    let room3 : HasRoom s3 (share head + 60) =
    right_room head right body b2 s3 c.in_ok-collection.ensures.lowered.size room2 in
    omega (arith, room3)

pub loops::lower_for_in-lower_loop_head-requires-clause-names : goal.loops::lower_for_in-lower_loop_head-requires-clause-names
loops::lower_for_in-lower_loop_head-requires-clause-names g t c =
    let s : State = state_of g.U.ReadsUnit.tables c.args.builder.now in
    let b : State = state_of g.U.ReadsUnit.tables c.begin.new.b in
    let s2 : State = state_of g.U.ReadsUnit.tables c.lower_statement.new.builder in
    let b2 : State = state_of g.U.ReadsUnit.tables c.body.new.b in
    let s3 : State = state_of g.U.ReadsUnit.tables c.lower_expression.new.builder in
    let b3 : State = state_of g.U.ReadsUnit.tables c.right.new.b in
    let named : IsNamed (seen c.args.names.now) b =
    for_in_begun_named c.in_ok-label.label s b c.in_ok-frame.ensures.state c.requires.names in
    let named2 : IsNamed (seen c.args.names.now) b2 =
    rounds_bodied_named (forin_of c.in_ok-frame.frame) c.span_of.result s2 b2 c.in_ok-body.ensures.state
    (c.in_ok-lower_statement.ensures.lowered.named named) in
    for_in_righted_named (forin_of c.body.new.self) c.span_of-2.result c.in_ok-collection.collection s3 b3 c.in_ok-key.ensures.state
    (c.in_ok-collection.ensures.lowered.named named2)

pub loops::lower_for_in-lower_loop_head-requires-clause-room : goal.loops::lower_for_in-lower_loop_head-requires-clause-room
loops::lower_for_in-lower_loop_head-requires-clause-room g t c =
    let head : ℕ = nodes (syntax c.args.left.tree.now) in
    let right : ℕ = nodes (syntax c.args.right.tree.now) in
    let body : ℕ = nodes (syntax c.args.body.tree.now) in
    let s : State = state_of g.U.ReadsUnit.tables c.args.builder.now in
    let b : State = state_of g.U.ReadsUnit.tables c.begin.new.b in
    let s2 : State = state_of g.U.ReadsUnit.tables c.lower_statement.new.builder in
    let b2 : State = state_of g.U.ReadsUnit.tables c.body.new.b in
    let s3 : State = state_of g.U.ReadsUnit.tables c.lower_expression.new.builder in
    let b3 : State = state_of g.U.ReadsUnit.tables c.right.new.b in
    let room : HasRoom b (share body + (share right + (share head + 60))) =
    for_in_room head right body c.in_ok-label.label s b c.in_ok-frame.ensures.state c.requires.room in
    let room2 : HasRoom b2 (share right + (share head + 60)) =
    bodied_room head right body (forin_of c.in_ok-frame.frame) c.span_of.result b s2 b2 c.in_ok-lower_statement.ensures.lowered.size
    c.in_ok-body.ensures.state room in
    let room3 : HasRoom s3 (share head + 60) =
    right_room head right body b2 s3 c.in_ok-collection.ensures.lowered.size room2 in
    for_in_head_room head right body (forin_of c.body.new.self) c.span_of-2.result c.in_ok-collection.collection s3 b3
    c.in_ok-key.ensures.state room3

pub loops::lower_for_in-returns-clause-lowered : goal.loops::lower_for_in-returns-clause-lowered
loops::lower_for_in-returns-clause-lowered g t c =
    for_in_told (forin_of c.right.new.self) _ c.in_ok-label.ensures c.span_of.ensures c.span_of-2.ensures c.in_ok-frame.ensures.frame
    c.in_ok-frame.ensures.state c.in_ok-lower_statement.ensures.lowered c.in_ok-body.ensures.state c.in_ok-body.ensures.frame
    c.in_ok-collection.ensures.lowered c.in_ok-key.ensures.state c.in_ok-key.ensures.frame c.in_ok-key.ensures.place
    c.in_ok-test.ensures.lowered c.in_ok-finish.ensures.state
