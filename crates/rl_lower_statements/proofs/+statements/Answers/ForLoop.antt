use Rattle.std.proofs.Common.{rules, ℕ, ◌+◌, List, ◌∷◌, option_map, refl, ap, ◌∙◌}
use Rattle.std.proofs.Common.{arith}
use Rattle.rl_builder.specs.Builder.{State, state_of}
use Rattle.rl_frames.specs.Frames.{ForParts, for_bodied, for_inited, for_of, for_updated}
use Rattle.rl_frames.specs.Parts.{for_begun, for_scope}
use Rattle.rl_grammar.specs.Fields.{maybe}
use Rattle.rl_lowered.proofs.Arounds.{expression_arounds}
use Rattle.rl_lowered.proofs.Names.{names_same}
use Rattle.rl_lowered.specs.Promised.{HasRoom, share}
use Rattle.rl_model.specs.Actions.{Label}
use Rattle.rl_names.specs.Seen.{seen}
use Rattle.rl_promises.specs.Jumps.{Around, InLoop}
use Rattle.rl_runs.specs.Moves.{block_id}
use Rattle.rl_syntax.specs.Syntax.{nodes, syntax}
use Rattle.rl_lower_parts.proofs.Derivations.{room_after}
use Rattle.rl_lower_statements.proofs.LoopDerivations.{for_begun_arounds}
use Rattle.rl_lower_statements.proofs.LoopDerivations.{for_begun_size, for_bodied_size, for_inited_arounds, for_inited_names}
use Rattle.rl_lower_statements.proofs.LoopDerivations.{for_inited_size, for_plain_arounds, for_plain_told, for_updated_arounds}
use Rattle.rl_lower_statements.proofs.LoopDerivations.{for_updated_size, for_updated_told, init_arounds}
use Rattle.rl_lower_statements.proofs.LoopDerivations.{inside_loop}
use Rattle.rl_lower_statements.proofs.LoopDerivations.{moved_named, moved_room, opened_plain}
use Rattle.rl_lower_statements.proofs.LoopDerivations.{opened_updated, scope_kept}
use Rattle.rl_lower_statements.proofs.+statements.Goals as goal

pub loops::lower_for_updated-lower_init-requires-clause-names : goal.loops::lower_for_updated-lower_init-requires-clause-names
loops::lower_for_updated-lower_init-requires-clause-names g t c =
    let s : State = state_of g.U.ReadsUnit.tables c.args.builder.now in
    let b : State = state_of g.U.ReadsUnit.tables c.begin.new.b in
    moved_named s (for_begun s) b c.in_ok-frame.ensures.state (names_same s (for_begun s) refl) c.requires.names

pub loops::lower_for_updated-lower_init-requires-clause-room : goal.loops::lower_for_updated-lower_init-requires-clause-room
loops::lower_for_updated-lower_init-requires-clause-room g t c =
    let init : ℕ = nodes (maybe c.args.init (λ t. syntax t.tree.now)) in
    let test : ℕ = nodes (maybe c.args.test (λ t. syntax t.tree.now)) in
    let update : ℕ = nodes (syntax c.args.update.tree.now) in
    let body : ℕ = nodes (syntax c.args.body.tree.now) in
    let s : State = state_of g.U.ReadsUnit.tables c.args.builder.now in
    let b : State = state_of g.U.ReadsUnit.tables c.begin.new.b in
    let room : HasRoom b (share init + 4 + (share update + (share body + (share test + 50)))) =
    moved_room s (for_begun s) b 3 (share init + 4 + (share update + (share body + (share test + 50))))
    (share (init + (test + (update + (body + 0))) + 1)) c.in_ok-frame.ensures.state (for_begun_size s) (omega arith) c.requires.room in
    omega (arith, room)

pub loops::lower_for_updated-init-requires : goal.loops::lower_for_updated-init-requires
loops::lower_for_updated-init-requires g t c =
    let init : ℕ = nodes (maybe c.args.init (λ t. syntax t.tree.now)) in
    let test : ℕ = nodes (maybe c.args.test (λ t. syntax t.tree.now)) in
    let update : ℕ = nodes (syntax c.args.update.tree.now) in
    let body : ℕ = nodes (syntax c.args.body.tree.now) in
    let s : State = state_of g.U.ReadsUnit.tables c.args.builder.now in
    let b : State = state_of g.U.ReadsUnit.tables c.begin.new.b in
    let s2 : State = state_of g.U.ReadsUnit.tables c.lower_init.new.builder in
    let room : HasRoom b (share init + 4 + (share update + (share body + (share test + 50)))) =
    moved_room s (for_begun s) b 3 (share init + 4 + (share update + (share body + (share test + 50))))
    (share (init + (test + (update + (body + 0))) + 1)) c.in_ok-frame.ensures.state (for_begun_size s) (omega arith) c.requires.room in
    let room2 : HasRoom s2 (share update + (share body + (share test + 50))) =
    room_after b s2 (share init + 4) (share update + (share body + (share test + 50)))
    (share init + 4 + (share update + (share body + (share test + 50)))) (omega (arith, c.in_ok-part.ensures.lowered.size)) (omega arith)
    room in
    omega (arith, room2)

pub loops::lower_for_updated-lower_expression-requires-clause-names : goal.loops::lower_for_updated-lower_expression-requires-clause-names
loops::lower_for_updated-lower_expression-requires-clause-names g t c =
    let s : State = state_of g.U.ReadsUnit.tables c.args.builder.now in
    let b : State = state_of g.U.ReadsUnit.tables c.begin.new.b in
    let s2 : State = state_of g.U.ReadsUnit.tables c.lower_init.new.builder in
    let b2 : State = state_of g.U.ReadsUnit.tables c.init.new.b in
    let f : ForParts = for_of c.in_ok-frame.frame in
    moved_named s2 (for_inited f s2 c.in_ok-part.part) b2 c.in_ok-init.ensures.state (for_inited_names f s2 c.in_ok-part.part)
    (c.in_ok-part.ensures.lowered.named (moved_named s (for_begun s) b c.in_ok-frame.ensures.state (names_same s (for_begun s) refl)
    c.requires.names))

pub loops::lower_for_updated-lower_expression-requires-clause-room : goal.loops::lower_for_updated-lower_expression-requires-clause-room
loops::lower_for_updated-lower_expression-requires-clause-room g t c =
    let init : ℕ = nodes (maybe c.args.init (λ t. syntax t.tree.now)) in
    let test : ℕ = nodes (maybe c.args.test (λ t. syntax t.tree.now)) in
    let update : ℕ = nodes (syntax c.args.update.tree.now) in
    let body : ℕ = nodes (syntax c.args.body.tree.now) in
    let s : State = state_of g.U.ReadsUnit.tables c.args.builder.now in
    let b : State = state_of g.U.ReadsUnit.tables c.begin.new.b in
    let s2 : State = state_of g.U.ReadsUnit.tables c.lower_init.new.builder in
    let b2 : State = state_of g.U.ReadsUnit.tables c.init.new.b in
    let f : ForParts = for_of c.in_ok-frame.frame in
    let room : HasRoom b (share init + 4 + (share update + (share body + (share test + 50)))) =
    moved_room s (for_begun s) b 3 (share init + 4 + (share update + (share body + (share test + 50))))
    (share (init + (test + (update + (body + 0))) + 1)) c.in_ok-frame.ensures.state (for_begun_size s) (omega arith) c.requires.room in
    let room2 : HasRoom s2 (share update + (share body + (share test + 50))) =
    room_after b s2 (share init + 4) (share update + (share body + (share test + 50)))
    (share init + 4 + (share update + (share body + (share test + 50)))) (omega (arith, c.in_ok-part.ensures.lowered.size)) (omega arith)
    room in
    let room3 : HasRoom b2 (share update + (share body + (share test + 49))) =
    moved_room s2 (for_inited f s2 c.in_ok-part.part) b2 1 (share update + (share body + (share test + 49)))
    (share update + (share body + (share test + 50))) c.in_ok-init.ensures.state (for_inited_size f s2 c.in_ok-part.part) (omega arith)
    room2 in
    omega (arith, room3)

pub loops::lower_for_updated-update-requires : goal.loops::lower_for_updated-update-requires
loops::lower_for_updated-update-requires g t c =
    let init : ℕ = nodes (maybe c.args.init (λ t. syntax t.tree.now)) in
    let test : ℕ = nodes (maybe c.args.test (λ t. syntax t.tree.now)) in
    let update : ℕ = nodes (syntax c.args.update.tree.now) in
    let body : ℕ = nodes (syntax c.args.body.tree.now) in
    let s : State = state_of g.U.ReadsUnit.tables c.args.builder.now in
    let b : State = state_of g.U.ReadsUnit.tables c.begin.new.b in
    let s2 : State = state_of g.U.ReadsUnit.tables c.lower_init.new.builder in
    let b2 : State = state_of g.U.ReadsUnit.tables c.init.new.b in
    let f : ForParts = for_of c.in_ok-frame.frame in
    let s3 : State = state_of g.U.ReadsUnit.tables c.lower_expression.new.builder in
    let room : HasRoom b (share init + 4 + (share update + (share body + (share test + 50)))) =
    moved_room s (for_begun s) b 3 (share init + 4 + (share update + (share body + (share test + 50))))
    (share (init + (test + (update + (body + 0))) + 1)) c.in_ok-frame.ensures.state (for_begun_size s) (omega arith) c.requires.room in
    let room2 : HasRoom s2 (share update + (share body + (share test + 50))) =
    room_after b s2 (share init + 4) (share update + (share body + (share test + 50)))
    (share init + 4 + (share update + (share body + (share test + 50)))) (omega (arith, c.in_ok-part.ensures.lowered.size)) (omega arith)
    room in
    let room3 : HasRoom b2 (share update + (share body + (share test + 49))) =
    moved_room s2 (for_inited f s2 c.in_ok-part.part) b2 1 (share update + (share body + (share test + 49)))
    (share update + (share body + (share test + 50))) c.in_ok-init.ensures.state (for_inited_size f s2 c.in_ok-part.part) (omega arith)
    room2 in
    let room4 : HasRoom s3 (share body + (share test + 49)) =
    room_after b2 s3 (share update) (share body + (share test + 49)) (share update + (share body + (share test + 49)))
    c.in_ok-lower_expression.ensures.lowered.size (omega arith) room3 in
    omega (arith, room4)

pub loops::lower_for_updated-lower_statement-requires : goal.loops::lower_for_updated-lower_statement-requires
loops::lower_for_updated-lower_statement-requires g t c =
    let init : ℕ = nodes (maybe c.args.init (λ t. syntax t.tree.now)) in
    let test : ℕ = nodes (maybe c.args.test (λ t. syntax t.tree.now)) in
    let update : ℕ = nodes (syntax c.args.update.tree.now) in
    let body : ℕ = nodes (syntax c.args.body.tree.now) in
    let s : State = state_of g.U.ReadsUnit.tables c.args.builder.now in
    let b : State = state_of g.U.ReadsUnit.tables c.begin.new.b in
    let s2 : State = state_of g.U.ReadsUnit.tables c.lower_init.new.builder in
    let b2 : State = state_of g.U.ReadsUnit.tables c.init.new.b in
    let f : ForParts = for_of c.in_ok-frame.frame in
    let s3 : State = state_of g.U.ReadsUnit.tables c.lower_expression.new.builder in
    let b3 : State = state_of g.U.ReadsUnit.tables c.update.new.b in
    let f2 : ForParts = for_of c.init.new.self in
    let room : HasRoom b (share init + 4 + (share update + (share body + (share test + 50)))) =
    moved_room s (for_begun s) b 3 (share init + 4 + (share update + (share body + (share test + 50))))
    (share (init + (test + (update + (body + 0))) + 1)) c.in_ok-frame.ensures.state (for_begun_size s) (omega arith) c.requires.room in
    let room2 : HasRoom s2 (share update + (share body + (share test + 50))) =
    room_after b s2 (share init + 4) (share update + (share body + (share test + 50)))
    (share init + 4 + (share update + (share body + (share test + 50)))) (omega (arith, c.in_ok-part.ensures.lowered.size)) (omega arith)
    room in
    let room3 : HasRoom b2 (share update + (share body + (share test + 49))) =
    moved_room s2 (for_inited f s2 c.in_ok-part.part) b2 1 (share update + (share body + (share test + 49)))
    (share update + (share body + (share test + 50))) c.in_ok-init.ensures.state (for_inited_size f s2 c.in_ok-part.part) (omega arith)
    room2 in
    let room4 : HasRoom s3 (share body + (share test + 49)) =
    room_after b2 s3 (share update) (share body + (share test + 49)) (share update + (share body + (share test + 49)))
    c.in_ok-lower_expression.ensures.lowered.size (omega arith) room3 in
    let room5 : HasRoom b3 (share body + (share test + 48)) =
    moved_room s3 (for_updated f2 s3 c.span_of.result) b3 1 (share body + (share test + 48)) (share body + (share test + 49))
    c.in_ok-update.ensures.state (for_updated_size f2 s3 c.span_of.result) (omega arith) room4 in
    λ lifetimes outlives. (
      search rules,
      (
        search rules,
        (
          moved_named s3 (for_updated f2 s3 c.span_of.result) b3 c.in_ok-update.ensures.state
              (names_same s3 (for_updated f2 s3 c.span_of.result) refl)
              (c.in_ok-lower_expression.ensures.lowered.named
              (moved_named s2 (for_inited f s2 c.in_ok-part.part) b2 c.in_ok-init.ensures.state (for_inited_names f s2 c.in_ok-part.part)
              (c.in_ok-part.ensures.lowered.named (moved_named s (for_begun s) b c.in_ok-frame.ensures.state
              (names_same s (for_begun s) refl) c.requires.names)))),
          (
            inside_loop (seen c.args.names.now) (syntax c.args.body.tree.now) s b3
                (for_updated_arounds c.span_of.result s s2 s3 b3 c.in_ok-label.ensures c.in_ok-frame.ensures.frame
                c.in_ok-init.ensures.frame c.in_ok-update.ensures.state
                ∙ ap (λ (a : List Around). InLoop (option_map (λ l. l.now) c.args.label) ∷ a)
                (expression_arounds c.in_ok-lower_expression.ensures.lowered.by
                ∙ for_inited_arounds c.in_ok-part.part s s2 b2 c.in_ok-frame.ensures.frame c.in_ok-init.ensures.state
                ∙ init_arounds c.in_ok-part.ensures.lowered ∙ for_begun_arounds s b c.in_ok-frame.ensures.state)) c.requires.may.3,
            omega (arith, room5),
          ),
        ),
      ),
    )

pub loops::lower_for_updated-body-requires-clause-scope : goal.loops::lower_for_updated-body-requires-clause-scope
loops::lower_for_updated-body-requires-clause-scope g t c =
    let s : State = state_of g.U.ReadsUnit.tables c.args.builder.now in
    let s2 : State = state_of g.U.ReadsUnit.tables c.lower_init.new.builder in
    let own : Label = c.in_ok-label.label in
    let s3 : State = state_of g.U.ReadsUnit.tables c.lower_expression.new.builder in
    let b3 : State = state_of g.U.ReadsUnit.tables c.update.new.b in
    let s4 : State = state_of g.U.ReadsUnit.tables c.lower_statement.new.builder in
    scope_kept s3 b3 s4 (for_scope s.env.next_block own (block_id s2.env.next_block))
    (opened_updated c.span_of.result s s2 s3 b3 c.in_ok-frame.ensures.frame c.in_ok-init.ensures.frame c.in_ok-update.ensures.state)
    c.in_ok-lower_statement.ensures.lowered

pub loops::lower_for_updated-lower_test-requires-clause-names : goal.loops::lower_for_updated-lower_test-requires-clause-names
loops::lower_for_updated-lower_test-requires-clause-names g t c =
    let s : State = state_of g.U.ReadsUnit.tables c.args.builder.now in
    let b : State = state_of g.U.ReadsUnit.tables c.begin.new.b in
    let s2 : State = state_of g.U.ReadsUnit.tables c.lower_init.new.builder in
    let b2 : State = state_of g.U.ReadsUnit.tables c.init.new.b in
    let f : ForParts = for_of c.in_ok-frame.frame in
    let s3 : State = state_of g.U.ReadsUnit.tables c.lower_expression.new.builder in
    let b3 : State = state_of g.U.ReadsUnit.tables c.update.new.b in
    let f2 : ForParts = for_of c.init.new.self in
    let s4 : State = state_of g.U.ReadsUnit.tables c.lower_statement.new.builder in
    let b4 : State = state_of g.U.ReadsUnit.tables c.body.new.b in
    let f3 : ForParts = for_of c.update.new.self in
    moved_named s4 (for_bodied f3 s4 c.span_of-2.result) b4 c.in_ok-body.ensures.state
    (names_same s4 (for_bodied f3 s4 c.span_of-2.result) refl)
    (c.in_ok-lower_statement.ensures.lowered.named
    (moved_named s3 (for_updated f2 s3 c.span_of.result) b3 c.in_ok-update.ensures.state
    (names_same s3 (for_updated f2 s3 c.span_of.result) refl)
    (c.in_ok-lower_expression.ensures.lowered.named
    (moved_named s2 (for_inited f s2 c.in_ok-part.part) b2 c.in_ok-init.ensures.state (for_inited_names f s2 c.in_ok-part.part)
    (c.in_ok-part.ensures.lowered.named (moved_named s (for_begun s) b c.in_ok-frame.ensures.state (names_same s (for_begun s) refl)
    c.requires.names))))))

pub loops::lower_for_updated-lower_test-requires-clause-room : goal.loops::lower_for_updated-lower_test-requires-clause-room
loops::lower_for_updated-lower_test-requires-clause-room g t c =
    let init : ℕ = nodes (maybe c.args.init (λ t. syntax t.tree.now)) in
    let test : ℕ = nodes (maybe c.args.test (λ t. syntax t.tree.now)) in
    let update : ℕ = nodes (syntax c.args.update.tree.now) in
    let body : ℕ = nodes (syntax c.args.body.tree.now) in
    let s : State = state_of g.U.ReadsUnit.tables c.args.builder.now in
    let b : State = state_of g.U.ReadsUnit.tables c.begin.new.b in
    let s2 : State = state_of g.U.ReadsUnit.tables c.lower_init.new.builder in
    let b2 : State = state_of g.U.ReadsUnit.tables c.init.new.b in
    let f : ForParts = for_of c.in_ok-frame.frame in
    let s3 : State = state_of g.U.ReadsUnit.tables c.lower_expression.new.builder in
    let b3 : State = state_of g.U.ReadsUnit.tables c.update.new.b in
    let f2 : ForParts = for_of c.init.new.self in
    let s4 : State = state_of g.U.ReadsUnit.tables c.lower_statement.new.builder in
    let b4 : State = state_of g.U.ReadsUnit.tables c.body.new.b in
    let f3 : ForParts = for_of c.update.new.self in
    let room : HasRoom b (share init + 4 + (share update + (share body + (share test + 50)))) =
    moved_room s (for_begun s) b 3 (share init + 4 + (share update + (share body + (share test + 50))))
    (share (init + (test + (update + (body + 0))) + 1)) c.in_ok-frame.ensures.state (for_begun_size s) (omega arith) c.requires.room in
    let room2 : HasRoom s2 (share update + (share body + (share test + 50))) =
    room_after b s2 (share init + 4) (share update + (share body + (share test + 50)))
    (share init + 4 + (share update + (share body + (share test + 50)))) (omega (arith, c.in_ok-part.ensures.lowered.size)) (omega arith)
    room in
    let room3 : HasRoom b2 (share update + (share body + (share test + 49))) =
    moved_room s2 (for_inited f s2 c.in_ok-part.part) b2 1 (share update + (share body + (share test + 49)))
    (share update + (share body + (share test + 50))) c.in_ok-init.ensures.state (for_inited_size f s2 c.in_ok-part.part) (omega arith)
    room2 in
    let room4 : HasRoom s3 (share body + (share test + 49)) =
    room_after b2 s3 (share update) (share body + (share test + 49)) (share update + (share body + (share test + 49)))
    c.in_ok-lower_expression.ensures.lowered.size (omega arith) room3 in
    let room5 : HasRoom b3 (share body + (share test + 48)) =
    moved_room s3 (for_updated f2 s3 c.span_of.result) b3 1 (share body + (share test + 48)) (share body + (share test + 49))
    c.in_ok-update.ensures.state (for_updated_size f2 s3 c.span_of.result) (omega arith) room4 in
    moved_room s4 (for_bodied f3 s4 c.span_of-2.result) b4 0 (share test + 4) (share test + 48) c.in_ok-body.ensures.state
    (for_bodied_size f3 s4 c.span_of-2.result) (omega arith)
    (room_after b3 s4 (share body) (share test + 48) (share body + (share test + 48)) c.in_ok-lower_statement.ensures.lowered.size
    (omega arith) room5)

pub loops::lower_for_updated-returns-clause-lowered : goal.loops::lower_for_updated-returns-clause-lowered
loops::lower_for_updated-returns-clause-lowered g t c =
    for_updated_told (for_of c.body.new.self) _ c.in_ok-label.ensures c.in_ok-part.ensures.span c.span_of.ensures c.span_of-2.ensures
    c.in_ok-frame.ensures.frame c.in_ok-frame.ensures.state
    c.in_ok-part.ensures.lowered c.in_ok-init.ensures.state c.in_ok-init.ensures.frame c.in_ok-lower_expression.ensures.lowered
    c.in_ok-update.ensures.state c.in_ok-update.ensures.frame
    c.in_ok-lower_statement.ensures.lowered c.in_ok-body.ensures.state c.in_ok-body.ensures.frame c.in_ok-test.ensures.lowered
    c.in_ok-finish.ensures.state

pub loops::lower_for_plain-lower_init-requires-clause-names : goal.loops::lower_for_plain-lower_init-requires-clause-names
loops::lower_for_plain-lower_init-requires-clause-names g t c =
    let s : State = state_of g.U.ReadsUnit.tables c.args.builder.now in
    let b : State = state_of g.U.ReadsUnit.tables c.begin.new.b in
    moved_named s (for_begun s) b c.in_ok-frame.ensures.state (names_same s (for_begun s) refl) c.requires.names

pub loops::lower_for_plain-lower_init-requires-clause-room : goal.loops::lower_for_plain-lower_init-requires-clause-room
loops::lower_for_plain-lower_init-requires-clause-room g t c =
    let init : ℕ = nodes (maybe c.args.init (λ t. syntax t.tree.now)) in
    let test : ℕ = nodes (maybe c.args.test (λ t. syntax t.tree.now)) in
    let body : ℕ = nodes (syntax c.args.body.tree.now) in
    let s : State = state_of g.U.ReadsUnit.tables c.args.builder.now in
    let b : State = state_of g.U.ReadsUnit.tables c.begin.new.b in
    let room : HasRoom b (share init + 4 + (share body + (share test + 50))) =
    moved_room s (for_begun s) b 3 (share init + 4 + (share body + (share test + 50))) (share (init + (test + (0 + (body + 0))) + 1))
    c.in_ok-frame.ensures.state (for_begun_size s) (omega arith) c.requires.room in
    omega (arith, room)

pub loops::lower_for_plain-init-requires : goal.loops::lower_for_plain-init-requires
loops::lower_for_plain-init-requires g t c =
    let init : ℕ = nodes (maybe c.args.init (λ t. syntax t.tree.now)) in
    let test : ℕ = nodes (maybe c.args.test (λ t. syntax t.tree.now)) in
    let body : ℕ = nodes (syntax c.args.body.tree.now) in
    let s : State = state_of g.U.ReadsUnit.tables c.args.builder.now in
    let b : State = state_of g.U.ReadsUnit.tables c.begin.new.b in
    let s2 : State = state_of g.U.ReadsUnit.tables c.lower_init.new.builder in
    let room : HasRoom b (share init + 4 + (share body + (share test + 50))) =
    moved_room s (for_begun s) b 3 (share init + 4 + (share body + (share test + 50))) (share (init + (test + (0 + (body + 0))) + 1))
    c.in_ok-frame.ensures.state (for_begun_size s) (omega arith) c.requires.room in
    let room2 : HasRoom s2 (share body + (share test + 50)) =
    room_after b s2 (share init + 4) (share body + (share test + 50)) (share init + 4 + (share body + (share test + 50)))
    (omega (arith, c.in_ok-part.ensures.lowered.size)) (omega arith) room in
    omega (arith, room2)

pub loops::lower_for_plain-lower_statement-requires : goal.loops::lower_for_plain-lower_statement-requires
loops::lower_for_plain-lower_statement-requires g t c =
    let init : ℕ = nodes (maybe c.args.init (λ t. syntax t.tree.now)) in
    let test : ℕ = nodes (maybe c.args.test (λ t. syntax t.tree.now)) in
    let body : ℕ = nodes (syntax c.args.body.tree.now) in
    let s : State = state_of g.U.ReadsUnit.tables c.args.builder.now in
    let b : State = state_of g.U.ReadsUnit.tables c.begin.new.b in
    let s2 : State = state_of g.U.ReadsUnit.tables c.lower_init.new.builder in
    let b2 : State = state_of g.U.ReadsUnit.tables c.init.new.b in
    let f : ForParts = for_of c.in_ok-frame.frame in
    let room : HasRoom b (share init + 4 + (share body + (share test + 50))) =
    moved_room s (for_begun s) b 3 (share init + 4 + (share body + (share test + 50))) (share (init + (test + (0 + (body + 0))) + 1))
    c.in_ok-frame.ensures.state (for_begun_size s) (omega arith) c.requires.room in
    let room2 : HasRoom s2 (share body + (share test + 50)) =
    room_after b s2 (share init + 4) (share body + (share test + 50)) (share init + 4 + (share body + (share test + 50)))
    (omega (arith, c.in_ok-part.ensures.lowered.size)) (omega arith) room in
    let room5 : HasRoom b2 (share body + (share test + 48)) =
    moved_room s2 (for_inited f s2 c.in_ok-part.part) b2 1 (share body + (share test + 48)) (share body + (share test + 50))
    c.in_ok-init.ensures.state (for_inited_size f s2 c.in_ok-part.part) (omega arith) room2 in
    λ lifetimes outlives. (
      search rules,
      (
        search rules,
        (
          moved_named s2 (for_inited f s2 c.in_ok-part.part) b2 c.in_ok-init.ensures.state (for_inited_names f s2 c.in_ok-part.part)
              (c.in_ok-part.ensures.lowered.named (moved_named s (for_begun s) b c.in_ok-frame.ensures.state
              (names_same s (for_begun s) refl) c.requires.names)),
          (
            inside_loop (seen c.args.names.now) (syntax c.args.body.tree.now) s b2
                (for_plain_arounds c.in_ok-part.part s s2 b2 c.in_ok-label.ensures c.in_ok-frame.ensures.frame c.in_ok-init.ensures.state
                ∙ ap (λ (a : List Around). InLoop (option_map (λ l. l.now) c.args.label) ∷ a)
                (init_arounds c.in_ok-part.ensures.lowered ∙ for_begun_arounds s b c.in_ok-frame.ensures.state)) c.requires.may.3,
            omega (arith, room5),
          ),
        ),
      ),
    )

pub loops::lower_for_plain-body-requires-clause-scope : goal.loops::lower_for_plain-body-requires-clause-scope
loops::lower_for_plain-body-requires-clause-scope g t c =
    let s : State = state_of g.U.ReadsUnit.tables c.args.builder.now in
    let s2 : State = state_of g.U.ReadsUnit.tables c.lower_init.new.builder in
    let b2 : State = state_of g.U.ReadsUnit.tables c.init.new.b in
    let own : Label = c.in_ok-label.label in
    let s4 : State = state_of g.U.ReadsUnit.tables c.lower_statement.new.builder in
    scope_kept s2 b2 s4 (for_scope s.env.next_block own (block_id s.env.next_block))
    (opened_plain c.in_ok-part.part s s2 b2 c.in_ok-frame.ensures.frame c.in_ok-init.ensures.state) c.in_ok-lower_statement.ensures.lowered

pub loops::lower_for_plain-lower_test-requires-clause-names : goal.loops::lower_for_plain-lower_test-requires-clause-names
loops::lower_for_plain-lower_test-requires-clause-names g t c =
    let s : State = state_of g.U.ReadsUnit.tables c.args.builder.now in
    let b : State = state_of g.U.ReadsUnit.tables c.begin.new.b in
    let s2 : State = state_of g.U.ReadsUnit.tables c.lower_init.new.builder in
    let b2 : State = state_of g.U.ReadsUnit.tables c.init.new.b in
    let f : ForParts = for_of c.in_ok-frame.frame in
    let s4 : State = state_of g.U.ReadsUnit.tables c.lower_statement.new.builder in
    let b4 : State = state_of g.U.ReadsUnit.tables c.body.new.b in
    let f3 : ForParts = for_of c.init.new.self in
    moved_named s4 (for_bodied f3 s4 c.span_of.result) b4 c.in_ok-body.ensures.state
    (names_same s4 (for_bodied f3 s4 c.span_of.result) refl)
    (c.in_ok-lower_statement.ensures.lowered.named
    (moved_named s2 (for_inited f s2 c.in_ok-part.part) b2 c.in_ok-init.ensures.state (for_inited_names f s2 c.in_ok-part.part)
    (c.in_ok-part.ensures.lowered.named (moved_named s (for_begun s) b c.in_ok-frame.ensures.state (names_same s (for_begun s) refl)
    c.requires.names))))

pub loops::lower_for_plain-lower_test-requires-clause-room : goal.loops::lower_for_plain-lower_test-requires-clause-room
loops::lower_for_plain-lower_test-requires-clause-room g t c =
    let init : ℕ = nodes (maybe c.args.init (λ t. syntax t.tree.now)) in
    let test : ℕ = nodes (maybe c.args.test (λ t. syntax t.tree.now)) in
    let body : ℕ = nodes (syntax c.args.body.tree.now) in
    let s : State = state_of g.U.ReadsUnit.tables c.args.builder.now in
    let b : State = state_of g.U.ReadsUnit.tables c.begin.new.b in
    let s2 : State = state_of g.U.ReadsUnit.tables c.lower_init.new.builder in
    let b2 : State = state_of g.U.ReadsUnit.tables c.init.new.b in
    let f : ForParts = for_of c.in_ok-frame.frame in
    let s4 : State = state_of g.U.ReadsUnit.tables c.lower_statement.new.builder in
    let b4 : State = state_of g.U.ReadsUnit.tables c.body.new.b in
    let f3 : ForParts = for_of c.init.new.self in
    let room : HasRoom b (share init + 4 + (share body + (share test + 50))) =
    moved_room s (for_begun s) b 3 (share init + 4 + (share body + (share test + 50))) (share (init + (test + (0 + (body + 0))) + 1))
    c.in_ok-frame.ensures.state (for_begun_size s) (omega arith) c.requires.room in
    let room2 : HasRoom s2 (share body + (share test + 50)) =
    room_after b s2 (share init + 4) (share body + (share test + 50)) (share init + 4 + (share body + (share test + 50)))
    (omega (arith, c.in_ok-part.ensures.lowered.size)) (omega arith) room in
    let room5 : HasRoom b2 (share body + (share test + 48)) =
    moved_room s2 (for_inited f s2 c.in_ok-part.part) b2 1 (share body + (share test + 48)) (share body + (share test + 50))
    c.in_ok-init.ensures.state (for_inited_size f s2 c.in_ok-part.part) (omega arith) room2 in
    moved_room s4 (for_bodied f3 s4 c.span_of.result) b4 0 (share test + 4) (share test + 48) c.in_ok-body.ensures.state
    (for_bodied_size f3 s4 c.span_of.result) (omega arith)
    (room_after b2 s4 (share body) (share test + 48) (share body + (share test + 48)) c.in_ok-lower_statement.ensures.lowered.size
    (omega arith) room5)

pub loops::lower_for_plain-returns-clause-lowered : goal.loops::lower_for_plain-returns-clause-lowered
loops::lower_for_plain-returns-clause-lowered g t c =
    for_plain_told (for_of c.body.new.self) _ c.in_ok-label.ensures c.in_ok-part.ensures.span c.span_of.ensures c.in_ok-frame.ensures.frame
    c.in_ok-frame.ensures.state
    c.in_ok-part.ensures.lowered c.in_ok-init.ensures.state c.in_ok-init.ensures.frame
    c.in_ok-lower_statement.ensures.lowered c.in_ok-body.ensures.state c.in_ok-body.ensures.frame c.in_ok-test.ensures.lowered
    c.in_ok-finish.ensures.state
