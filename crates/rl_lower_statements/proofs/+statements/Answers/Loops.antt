use Rattle.std.proofs.Common.{rules, ℕ, ◌+◌, List, refl, ap, sym}
use Rattle.std.proofs.Common.{arith}
use Rattle.rl_builder.specs.Builder.{State, state_of}
use Rattle.rl_frames.specs.Frames.{WhileParts, do_while_bodied, do_while_of}
use Rattle.rl_frames.specs.Frames.{while_bodied, while_of}
use Rattle.rl_frames.specs.Parts.{label_begun, label_scope, while_begun, while_scope}
use Rattle.rl_lowered.proofs.Names.{names_same}
use Rattle.rl_lowered.specs.Arounds.{arounds}
use Rattle.rl_lowered.specs.Promised.{HasRoom, share}
use Rattle.rl_model.specs.Actions.{Label}
use Rattle.rl_names.specs.Seen.{seen}
use Rattle.rl_syntax.specs.Syntax.{nodes, syntax}
use Rattle.rl_lower_parts.proofs.Derivations.{room_after}
use Rattle.rl_lower_statements.proofs.LoopDerivations.{do_while_bodied_size, do_while_told}
use Rattle.rl_lower_statements.proofs.LoopDerivations.{inside_label, inside_loop, label_begun_size, labeled_loop_may}
use Rattle.rl_lower_statements.proofs.LoopDerivations.{labeled_loop_ok, labeled_may, labeled_told, moved_named, moved_room}
use Rattle.rl_lower_statements.proofs.LoopDerivations.{scope_kept, while_begun_arounds}
use Rattle.rl_lower_statements.proofs.LoopDerivations.{while_begun_size, while_bodied_size, while_told}
use Rattle.rl_lower_statements.proofs.+statements.Goals as goal

pub loops::lower_while-lower_statement-requires : goal.loops::lower_while-lower_statement-requires
loops::lower_while-lower_statement-requires g t c =
    let test : ℕ = nodes (syntax c.args.test.tree.now) in
    let body : ℕ = nodes (syntax c.args.body.tree.now) in
    let s : State = state_of g.U.ReadsUnit.tables c.args.builder.now in
    let b : State = state_of g.U.ReadsUnit.tables c.begin.new.b in
    let own : Label = c.in_ok-label.label in
    λ lifetimes outlives. (
      search rules,
      (
        search rules,
        (
          moved_named s (while_begun s own) b c.in_ok-frame.ensures.state (names_same s (while_begun s own) refl) c.requires.names,
          (
            inside_loop (seen c.args.names.now) (syntax c.args.body.tree.now) s b
                (while_begun_arounds s b c.in_ok-label.ensures c.in_ok-frame.ensures.state) c.requires.may.1,
            moved_room s (while_begun s own) b 3 (share body) (share (test + (body + 0) + 1)) c.in_ok-frame.ensures.state
                (while_begun_size s own) (omega arith) c.requires.room,
          ),
        ),
      ),
    )

pub loops::lower_while-body-requires-clause-scope : goal.loops::lower_while-body-requires-clause-scope
loops::lower_while-body-requires-clause-scope g t c =
    let s : State = state_of g.U.ReadsUnit.tables c.args.builder.now in
    let b : State = state_of g.U.ReadsUnit.tables c.begin.new.b in
    let s2 : State = state_of g.U.ReadsUnit.tables c.lower_statement.new.builder in
    let own : Label = c.in_ok-label.label in
    scope_kept s b s2 (while_scope s own) (ap (λ (o : State). o.scopes) c.in_ok-frame.ensures.state) c.in_ok-lower_statement.ensures.lowered

pub loops::lower_while-lower_expression-requires-clause-names : goal.loops::lower_while-lower_expression-requires-clause-names
loops::lower_while-lower_expression-requires-clause-names g t c =
    let s : State = state_of g.U.ReadsUnit.tables c.args.builder.now in
    let b : State = state_of g.U.ReadsUnit.tables c.begin.new.b in
    let own : Label = c.in_ok-label.label in
    let s2 : State = state_of g.U.ReadsUnit.tables c.lower_statement.new.builder in
    let b2 : State = state_of g.U.ReadsUnit.tables c.body.new.b in
    let f : WhileParts = while_of c.in_ok-frame.frame in
    moved_named s2 (while_bodied f s2 c.span_of.result) b2 c.in_ok-body.ensures.state
    (names_same s2 (while_bodied f s2 c.span_of.result) refl)
    (c.in_ok-lower_statement.ensures.lowered.named
    (moved_named s (while_begun s own) b c.in_ok-frame.ensures.state (names_same s (while_begun s own) refl) c.requires.names))

pub loops::lower_while-lower_expression-requires-clause-room : goal.loops::lower_while-lower_expression-requires-clause-room
loops::lower_while-lower_expression-requires-clause-room g t c =
    let test : ℕ = nodes (syntax c.args.test.tree.now) in
    let body : ℕ = nodes (syntax c.args.body.tree.now) in
    let s : State = state_of g.U.ReadsUnit.tables c.args.builder.now in
    let b : State = state_of g.U.ReadsUnit.tables c.begin.new.b in
    let own : Label = c.in_ok-label.label in
    let s2 : State = state_of g.U.ReadsUnit.tables c.lower_statement.new.builder in
    let b2 : State = state_of g.U.ReadsUnit.tables c.body.new.b in
    let f : WhileParts = while_of c.in_ok-frame.frame in
    let room : HasRoom b (share body + (share test + 61)) =
    moved_room s (while_begun s own) b 3 (share body + (share test + 61)) (share (test + (body + 0) + 1)) c.in_ok-frame.ensures.state
    (while_begun_size s own) (omega arith) c.requires.room in
    moved_room s2 (while_bodied f s2 c.span_of.result) b2 0 (share test) (share test + 61) c.in_ok-body.ensures.state
    (while_bodied_size f s2 c.span_of.result) (omega arith)
    (room_after b s2 (share body) (share test + 61) (share body + (share test + 61)) c.in_ok-lower_statement.ensures.lowered.size
    (omega arith) room)

pub loops::lower_while-returns-clause-lowered : goal.loops::lower_while-returns-clause-lowered
loops::lower_while-returns-clause-lowered g t c =
    while_told (while_of c.body.new.self) _ c.in_ok-label.ensures c.span_of.ensures c.in_ok-frame.ensures.frame c.in_ok-frame.ensures.state
    c.in_ok-lower_statement.ensures.lowered c.in_ok-body.ensures.state c.in_ok-body.ensures.frame c.in_ok-test.ensures.lowered
    c.in_ok-finish.ensures.state

pub loops::lower_do_while-lower_statement-requires : goal.loops::lower_do_while-lower_statement-requires
loops::lower_do_while-lower_statement-requires g t c =
    let test : ℕ = nodes (syntax c.args.test.tree.now) in
    let body : ℕ = nodes (syntax c.args.body.tree.now) in
    let s : State = state_of g.U.ReadsUnit.tables c.args.builder.now in
    let b : State = state_of g.U.ReadsUnit.tables c.begin.new.b in
    let own : Label = c.in_ok-label.label in
    λ lifetimes outlives. (
      search rules,
      (
        search rules,
        (
          moved_named s (while_begun s own) b c.in_ok-frame.ensures.state (names_same s (while_begun s own) refl) c.requires.names,
          (
            inside_loop (seen c.args.names.now) (syntax c.args.body.tree.now) s b
                (while_begun_arounds s b c.in_ok-label.ensures c.in_ok-frame.ensures.state) c.requires.may.0,
            moved_room s (while_begun s own) b 3 (share body) (share (body + (test + 0) + 1)) c.in_ok-frame.ensures.state
                (while_begun_size s own) (omega arith) c.requires.room,
          ),
        ),
      ),
    )

pub loops::lower_do_while-body-requires-clause-scope : goal.loops::lower_do_while-body-requires-clause-scope
loops::lower_do_while-body-requires-clause-scope g t c =
    let s : State = state_of g.U.ReadsUnit.tables c.args.builder.now in
    let b : State = state_of g.U.ReadsUnit.tables c.begin.new.b in
    let s2 : State = state_of g.U.ReadsUnit.tables c.lower_statement.new.builder in
    let own : Label = c.in_ok-label.label in
    scope_kept s b s2 (while_scope s own) (ap (λ (o : State). o.scopes) c.in_ok-frame.ensures.state) c.in_ok-lower_statement.ensures.lowered

pub loops::lower_do_while-lower_expression-requires-clause-names : goal.loops::lower_do_while-lower_expression-requires-clause-names
loops::lower_do_while-lower_expression-requires-clause-names g t c =
    let s : State = state_of g.U.ReadsUnit.tables c.args.builder.now in
    let b : State = state_of g.U.ReadsUnit.tables c.begin.new.b in
    let own : Label = c.in_ok-label.label in
    let s2 : State = state_of g.U.ReadsUnit.tables c.lower_statement.new.builder in
    let b2 : State = state_of g.U.ReadsUnit.tables c.body.new.b in
    let f : WhileParts = do_while_of c.in_ok-frame.frame in
    moved_named s2 (do_while_bodied f s2 c.span_of.result) b2 c.in_ok-body.ensures.state
    (names_same s2 (do_while_bodied f s2 c.span_of.result) refl)
    (c.in_ok-lower_statement.ensures.lowered.named
    (moved_named s (while_begun s own) b c.in_ok-frame.ensures.state (names_same s (while_begun s own) refl) c.requires.names))

pub loops::lower_do_while-lower_expression-requires-clause-room : goal.loops::lower_do_while-lower_expression-requires-clause-room
loops::lower_do_while-lower_expression-requires-clause-room g t c =
    let test : ℕ = nodes (syntax c.args.test.tree.now) in
    let body : ℕ = nodes (syntax c.args.body.tree.now) in
    let s : State = state_of g.U.ReadsUnit.tables c.args.builder.now in
    let b : State = state_of g.U.ReadsUnit.tables c.begin.new.b in
    let own : Label = c.in_ok-label.label in
    let s2 : State = state_of g.U.ReadsUnit.tables c.lower_statement.new.builder in
    let b2 : State = state_of g.U.ReadsUnit.tables c.body.new.b in
    let f : WhileParts = do_while_of c.in_ok-frame.frame in
    let room : HasRoom b (share body + (share test + 61)) =
    moved_room s (while_begun s own) b 3 (share body + (share test + 61)) (share (body + (test + 0) + 1)) c.in_ok-frame.ensures.state
    (while_begun_size s own) (omega arith) c.requires.room in
    moved_room s2 (do_while_bodied f s2 c.span_of.result) b2 0 (share test) (share test + 61) c.in_ok-body.ensures.state
    (do_while_bodied_size f s2 c.span_of.result) (omega arith)
    (room_after b s2 (share body) (share test + 61) (share body + (share test + 61)) c.in_ok-lower_statement.ensures.lowered.size
    (omega arith) room)

pub loops::lower_do_while-returns-clause-lowered : goal.loops::lower_do_while-returns-clause-lowered
loops::lower_do_while-returns-clause-lowered g t c =
    do_while_told (do_while_of c.body.new.self) _ c.in_ok-label.ensures c.span_of.ensures c.in_ok-frame.ensures.frame
    c.in_ok-frame.ensures.state
    c.in_ok-lower_statement.ensures.lowered c.in_ok-body.ensures.state c.in_ok-body.ensures.frame c.in_ok-test.ensures.lowered
    c.in_ok-finish.ensures.state

pub loops::lower_labeled-lower_loop-requires : goal.loops::lower_labeled-lower_loop-requires
loops::lower_labeled-lower_loop-requires g t c =
    let s : State = state_of g.U.ReadsUnit.tables c.args.builder.now in
    λ lifetimes outlives. (
      search rules,
      (
        search rules,
        (
          search rules,
          (
            sym c.if-is_loop.ensures,
            (
              labeled_loop_may (seen c.args.names.now) (arounds s) c.args.label.now (syntax c.args.body.tree.now) (sym c.if-is_loop.ensures)
                  c.requires.may,
              omega (arith, c.requires.room),
            ),
          ),
        ),
      ),
    )

pub loops::lower_labeled-returns-then-is_loop-clause-lowered : goal.loops::lower_labeled-returns-then-is_loop-clause-lowered
loops::lower_labeled-returns-then-is_loop-clause-lowered g t c =
    labeled_loop_ok (seen c.args.names.now) _ _ _ _ _ c.lower_loop.result c.lower_loop.ensures.lowered

pub loops::lower_labeled-lower_statement-requires : goal.loops::lower_labeled-lower_statement-requires
loops::lower_labeled-lower_statement-requires g t c =
    let body : ℕ = nodes (syntax c.args.body.tree.now) in
    let s : State = state_of g.U.ReadsUnit.tables c.args.builder.now in
    let b : State = state_of g.U.ReadsUnit.tables c.begin.new.b in
    let own : List ℕ = c.in_ok-label.label in
    λ lifetimes outlives. (
      search rules,
      (
        search rules,
        (
          moved_named s (label_begun s own) b c.in_ok-frame.ensures.state (names_same s (label_begun s own) refl) c.requires.names,
          (
            inside_label (seen c.args.names.now) (syntax c.args.body.tree.now) s b c.in_ok-label.ensures c.in_ok-frame.ensures.state
                (labeled_may (seen c.args.names.now) (arounds s) c.args.label.now (syntax c.args.body.tree.now) (sym c.if-is_loop.ensures)
                c.requires.may),
            moved_room s (label_begun s own) b 2 (share body) (share (0 + (body + 0) + 1)) c.in_ok-frame.ensures.state
                (label_begun_size s own) (omega arith) c.requires.room,
          ),
        ),
      ),
    )

pub loops::lower_labeled-finish-requires : goal.loops::lower_labeled-finish-requires
loops::lower_labeled-finish-requires g t c =
    let s : State = state_of g.U.ReadsUnit.tables c.args.builder.now in
    let b : State = state_of g.U.ReadsUnit.tables c.begin.new.b in
    let s2 : State = state_of g.U.ReadsUnit.tables c.lower_statement.new.builder in
    let own : List ℕ = c.in_ok-label.label in
    record {
      scope =
          scope_kept s b s2 (label_scope s own) (ap (λ (o : State). o.scopes) c.in_ok-frame.ensures.state)
          c.in_ok-lower_statement.ensures.lowered;
    }

pub loops::lower_labeled-returns-clause-lowered : goal.loops::lower_labeled-returns-clause-lowered
loops::lower_labeled-returns-clause-lowered g t c =
    labeled_told _ c.in_ok-label.ensures c.span_of.ensures (sym c.if-is_loop.ensures) c.in_ok-frame.ensures.frame
    c.in_ok-frame.ensures.state
    c.in_ok-lower_statement.ensures.lowered c.in_ok-finish.ensures.state
