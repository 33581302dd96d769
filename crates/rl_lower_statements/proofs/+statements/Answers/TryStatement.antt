use Rattle.std.proofs.Common.{rules, ℕ, ◌+◌, None, refl, ap, sym, ◌∙◌}
use Rattle.std.proofs.Common.{arith}
use Rattle.rl_builder.specs.Builder.{State, state_of}
use Rattle.rl_frames.specs.Frames.{TryParts, try_caught, try_of}
use Rattle.rl_frames.specs.Parts.{try_started}
use Rattle.rl_grammar.specs.Fields.{maybe}
use Rattle.rl_lowered.proofs.Arounds.{statement_arounds}
use Rattle.rl_lowered.proofs.Names.{names_same}
use Rattle.rl_lowered.specs.Arounds.{arounds}
use Rattle.rl_lowered.specs.Promised.{HasRoom, share}
use Rattle.rl_names.specs.Seen.{seen}
use Rattle.rl_syntax.specs.Syntax.{nodes, syntax}
use Rattle.rl_lower_parts.proofs.Derivations.{room_after}
use Rattle.rl_lower_statements.proofs.LoopDerivations.{inside}
use Rattle.rl_lower_statements.proofs.LoopDerivations.{moved_named, moved_room}
use Rattle.rl_lower_statements.proofs.TryDerivations.{caught_arounds, handler_kept, plain_arounds, try_caught_size}
use Rattle.rl_lower_statements.proofs.TryDerivations.{try_plain_told, try_started_size, bound_front_room, bound_room, front_named}
use Rattle.rl_lower_statements.proofs.TryDerivations.{stored_arounds, try_bound_told, caught_ok, clause_may, clause_room, caught_may}
use Rattle.rl_lower_statements.proofs.TryDerivations.{caught_room, finalized_ok, finalizer_arounds, finalizer_named, never_apart}
use Rattle.rl_lower_statements.proofs.TryDerivations.{uncaught_told}
use Rattle.rl_ast.specs.BindingViews.{seen_binding_identifier}
use Rattle.rl_lower_statements.proofs.DeclarationDerivations.{annotation_fits}
use Rattle.rl_lower_statements.proofs.+statements.Goals as goal

pub try_statement::lower_try_plain-lower_block-requires-2 : goal.try_statement::lower_try_plain-lower_block-requires-2
try_statement::lower_try_plain-lower_block-requires-2 g t c =
    λ lifetimes outlives. (
      search rules,
      (
        search rules,
        (
          let s : State = state_of g.U.ReadsUnit.tables c.args.builder.now in
              let s2 : State = state_of g.U.ReadsUnit.tables c.lower_block.new.builder in
              let f : TryParts = try_of c.in_ok-frame.frame in
              moved_named s2 (try_caught f s2 c.args.there.span) _ c.in_ok-catch.ensures.state
              (names_same s2 (try_caught f s2 c.args.there.span) refl)
              (c.in_ok-lower_block.ensures.lowered.named
              (moved_named s (try_started s None) _ c.in_ok-frame.ensures.state (names_same s (try_started s None) refl) c.requires.names)),
          (
            let s : State = state_of g.U.ReadsUnit.tables c.args.builder.now in
                let b : State = state_of g.U.ReadsUnit.tables c.begin.new.b in
                let s2 : State = state_of g.U.ReadsUnit.tables c.lower_block.new.builder in
                let b2 : State = state_of g.U.ReadsUnit.tables c.catch.new.b in
                inside (seen c.args.names.now) (syntax c.args.block.tree.now) s b2
                (caught_arounds (try_of c.in_ok-frame.frame) c.args.there.span s2 b2 c.in_ok-catch.ensures.state
                ∙ statement_arounds c.in_ok-lower_block.ensures.lowered.by ∙ plain_arounds s b c.in_ok-frame.ensures.state)
                c.requires.may.3,
            let block : ℕ = nodes (syntax c.args.block.tree.now) in
                let body : ℕ = nodes (syntax c.args.body.tree.now) in
                let s : State = state_of g.U.ReadsUnit.tables c.args.builder.now in
                let b : State = state_of g.U.ReadsUnit.tables c.begin.new.b in
                let s2 : State = state_of g.U.ReadsUnit.tables c.lower_block.new.builder in
                let f : TryParts = try_of c.in_ok-frame.frame in
                let room : HasRoom b (share body + (share block + 62)) =
                moved_room s (try_started s None) b 2 (share body + (share block + 62)) (share (block + (0 + (body + 0) + 1 + (0 + 0)) + 1))
                c.in_ok-frame.ensures.state (try_started_size s) (omega arith) c.requires.room in
                moved_room s2 (try_caught f s2 c.args.there.span) _ 1 (share block) (share block + 62) c.in_ok-catch.ensures.state
                (try_caught_size f s2 c.args.there.span) (omega arith)
                (room_after b s2 (share body) (share block + 62) (share body + (share block + 62)) c.in_ok-lower_block.ensures.lowered.size
                (omega arith) room),
          ),
        ),
      ),
    )

pub try_statement::lower_try_plain-finish-requires : goal.try_statement::lower_try_plain-finish-requires
try_statement::lower_try_plain-finish-requires g t c =
    record {
      handler = handler_kept (try_of c.in_ok-frame.frame) c.args.there.span (state_of g.U.ReadsUnit.tables c.lower_block.new.builder) _ _
          c.in_ok-catch.ensures.state c.in_ok-lower_block-2.ensures.lowered;
    }

pub try_statement::lower_try_plain-returns-clause-lowered : goal.try_statement::lower_try_plain-returns-clause-lowered
try_statement::lower_try_plain-returns-clause-lowered g t c =
    try_plain_told (try_of c.catch.new.self) _ c.span_of.ensures c.in_ok-frame.ensures.frame c.in_ok-frame.ensures.state
    c.in_ok-lower_block.ensures.lowered c.in_ok-catch.ensures.state c.in_ok-catch.ensures.frame c.in_ok-lower_block-2.ensures.lowered
    c.in_ok-finish.ensures.state

pub try_statement::lower_try_bound-store_caught-requires-clause-names
    : goal.try_statement::lower_try_bound-store_caught-requires-clause-names
try_statement::lower_try_bound-store_caught-requires-clause-names g t c =
    front_named (state_of g.U.ReadsUnit.tables c.args.builder.now) (state_of g.U.ReadsUnit.tables c.make_promoted.new.builder) _
    c.in_ok-value.ensures.state c.in_ok-value.ensures.place c.in_ok-frame.ensures.state c.requires.names

pub try_statement::lower_try_bound-store_caught-requires-clause-room : goal.try_statement::lower_try_bound-store_caught-requires-clause-room
try_statement::lower_try_bound-store_caught-requires-clause-room g t c =
    let block : ℕ = nodes (syntax c.args.block.tree.now) in
    let param : ℕ = nodes (seen_binding_identifier c.args.bind.now) in
    let body : ℕ = nodes (syntax c.args.body.tree.now) in
    bound_front_room c.in_ok-value.value c.args.bind.now.at.span (state_of g.U.ReadsUnit.tables c.args.builder.now)
    (state_of g.U.ReadsUnit.tables c.make_promoted.new.builder) _
    6 (share (block + (param + (body + 0) + 1 + (0 + 0)) + 1)) c.in_ok-value.ensures.state c.in_ok-frame.ensures.state (omega arith)
    c.requires.room

pub try_statement::lower_try_bound-lower_block-requires : goal.try_statement::lower_try_bound-lower_block-requires
try_statement::lower_try_bound-lower_block-requires g t c =
    λ lifetimes outlives. (
      search rules,
      (
        search rules,
        (
          c.in_ok-store_caught.ensures.stored.named,
          (
            let s : State = state_of g.U.ReadsUnit.tables c.args.builder.now in
                let s1 : State = state_of g.U.ReadsUnit.tables c.make_promoted.new.builder in
                let b0 : State = state_of g.U.ReadsUnit.tables c.begin.new.b in
                let b1 : State = state_of g.U.ReadsUnit.tables c.store_caught.new.builder in
                inside (seen c.args.names.now) (syntax c.args.body.tree.now) s b1
                (stored_arounds s s1 b0 b1 c.in_ok-store_caught.ensures.stored c.in_ok-value.ensures.state c.in_ok-value.ensures.place
                c.in_ok-frame.ensures.state)
                c.requires.may.2,
            let block : ℕ = nodes (syntax c.args.block.tree.now) in
                let param : ℕ = nodes (seen_binding_identifier c.args.bind.now) in
                let body : ℕ = nodes (syntax c.args.body.tree.now) in
                bound_room c.in_ok-value.value c.args.bind.now.at.span (state_of g.U.ReadsUnit.tables c.args.builder.now)
                (state_of g.U.ReadsUnit.tables c.make_promoted.new.builder)
                (state_of g.U.ReadsUnit.tables c.begin.new.b) (state_of g.U.ReadsUnit.tables c.store_caught.new.builder)
                (share body) (share (block + (param + (body + 0) + 1 + (0 + 0)) + 1)) c.in_ok-value.ensures.state
                c.in_ok-frame.ensures.state c.in_ok-store_caught.ensures.stored (omega arith) c.requires.room,
          ),
        ),
      ),
    )

pub try_statement::lower_try_bound-catch-requires : goal.try_statement::lower_try_bound-catch-requires
try_statement::lower_try_bound-catch-requires g t c =
    let block : ℕ = nodes (syntax c.args.block.tree.now) in
    let param : ℕ = nodes (seen_binding_identifier c.args.bind.now) in
    let body : ℕ = nodes (syntax c.args.body.tree.now) in
    let b1 : State = state_of g.U.ReadsUnit.tables c.store_caught.new.builder in
    let s2 : State = state_of g.U.ReadsUnit.tables c.lower_block.new.builder in
    let room : HasRoom b1 (share body + (share block + 40)) =
    bound_room c.in_ok-value.value c.args.bind.now.at.span (state_of g.U.ReadsUnit.tables c.args.builder.now)
    (state_of g.U.ReadsUnit.tables c.make_promoted.new.builder)
    (state_of g.U.ReadsUnit.tables c.begin.new.b) b1 (share body + (share block + 40))
    (share (block + (param + (body + 0) + 1 + (0 + 0)) + 1))
    c.in_ok-value.ensures.state c.in_ok-frame.ensures.state c.in_ok-store_caught.ensures.stored (omega arith) c.requires.room in
    let room2 : HasRoom s2 (share block + 40) =
    room_after b1 s2 (share body) (share block + 40) (share body + (share block + 40)) c.in_ok-lower_block.ensures.lowered.size
    (omega arith) room in
    record { blocks = omega (arith, room2) }

pub try_statement::lower_try_bound-lower_block-requires-2 : goal.try_statement::lower_try_bound-lower_block-requires-2
try_statement::lower_try_bound-lower_block-requires-2 g t c =
    λ lifetimes outlives. (
      search rules,
      (
        search rules,
        (
          let s2 : State = state_of g.U.ReadsUnit.tables c.lower_block.new.builder in
              let f : TryParts = try_of c.in_ok-frame.frame in
              moved_named s2 (try_caught f s2 c.args.there.span) _ c.in_ok-catch.ensures.state
              (names_same s2 (try_caught f s2 c.args.there.span) refl)
              (c.in_ok-lower_block.ensures.lowered.named c.in_ok-store_caught.ensures.stored.named),
          (
            let s : State = state_of g.U.ReadsUnit.tables c.args.builder.now in
                let s1 : State = state_of g.U.ReadsUnit.tables c.make_promoted.new.builder in
                let b0 : State = state_of g.U.ReadsUnit.tables c.begin.new.b in
                let b1 : State = state_of g.U.ReadsUnit.tables c.store_caught.new.builder in
                let s2 : State = state_of g.U.ReadsUnit.tables c.lower_block.new.builder in
                let b2 : State = state_of g.U.ReadsUnit.tables c.catch.new.b in
                inside (seen c.args.names.now) (syntax c.args.block.tree.now) s b2
                (caught_arounds (try_of c.in_ok-frame.frame) c.args.there.span s2 b2 c.in_ok-catch.ensures.state
                ∙ statement_arounds c.in_ok-lower_block.ensures.lowered.by
                ∙ stored_arounds s s1 b0 b1 c.in_ok-store_caught.ensures.stored c.in_ok-value.ensures.state c.in_ok-value.ensures.place
                c.in_ok-frame.ensures.state)
                c.requires.may.3,
            let block : ℕ = nodes (syntax c.args.block.tree.now) in
                let param : ℕ = nodes (seen_binding_identifier c.args.bind.now) in
                let body : ℕ = nodes (syntax c.args.body.tree.now) in
                let b1 : State = state_of g.U.ReadsUnit.tables c.store_caught.new.builder in
                let s2 : State = state_of g.U.ReadsUnit.tables c.lower_block.new.builder in
                let f : TryParts = try_of c.in_ok-frame.frame in
                let room : HasRoom b1 (share body + (share block + 40)) =
                bound_room c.in_ok-value.value c.args.bind.now.at.span (state_of g.U.ReadsUnit.tables c.args.builder.now)
                (state_of g.U.ReadsUnit.tables c.make_promoted.new.builder)
                (state_of g.U.ReadsUnit.tables c.begin.new.b) b1 (share body + (share block + 40))
                (share (block + (param + (body + 0) + 1 + (0 + 0)) + 1))
                c.in_ok-value.ensures.state c.in_ok-frame.ensures.state c.in_ok-store_caught.ensures.stored (omega arith) c.requires.room in
                moved_room s2 (try_caught f s2 c.args.there.span) _ 1 (share block) (share block + 40) c.in_ok-catch.ensures.state
                (try_caught_size f s2 c.args.there.span) (omega arith)
                (room_after b1 s2 (share body) (share block + 40) (share body + (share block + 40)) c.in_ok-lower_block.ensures.lowered.size
                (omega arith) room),
          ),
        ),
      ),
    )

pub try_statement::lower_try_bound-finish-requires : goal.try_statement::lower_try_bound-finish-requires
try_statement::lower_try_bound-finish-requires g t c =
    record {
      handler = handler_kept (try_of c.in_ok-frame.frame) c.args.there.span (state_of g.U.ReadsUnit.tables c.lower_block.new.builder) _ _
          c.in_ok-catch.ensures.state c.in_ok-lower_block-2.ensures.lowered;
    }

pub try_statement::lower_try_bound-returns-clause-lowered : goal.try_statement::lower_try_bound-returns-clause-lowered
try_statement::lower_try_bound-returns-clause-lowered g t c =
    try_bound_told (try_of c.catch.new.self) _ (annotation_fits (λ t. syntax t.tree.now) c.args.bind.now.annotation (λ t. t.fit))
    c.span_of.ensures c.in_ok-value.ensures.state c.in_ok-value.ensures.place c.in_ok-frame.ensures.frame c.in_ok-frame.ensures.state
    c.in_ok-store_caught.ensures.stored c.in_ok-lower_block.ensures.lowered c.in_ok-catch.ensures.state c.in_ok-catch.ensures.frame
    c.in_ok-lower_block-2.ensures.lowered c.in_ok-finish.ensures.state

pub try_statement::lower_caught-lower_try_bound-requires : goal.try_statement::lower_caught-lower_try_bound-requires
try_statement::lower_caught-lower_try_bound-requires g t c =
    λ lifetimes outlives. (
      search rules,
      (
        search rules,
        (
          search rules,
          (
            clause_may (seen c.args.names.now) c.args.at c.args.clause.at (syntax c.args.block.tree.now)
                (syntax c.args.clause.body.tree.now)
                (arounds (state_of g.U.ReadsUnit.tables c.args.builder.now))
                (c.binding_identifier_view-bind.ensures ∙ c.in-Identifier.ensures
                ∙ sym (ap (λ param. maybe param (λ t. syntax t.tree.now)) c.in-Some.is)) c.requires.may,
            clause_room c.args.at c.args.clause.at (syntax c.args.block.tree.now) (syntax c.args.clause.body.tree.now)
                (state_of g.U.ReadsUnit.tables c.args.builder.now)
                (c.binding_identifier_view-bind.ensures ∙ c.in-Identifier.ensures
                ∙ sym (ap (λ param. maybe param (λ t. syntax t.tree.now)) c.in-Some.is)) c.requires.room,
          ),
        ),
      ),
    )

pub try_statement::lower_caught-returns-in-Identifier-clause-lowered : goal.try_statement::lower_caught-returns-in-Identifier-clause-lowered
try_statement::lower_caught-returns-in-Identifier-clause-lowered g t c =
    caught_ok (seen c.args.names.now) c.args.at c.args.clause.at (syntax c.args.block.tree.now) (syntax c.args.clause.body.tree.now) _ _
    c.lower_try_bound.result
    (c.binding_identifier_view-bind.ensures ∙ c.in-Identifier.ensures
    ∙ sym (ap (λ param. maybe param (λ t. syntax t.tree.now)) c.in-Some.is)) c.lower_try_bound.ensures.lowered

pub try_statement::lower_caught-unreachable-requires : goal.try_statement::lower_caught-unreachable-requires
try_statement::lower_caught-unreachable-requires g t c =
    never_apart (c.in-Array.ensures ∙ sym (ap (λ param. maybe param (λ t. syntax t.tree.now)) c.in-Some.is)) refl c.requires.may.0

pub try_statement::lower_caught-unreachable-requires-in-Object : goal.try_statement::lower_caught-unreachable-requires-in-Object
try_statement::lower_caught-unreachable-requires-in-Object g t c =
    never_apart (c.in-Object.ensures ∙ sym (ap (λ param. maybe param (λ t. syntax t.tree.now)) c.in-Some.is)) refl c.requires.may.0

pub try_statement::lower_caught-lower_try_plain-requires : goal.try_statement::lower_caught-lower_try_plain-requires
try_statement::lower_caught-lower_try_plain-requires g t c =
    λ lifetimes outlives. (
      search rules,
      (
        search rules,
        (
          search rules,
          (
            clause_may (seen c.args.names.now) c.args.at c.args.clause.at (syntax c.args.block.tree.now)
                (syntax c.args.clause.body.tree.now)
                (arounds (state_of g.U.ReadsUnit.tables c.args.builder.now))
                (sym (ap (λ param. maybe param (λ t. syntax t.tree.now)) c.in-None.is)) c.requires.may,
            clause_room c.args.at c.args.clause.at (syntax c.args.block.tree.now) (syntax c.args.clause.body.tree.now)
                (state_of g.U.ReadsUnit.tables c.args.builder.now)
                (sym (ap (λ param. maybe param (λ t. syntax t.tree.now)) c.in-None.is)) c.requires.room,
          ),
        ),
      ),
    )

pub try_statement::lower_caught-returns-in-None-clause-lowered : goal.try_statement::lower_caught-returns-in-None-clause-lowered
try_statement::lower_caught-returns-in-None-clause-lowered g t c =
    caught_ok (seen c.args.names.now) c.args.at c.args.clause.at (syntax c.args.block.tree.now) (syntax c.args.clause.body.tree.now) _ _
    c.lower_try_plain.result (sym (ap (λ param. maybe param (λ t. syntax t.tree.now)) c.in-None.is)) c.lower_try_plain.ensures.lowered

pub try_statement::lower_try-lower_caught-requires : goal.try_statement::lower_try-lower_caught-requires
try_statement::lower_try-lower_caught-requires g t c =
    λ lifetimes outlives. (
      search rules,
      (
        search rules,
        (
          finalizer_named (maybe c.args.finalizer (λ t. syntax t.tree.now)) (state_of g.U.ReadsUnit.tables c.args.builder.now) _
              c.args.at.span
              c.in_ok-note_finalizer-in-Some.ensures.state c.requires.names,
          (
            let s : State = state_of g.U.ReadsUnit.tables c.args.builder.now in
                let b : State = state_of g.U.ReadsUnit.tables c.note_finalizer.new.builder in
                caught_may (seen c.args.names.now) c.args.at (syntax c.args.block.tree.now)
                (maybe c.args.finalizer (λ t. syntax t.tree.now)) s b
                (c.catch_clause_view-clause.ensures ∙ sym (ap (λ handler. maybe handler (λ t. syntax t.tree.now)) c.in-Some.is))
                (finalizer_arounds (maybe c.args.finalizer (λ t. syntax t.tree.now)) s b c.args.at.span
                c.in_ok-note_finalizer-in-Some.ensures.state)
                c.requires.may,
            caught_room c.args.at (syntax c.args.block.tree.now) (maybe c.args.finalizer (λ t. syntax t.tree.now))
                (state_of g.U.ReadsUnit.tables c.args.builder.now) _
                (c.catch_clause_view-clause.ensures ∙ sym (ap (λ handler. maybe handler (λ t. syntax t.tree.now)) c.in-Some.is))
                c.in_ok-note_finalizer-in-Some.ensures.state c.requires.room,
          ),
        ),
      ),
    )

pub try_statement::lower_try-returns-in_ok-note_finalizer-in-Some-clause-lowered
    : goal.try_statement::lower_try-returns-in_ok-note_finalizer-in-Some-clause-lowered
try_statement::lower_try-returns-in_ok-note_finalizer-in-Some-clause-lowered g t c =
    finalized_ok (seen c.args.names.now) c.args.at (syntax c.args.block.tree.now) (maybe c.args.finalizer (λ t. syntax t.tree.now)) _ _
    c.lower_caught.result
    (c.catch_clause_view-clause.ensures ∙ sym (ap (λ handler. maybe handler (λ t. syntax t.tree.now)) c.in-Some.is))
    c.in_ok-note_finalizer-in-Some.ensures.state c.lower_caught.ensures.lowered

pub try_statement::lower_try-returns-in_ok-refuse-in-None-clause-lowered
    : goal.try_statement::lower_try-returns-in_ok-refuse-in-None-clause-lowered
try_statement::lower_try-returns-in_ok-refuse-in-None-clause-lowered g t c =
    uncaught_told _ (sym (ap (λ handler. maybe handler (λ t. syntax t.tree.now)) c.in-None.is)) c.in_ok-refuse-in-None.ensures.state
