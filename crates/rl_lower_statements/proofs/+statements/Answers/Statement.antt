use Rattle.std.proofs.Common.{rules, ◌≡◌, ℕ, ◌+◌, true, false, true≢false, List, None, map, refl, ap, sym, ◌∙◌, subst}
use Rattle.std.proofs.Common.{arith}
use Rattle.rl_ast.specs.StatementViews.{seen_statement}
use Rattle.rl_ast.specs.declared.statement.Statement.{Statement}
use Rattle.rl_ast.specs.declared.statement.Statement.TheVariants as statement
use Rattle.rl_builder.specs.Builder.{State, state_of}
use Rattle.rl_frames.specs.Frames.{if_of}
use Rattle.rl_lowered.proofs.Arounds.{statement_arounds}
use Rattle.rl_lowered.proofs.Told.{told_statements}
use Rattle.rl_lowered.specs.Arounds.{arounds}
use Rattle.rl_lowered.specs.Promised.{HasRoom, share}
use Rattle.rl_names.specs.Seen.{seen}
use Rattle.rl_promises.specs.Jumps.{Around}
use Rattle.rl_promises.specs.Lowerable.{AreLowerableIn, IsLowerableIn}
use Rattle.rl_syntax.specs.Syntax.{Syntax, Pieces, Then, nodes, nodes_of, pieces_of, syntax}
use Rattle.rl_lower_parts.proofs.Derivations.{room_after}
use Rattle.rl_lower_statements.proofs.LoopDerivations.{break_may, continue_may}
use Rattle.rl_lower_statements.proofs.LoopDerivations.{if_consequent_arounds, inside}
use Rattle.rl_lower_statements.proofs.LoopDerivations.{jump_ok}
use Rattle.rl_lower_statements.proofs.LoopDerivations.{unlabeled_loop_ok}
use Rattle.rl_lower_statements.proofs.StatementDerivations.{block_ok, debugger_told, empty_told, expression_told, function_unlowered}
use Rattle.rl_lower_statements.proofs.StatementDerivations.{if_alternate_named, if_alternate_room, if_begun_named, if_begun_room}
use Rattle.rl_lower_statements.proofs.StatementDerivations.{if_consequent_named, if_consequent_room, if_else_told, if_second_room}
use Rattle.rl_lower_statements.proofs.StatementDerivations.{if_then_told, if_third_room, statements_done, statements_next}
use Rattle.rl_lower_statements.proofs.TryDerivations.{with_told}
use Rattle.rl_lower_statements.proofs.+statements.Goals as goal

pub statement::lower_statement-returns-in-Empty-clause-lowered : goal.statement::lower_statement-returns-in-Empty-clause-lowered
statement::lower_statement-returns-in-Empty-clause-lowered g t c = empty_told c.in-Empty.ensures

pub statement::lower_statement-returns-in_ok-lower_value_to_temporary-in-Debugger-clause-lowered :
    goal.statement::lower_statement-returns-in_ok-lower_value_to_temporary-in-Debugger-clause-lowered
statement::lower_statement-returns-in_ok-lower_value_to_temporary-in-Debugger-clause-lowered g t c =
    debugger_told _ c.in-Debugger.ensures c.in_ok-lower_value_to_temporary-in-Debugger.ensures.state

pub statement::lower_statement-returns-in_ok-lower_expression-in-Expression-clause-lowered :
    goal.statement::lower_statement-returns-in_ok-lower_expression-in-Expression-clause-lowered
statement::lower_statement-returns-in_ok-lower_expression-in-Expression-clause-lowered g t c =
    expression_told c.in-Expression.ensures c.in_ok-lower_expression-in-Expression.ensures.lowered

pub statement::lower_block-returns-clause-lowered : goal.statement::lower_block-returns-clause-lowered
statement::lower_block-returns-clause-lowered g t c =
    block_ok (seen c.args.names.now) _ _ c.lower_statements.result c.block_statement_view-block.ensures c.lower_statements.ensures.lowered

pub statement::lower_statement-returns-in_ok-refuse-in-With-clause-lowered
    : goal.statement::lower_statement-returns-in_ok-refuse-in-With-clause-lowered
statement::lower_statement-returns-in_ok-refuse-in-With-clause-lowered g t c =
    with_told _ c.in-With.ensures c.in_ok-refuse-in-With.ensures.state

pub statement::lower_statement-lower_break-requires-clause-may : goal.statement::lower_statement-lower_break-requires-clause-may
statement::lower_statement-lower_break-requires-clause-may g t c =
    break_may (seen c.args.names.now) (arounds (state_of g.U.ReadsUnit.tables c.args.builder.now)) c.in-Break.at c.in-Break.label
    c.in-Break.ensures c.requires.may

pub statement::lower_statement-lower_continue-requires-clause-may : goal.statement::lower_statement-lower_continue-requires-clause-may
statement::lower_statement-lower_continue-requires-clause-may g t c =
    continue_may (seen c.args.names.now) (arounds (state_of g.U.ReadsUnit.tables c.args.builder.now)) c.in-Continue.at c.in-Continue.label
    c.in-Continue.ensures c.requires.may

pub statement::lower_statement-returns-in-Break-clause-lowered : goal.statement::lower_statement-returns-in-Break-clause-lowered
statement::lower_statement-returns-in-Break-clause-lowered g t c =
    jump_ok (seen c.args.names.now) _ _ c.lower_break.result c.in-Break.ensures c.lower_break.ensures.lowered

pub statement::lower_statement-returns-in-Continue-clause-lowered : goal.statement::lower_statement-returns-in-Continue-clause-lowered
statement::lower_statement-returns-in-Continue-clause-lowered g t c =
    jump_ok (seen c.args.names.now) _ _ c.lower_continue.result c.in-Continue.ensures c.lower_continue.ensures.lowered

pub statement::lower_statement-unreachable-requires : goal.statement::lower_statement-unreachable-requires
statement::lower_statement-unreachable-requires g t c = by_kind c.statement_view.result refl c.statement_view.ensures
  where
    by_kind : (v : Statement) → c.statement_view.result ≡ v → seen_statement v ≡ syntax c.args.statement.tree.now → ⊥
    by_kind (statement.Empty at) is shown = c.in_default.not-Empty at is
    by_kind (statement.Debugger at) is shown = c.in_default.not-Debugger at is
    by_kind (statement.Expression at e) is shown = c.in_default.not-Expression at e is
    by_kind (statement.Return at a) is shown = c.in_default.not-Return at a is
    by_kind (statement.Throw at a) is shown = c.in_default.not-Throw at a is
    by_kind (statement.Block b) is shown = c.in_default.not-Block b is
    by_kind (statement.If at p q r) is shown = c.in_default.not-If at p q r is
    by_kind (statement.For at i p u b) is shown = c.in_default.not-For at i p u b is
    by_kind (statement.While at p b) is shown = c.in_default.not-While at p b is
    by_kind (statement.DoWhile at b p) is shown = c.in_default.not-DoWhile at b p is
    by_kind (statement.ForIn at h r b) is shown = c.in_default.not-ForIn at h r b is
    by_kind (statement.ForOf at w h r b) is shown = c.in_default.not-ForOf at w h r b is
    by_kind (statement.Switch at d k) is shown = c.in_default.not-Switch at d k is
    by_kind (statement.Try at b h f) is shown = c.in_default.not-Try at b h f is
    by_kind (statement.With at o b) is shown = c.in_default.not-With at o b is
    by_kind (statement.Break at l) is shown = c.in_default.not-Break at l is
    by_kind (statement.Continue at l) is shown = c.in_default.not-Continue at l is
    by_kind (statement.Labeled at l b) is shown = c.in_default.not-Labeled at l b is
    by_kind (statement.Variables d) is shown = c.in_default.not-Variables d is
    by_kind (statement.Function inner) is shown =
        function_unlowered (seen c.args.names.now) (arounds (state_of g.U.ReadsUnit.tables c.args.builder.now)) (syntax inner.tree.now)
        inner.fit
        (subst (IsLowerableIn (seen c.args.names.now) (arounds (state_of g.U.ReadsUnit.tables c.args.builder.now)) None) (sym shown)
        c.requires.may)
    by_kind v is shown =
        true≢false
        (sym (subst (IsLowerableIn (seen c.args.names.now) (arounds (state_of g.U.ReadsUnit.tables c.args.builder.now)) None) (sym shown)
        c.requires.may).0)

pub statement::lower_statement-returns-in-While-clause-lowered : goal.statement::lower_statement-returns-in-While-clause-lowered
statement::lower_statement-returns-in-While-clause-lowered g t c =
    unlabeled_loop_ok (seen c.args.names.now) _ _ _ c.lower_loop.result c.lower_loop.ensures.lowered

pub statement::lower_statement-returns-in-DoWhile-clause-lowered : goal.statement::lower_statement-returns-in-DoWhile-clause-lowered
statement::lower_statement-returns-in-DoWhile-clause-lowered g t c =
    unlabeled_loop_ok (seen c.args.names.now) _ _ _ c.lower_loop-in-DoWhile.result c.lower_loop-in-DoWhile.ensures.lowered

pub statement::lower_statement-returns-in-For-clause-lowered : goal.statement::lower_statement-returns-in-For-clause-lowered
statement::lower_statement-returns-in-For-clause-lowered g t c =
    unlabeled_loop_ok (seen c.args.names.now) _ _ _ c.lower_loop-in-For.result c.lower_loop-in-For.ensures.lowered

pub statement::lower_statement-returns-in-ForIn-clause-lowered : goal.statement::lower_statement-returns-in-ForIn-clause-lowered
statement::lower_statement-returns-in-ForIn-clause-lowered g t c =
    unlabeled_loop_ok (seen c.args.names.now) _ _ _ c.lower_loop-in-ForIn.result c.lower_loop-in-ForIn.ensures.lowered

pub statement::lower_statement-returns-in-ForOf-clause-lowered : goal.statement::lower_statement-returns-in-ForOf-clause-lowered
statement::lower_statement-returns-in-ForOf-clause-lowered g t c =
    unlabeled_loop_ok (seen c.args.names.now) _ _ _ c.lower_loop-in-ForOf.result c.lower_loop-in-ForOf.ensures.lowered

-- Statements in order.

pub statement::lower_statements-statements-preserved : goal.statement::lower_statements-statements-preserved
statement::lower_statements-statements-preserved g t c =
    let loop = c.statements.invariant in
    let now : State = state_of g.U.ReadsUnit.tables c.statements.builder in
    let later : State = state_of g.U.ReadsUnit.tables c.lower_statement.new.builder in
    let lowered = c.in_ok-lower_statement.ensures.lowered in
    let left : Pieces = pieces_of (map syntax c.statements.left.trees.now) in
    let rest : Pieces = pieces_of (map syntax c.in-Some.rest.trees.now) in
    let first : Syntax = syntax c.in-Some.statement.tree.now in
    let split : left ≡ Then first rest = c.in-Some.ensures in
    let counted : nodes_of left ≡ nodes first + nodes_of rest = ap nodes_of split in
    record {
      same_reference = c.in_ok-lower_statement.ensures.same_reference ∙ loop.same_reference;
      names = lowered.named loop.names;
      may = subst (λ (a : List Around). AreLowerableIn (seen c.args.names.now) a rest) (sym (statement_arounds lowered.by))
          (subst (AreLowerableIn (seen c.args.names.now) (arounds now)) split loop.may).1;
      room = room_after now later (share (nodes first)) (share (nodes_of rest)) (share (nodes_of left)) lowered.size
          (omega (arith, counted)) loop.room;
      fewer = omega (arith, counted, loop.fewer);
      lowers = λ new more. loop.lowers new (statements_next split lowered more);
    }

pub statement::lower_statements-returns-clause-lowered : goal.statement::lower_statements-returns-clause-lowered
statement::lower_statements-returns-clause-lowered g t c =
    told_statements (c.statements.invariant.lowers _ (statements_done c.in_default.ensures))

-- Frames.

pub statement::lower_if_then-lower_statement-requires : goal.statement::lower_if_then-lower_statement-requires
statement::lower_if_then-lower_statement-requires g t c =
    let consequent : ℕ = nodes (syntax c.args.consequent.tree.now) in
    let s : State = state_of g.U.ReadsUnit.tables c.args.builder.now in
    let b : State = state_of g.U.ReadsUnit.tables c.begin.new.b in
    λ lifetimes outlives. (
      search rules,
      (
        search rules,
        (
          if_begun_named s b c.in_ok-frame.ensures.state c.requires.names,
          (
            inside (seen c.args.names.now) (syntax c.args.consequent.tree.now) s b (ap arounds c.in_ok-frame.ensures.state)
                c.requires.may.1,
            if_begun_room s b (share consequent)
                (share ((nodes (syntax c.args.test.tree.now)) + (consequent + (0 + 0)) + 1)) c.in_ok-frame.ensures.state (omega arith)
                c.requires.room,
          ),
        ),
      ),
    )

pub statement::lower_if_then-lower_expression-requires-clause-names : goal.statement::lower_if_then-lower_expression-requires-clause-names
statement::lower_if_then-lower_expression-requires-clause-names g t c =
    let s : State = state_of g.U.ReadsUnit.tables c.args.builder.now in
    let b : State = state_of g.U.ReadsUnit.tables c.begin.new.b in
    let s2 : State = state_of g.U.ReadsUnit.tables c.lower_statement.new.builder in
    let b2 : State = state_of g.U.ReadsUnit.tables c.consequent.new.b in
    if_consequent_named c.args.at.span false (if_of c.in_ok-frame.frame) s s2 b2 c.span_of.result c.in_ok-frame.ensures.frame
    c.in_ok-consequent.ensures.state
    (c.in_ok-lower_statement.ensures.lowered.named (if_begun_named s b c.in_ok-frame.ensures.state c.requires.names))

pub statement::lower_if_then-lower_expression-requires-clause-room : goal.statement::lower_if_then-lower_expression-requires-clause-room
statement::lower_if_then-lower_expression-requires-clause-room g t c =
    let test : ℕ = nodes (syntax c.args.test.tree.now) in
    let s : State = state_of g.U.ReadsUnit.tables c.args.builder.now in
    let b : State = state_of g.U.ReadsUnit.tables c.begin.new.b in
    let s2 : State = state_of g.U.ReadsUnit.tables c.lower_statement.new.builder in
    let b2 : State = state_of g.U.ReadsUnit.tables c.consequent.new.b in
    let second : HasRoom s2 (share (0 + 0) + (share test + 62)) =
    if_second_room test (nodes (syntax c.args.consequent.tree.now)) (0 + 0) s b s2 c.in_ok-frame.ensures.state
    c.in_ok-lower_statement.ensures.lowered.size c.requires.room in
    if_consequent_room (if_of c.in_ok-frame.frame) s2 b2 c.span_of.result (share test) (share (0 + 0) + (share test + 62))
    c.in_ok-consequent.ensures.state (omega arith) second

pub statement::lower_if_then-returns-clause-lowered : goal.statement::lower_if_then-returns-clause-lowered
statement::lower_if_then-returns-clause-lowered g t c =
    if_then_told (if_of c.consequent.new.self) _ c.span_of.ensures c.in_ok-frame.ensures.frame c.in_ok-frame.ensures.state
    c.in_ok-lower_statement.ensures.lowered c.in_ok-consequent.ensures.state c.in_ok-consequent.ensures.frame
    c.in_ok-test.ensures.lowered c.in_ok-finish.ensures.state

pub statement::lower_if_else-lower_statement-requires : goal.statement::lower_if_else-lower_statement-requires
statement::lower_if_else-lower_statement-requires g t c =
    let consequent : ℕ = nodes (syntax c.args.consequent.tree.now) in
    let s : State = state_of g.U.ReadsUnit.tables c.args.builder.now in
    let b : State = state_of g.U.ReadsUnit.tables c.begin.new.b in
    λ lifetimes outlives. (
      search rules,
      (
        search rules,
        (
          if_begun_named s b c.in_ok-frame.ensures.state c.requires.names,
          (
            inside (seen c.args.names.now) (syntax c.args.consequent.tree.now) s b (ap arounds c.in_ok-frame.ensures.state)
                c.requires.may.1,
            if_begun_room s b (share consequent)
                (share ((nodes (syntax c.args.test.tree.now)) + (consequent + ((nodes (syntax c.args.alternate.tree.now)) + 0)) + 1))
                c.in_ok-frame.ensures.state (omega arith) c.requires.room,
          ),
        ),
      ),
    )

pub statement::lower_if_else-lower_statement-requires-2 : goal.statement::lower_if_else-lower_statement-requires-2
statement::lower_if_else-lower_statement-requires-2 g t c =
    let test : ℕ = nodes (syntax c.args.test.tree.now) in
    let alternate : ℕ = nodes (syntax c.args.alternate.tree.now) in
    let s : State = state_of g.U.ReadsUnit.tables c.args.builder.now in
    let b : State = state_of g.U.ReadsUnit.tables c.begin.new.b in
    let s2 : State = state_of g.U.ReadsUnit.tables c.lower_statement.new.builder in
    let b2 : State = state_of g.U.ReadsUnit.tables c.consequent.new.b in
    let second : HasRoom s2 (share (alternate + 0) + (share test + 62)) =
    if_second_room test (nodes (syntax c.args.consequent.tree.now)) (alternate + 0) s b s2 c.in_ok-frame.ensures.state
    c.in_ok-lower_statement.ensures.lowered.size c.requires.room in
    λ lifetimes outlives. (
      search rules,
      (
        search rules,
        (
          if_consequent_named c.args.at.span true (if_of c.in_ok-frame.frame) s s2 b2 c.span_of.result c.in_ok-frame.ensures.frame
              c.in_ok-consequent.ensures.state
              (c.in_ok-lower_statement.ensures.lowered.named (if_begun_named s b c.in_ok-frame.ensures.state c.requires.names)),
          (
            inside (seen c.args.names.now) (syntax c.args.alternate.tree.now) s b2
                (if_consequent_arounds c.span_of.result s s2 b2 c.in_ok-frame.ensures.frame c.in_ok-consequent.ensures.state
                ∙ statement_arounds c.in_ok-lower_statement.ensures.lowered.by ∙ ap arounds c.in_ok-frame.ensures.state)
                c.requires.may.2,
            if_consequent_room (if_of c.in_ok-frame.frame) s2 b2 c.span_of.result (share alternate)
                (share (alternate + 0) + (share test + 62)) c.in_ok-consequent.ensures.state (omega arith) second,
          ),
        ),
      ),
    )

pub statement::lower_if_else-lower_expression-requires-clause-names : goal.statement::lower_if_else-lower_expression-requires-clause-names
statement::lower_if_else-lower_expression-requires-clause-names g t c =
    let s : State = state_of g.U.ReadsUnit.tables c.args.builder.now in
    let b : State = state_of g.U.ReadsUnit.tables c.begin.new.b in
    let s2 : State = state_of g.U.ReadsUnit.tables c.lower_statement.new.builder in
    let b2 : State = state_of g.U.ReadsUnit.tables c.consequent.new.b in
    let s3 : State = state_of g.U.ReadsUnit.tables c.lower_statement-2.new.builder in
    let b3 : State = state_of g.U.ReadsUnit.tables c.alternate.new.b in
    if_alternate_named (if_of c.consequent.new.self) s3 b3 c.span_of-2.result c.in_ok-alternate.ensures.state
    (c.in_ok-lower_statement-2.ensures.lowered.named (if_consequent_named c.args.at.span true (if_of c.in_ok-frame.frame) s s2 b2
    c.span_of.result c.in_ok-frame.ensures.frame c.in_ok-consequent.ensures.state
    (c.in_ok-lower_statement.ensures.lowered.named (if_begun_named s b c.in_ok-frame.ensures.state c.requires.names))))

pub statement::lower_if_else-lower_expression-requires-clause-room : goal.statement::lower_if_else-lower_expression-requires-clause-room
statement::lower_if_else-lower_expression-requires-clause-room g t c =
    let test : ℕ = nodes (syntax c.args.test.tree.now) in
    let alternate : ℕ = nodes (syntax c.args.alternate.tree.now) in
    let s : State = state_of g.U.ReadsUnit.tables c.args.builder.now in
    let b : State = state_of g.U.ReadsUnit.tables c.begin.new.b in
    let s2 : State = state_of g.U.ReadsUnit.tables c.lower_statement.new.builder in
    let b2 : State = state_of g.U.ReadsUnit.tables c.consequent.new.b in
    let s3 : State = state_of g.U.ReadsUnit.tables c.lower_statement-2.new.builder in
    let b3 : State = state_of g.U.ReadsUnit.tables c.alternate.new.b in
    let second : HasRoom s2 (share (alternate + 0) + (share test + 62)) =
    if_second_room test (nodes (syntax c.args.consequent.tree.now)) (alternate + 0) s b s2 c.in_ok-frame.ensures.state
    c.in_ok-lower_statement.ensures.lowered.size c.requires.room in
    if_alternate_room (if_of c.consequent.new.self) s3 b3 c.span_of-2.result (share test) (share test + 61) c.in_ok-alternate.ensures.state
    (omega arith)
    (if_third_room test alternate (if_of c.in_ok-frame.frame) s2 b2 s3 c.span_of.result c.in_ok-consequent.ensures.state
    c.in_ok-lower_statement-2.ensures.lowered.size second)

pub statement::lower_if_else-returns-clause-lowered : goal.statement::lower_if_else-returns-clause-lowered
statement::lower_if_else-returns-clause-lowered g t c =
    if_else_told (if_of c.alternate.new.self) _ c.span_of.ensures c.span_of-2.ensures c.in_ok-frame.ensures.frame
    c.in_ok-frame.ensures.state
    c.in_ok-lower_statement.ensures.lowered c.in_ok-consequent.ensures.state c.in_ok-consequent.ensures.frame
    c.in_ok-lower_statement-2.ensures.lowered c.in_ok-alternate.ensures.state c.in_ok-alternate.ensures.frame
    c.in_ok-test.ensures.lowered c.in_ok-finish.ensures.state

-- Loops, and statements with a label.
