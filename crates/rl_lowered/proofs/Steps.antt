-- The lowering of a part keeps the steps of loops apart from the blocks at which none may stand.
use Rattle.std.proofs.Common.{◌≡◌, ℕ, ◌+◌, ◌≤◌, inl, inr, true, false, List, [], ◌∷◌, Option, Some, None, refl, arith, subst}
use Rattle.rl_base.specs.declared.row.Row.TheVariants as row
use Rattle.rl_base.specs.Diagnostics.{diagnostic_at}
use Rattle.rl_builder.specs.Builder.{completed_by, innermost, new_block, recorded, reserved, with_temporary}
use Rattle.rl_builder.specs.Temporaries.{temporary, unordered, with_value}
use Rattle.rl_frames.specs.Frames.{ForParts, IfParts, for_after_init}
use Rattle.rl_frames.specs.Frames.{for_after_update, for_again, for_aside, for_at, for_bodied, for_inited, for_opened, for_updated}
use Rattle.rl_frames.specs.Frames.{if_after_consequent, if_alternate, if_at, if_consequent}
use Rattle.rl_frames.specs.Parts.{do_while_end, for_begun, for_end, forin_begun, forin_end, forof_begun, forof_end, if_begun, if_end}
use Rattle.rl_frames.specs.Parts.{label_begun, label_end}
use Rattle.rl_frames.specs.Parts.{try_begun}
use Rattle.rl_frames.specs.Parts.{try_end, try_handler, while_begun, while_end}
use Rattle.rl_frames.specs.Rounds.{forin_at, forin_headed, forin_righted, forof_at, forof_bodied, forof_headed, forof_iterator}
use Rattle.rl_frames.specs.Rounds.{forof_righted, forof_shut, forof_tested, rounds_bodied, rounds_shut}
use Rattle.rl_frames.specs.SwitchParts.{case_begun, case_ended, fall_of, switch_begun, switch_end}
use Rattle.rl_hir.specs.declared.function.BlockKind.TheVariants as blocks
use Rattle.rl_hir.specs.declared.instruction.InstructionValue.TheVariants as values
use Rattle.rl_hir.specs.declared.instruction.PrimitiveValue.TheVariants as primitives
use Rattle.rl_hir.specs.declared.terminal.Case.{Case}
use Rattle.rl_hir.specs.declared.terminal.GotoVariant.TheVariants as gotos
use Rattle.rl_hir.specs.declared.terminal.ReturnVariant.TheVariants as returns
use Rattle.rl_hir.specs.declared.terminal.Terminal.{Terminal}
use Rattle.rl_hir.specs.declared.terminal.TerminalKind.TheVariants as kinds
use Rattle.rl_lowered.proofs.Catches.{catch_declared, declares_caught, stores_caught}
use Rattle.rl_lowered.proofs.Common.{BlockId, Diagnostic, Names, Pieces, Place, Span, State, Syntax}
use Rattle.rl_lowered.proofs.StepMoves.{apart_ended, apart_hole, apart_marked, apart_next, apart_noted}
use Rattle.rl_lowered.proofs.StepMoves.{apart_refl}
use Rattle.rl_lowered.proofs.StepMoves.{apart_same, apart_step, apart_then, apart_value, unmarked_between}
use Rattle.rl_lowered.proofs.StepMoves.{unmarked_value}
use Rattle.rl_lowered.specs.Items.{caught, promoted}
use Rattle.rl_lowered.specs.Lowered.{LoweredBody, LoweredCaseTest, LoweredCases, LoweredInit}
use Rattle.rl_lowered.specs.Lowered.{LoweredLoop, LoweredStatement}
use Rattle.rl_lowered.specs.Lowered.{LoweredStatements}
use Rattle.rl_lowered.specs.Lowered.{catch_begun, catch_bound, declaring}
use Rattle.rl_lowered.specs.Lowered.{part_span, throwing, throwing_under}
use Rattle.rl_lowered.specs.Lowered as lowered
use Rattle.rl_lowered.specs.Steps.{KeepsStepsApart}
use Rattle.rl_model.specs.Actions.{Label}
use Rattle.rl_promises.specs.Moved.{type_name}
use Rattle.rl_promises.specs.Rows.{refusal}
use Rattle.rl_runs.proofs.Moves.{extends_pushed}
use Rattle.rl_runs.proofs.Naming.{named_first, named_none}
use Rattle.rl_runs.specs.Blocks.{WasNumbered}
use Rattle.rl_runs.specs.Moves.{block_id, branch, ends_by, goto, last_hole, next_hole, return_of, threw_from}
use Rattle.rl_runs.specs.Moves.{without_handler, without_scope}
use Rattle.rl_runs.specs.ReadNotes.{HasId}
use Rattle.rl_runs.specs.StepNotes.{stepless_of}
use Rattle.rl_syntax.specs.Syntax.{span_of}
pub use Rattle.rl_lowered.proofs.ExpressionSteps.{all_steps, bound_steps, expression_steps, front_steps, last_steps, later_steps}
pub use Rattle.rl_lowered.proofs.ExpressionSteps.{link_steps, moved_steps, params_steps, pattern_steps, spine_steps, target_steps}
use Rattle.rl_lowered.proofs.ExpressionSteps.{apart_declaring, apart_found_value, apart_returned, declarators_steps, head_steps}
use Rattle.rl_lowered.proofs.ExpressionSteps.{test_steps}

-- Loops

-- The part in front of a loop's body ends, and the body's hole opens.
apart_for_opened : (f : ForParts) (s : State) (part : Span) → KeepsStepsApart s (for_opened f s part)
apart_for_opened f s part =
    let next : State = next_hole s f.test gotos.Break part blocks.Block in
    apart_then s next _ (apart_next s f.test gotos.Break part blocks.Block)
    (apart_same next (for_opened f s part) refl refl refl (omega arith))

-- The blocks at which a `do`-`while` loop has no steps.
own_marks : (n : ℕ) (span : Span) (id : ℕ) → HasId (stepless_of (do_while_end n span).kind) id → WasNumbered n (n + 1 + 1 + 1) id
own_marks n span id has = elim (named_first id (block_id n) (block_id (n + 1) ∷ []) has) [
  | inl e ↦ (omega (arith, e), omega (arith, e))
  | inr more ↦ elim (named_first id (block_id (n + 1)) [] more) [
    | inl e ↦ (omega (arith, e), omega (arith, e))
    | inr never ↦ absurd (named_none id never)
  ]
]

-- A loop over keys or values, from its head on.

forin_apart : (s s3 s4 : State) (collection test : Place) (span left : Span)
    → KeepsStepsApart (reserved (reserved (reserved s))) s3
    → KeepsStepsApart (forin_righted (rounds_shut (forin_at s span)) s3 left collection) s4
    → KeepsStepsApart s
    (completed_by s4 (branch test (s.env.next_block + 1 + 1) s.env.next_block s.env.next_block span)
    (new_block s.env.next_block blocks.Block))
forin_apart s s3 s4 collection test span left before behind =
    apart_then s righted _
    (apart_step s headed (values.NextPropertyOf collection) (Some left) (omega arith, omega (arith, in_init.grows))
    (unmarked_between s headed numbered.env (n + 1) (omega arith, omega arith) in_init)
    (apart_then s numbered headed (apart_same s numbered refl refl refl (omega arith)) in_init))
    (apart_then righted s4 _ behind (apart_ended s4 (branch test (n + 1 + 1) n n span) (new_block n blocks.Block) refl refl))
  where
    n : ℕ
    n = s.env.next_block

    numbered : State
    numbered = reserved (reserved (reserved s))

    headed : State
    headed = forin_headed (rounds_shut (forin_at s span)) s3

    righted : State
    righted = forin_righted (rounds_shut (forin_at s span)) s3 left collection

    in_init : KeepsStepsApart numbered headed
    in_init = apart_then numbered s3 headed before (apart_ended s3 (forin_end n span) (new_block (n + 1) blocks.Loop) refl refl)

forof_apart : (s s3 s4 : State) (collection test : Place) (span left : Span)
    → KeepsStepsApart (reserved (reserved (reserved (reserved s)))) s3
    → KeepsStepsApart (forof_righted (forof_shut (forof_at s span)) s3 left collection) s4
    → KeepsStepsApart s
    (completed_by s4 (branch test (s.env.next_block + 1 + 1 + 1) s.env.next_block s.env.next_block span)
    (new_block s.env.next_block blocks.Block))
forof_apart s s3 s4 collection test span left before behind =
    apart_then s righted _
    (apart_step s tested (values.IteratorNext iterator collection) (Some left) (omega arith, omega (arith, kept, read))
    (λ known marked. unmarked_value headed (values.GetIterator collection) collection.span in_init_end (new_block (n + 1 + 1) blocks.Loop)
    (n + 1 + 1) refl (unmarked_between s headed numbered.env (n + 1 + 1) (omega arith, omega arith) in_init known) marked) in_test)
    (apart_then righted s4 _ behind (apart_ended s4 (branch test (n + 1 + 1 + 1) n n span) (new_block n blocks.Block) refl refl))
  where
    n : ℕ
    n = s.env.next_block

    numbered : State
    numbered = reserved (reserved (reserved (reserved s)))

    headed : State
    headed = forof_headed (forof_shut (forof_at s span)) s3

    iterator : Place
    iterator = forof_iterator (forof_shut (forof_at s span)) s3 collection

    opened : State
    opened = with_value headed (values.GetIterator collection) collection.span

    tested : State
    tested = forof_tested (forof_shut (forof_at s span)) s3 collection

    righted : State
    righted = forof_righted (forof_shut (forof_at s span)) s3 left collection

    in_init_end : Terminal
    in_init_end = goto (n + 1 + 1) gotos.Break span

    in_init : KeepsStepsApart numbered headed
    in_init = apart_then numbered s3 headed before (apart_ended s3 (forof_end n span) (new_block (n + 1) blocks.Loop) refl refl)

    kept : n + 1 + 1 + 1 + 1 ≤ s3.env.next_block
    kept = in_init.grows

    read : s3.env.next_block ≤ tested.env.next_block
    read = (extends_pushed (with_temporary headed collection.span)
        (unordered (temporary headed collection.span) (values.GetIterator collection) collection.span)).blocks

    in_opened : KeepsStepsApart s opened
    in_opened =
        apart_step s headed (values.GetIterator collection) collection.span (omega arith, omega (arith, in_init.grows))
        (unmarked_between s headed numbered.env (n + 1) (omega arith, omega arith) in_init)
        (apart_then s numbered headed (apart_same s numbered refl refl refl (omega arith)) in_init)

    in_test : KeepsStepsApart s tested
    in_test = apart_then s opened tested in_opened (apart_ended opened in_init_end (new_block (n + 1 + 1) blocks.Loop) refl refl)

case_test_steps : {names : Names} {e : Syntax} {s t : State} {p : Option Place} → LoweredCaseTest names e s t p → KeepsStepsApart s t
case_test_steps (lowered.NoCaseTest s) = apart_refl s
case_test_steps (lowered.CaseTested e s t p is l) = expression_steps l
case_test_steps (lowered.CaseMoved at w fields s t p is l) =
    let noted : Diagnostic = diagnostic_at row.F29 (type_name w) at.span in
    apart_then s (recorded s noted) t (apart_noted s noted) (expression_steps l)

-- A throw, and a `try` statement, from in front of its handler's block.

apart_throwing_under : (handler : Option BlockId) (s : State) (at : Span) → KeepsStepsApart s (throwing_under handler s at)
apart_throwing_under None s at = apart_refl s
apart_throwing_under (Some handler) s at = apart_noted s (refusal row.F30 at)

apart_throwing : (s : State) (at : Span) → KeepsStepsApart s (throwing s at)
apart_throwing s at = apart_throwing_under (innermost s.handlers) s at

apart_threw : (s : State) (span : Span) (place : Place) → KeepsStepsApart s (threw_from s span place blocks.Block)
apart_threw s span place =
    apart_then s (reserved s) _ (apart_same s (reserved s) refl refl refl (omega arith))
    (apart_ended (reserved s) (ends_by (kinds.Throw place) (Some span)) (new_block s.env.next_block blocks.Block) refl refl)

-- The block behind the statement, at which no step may stand, is numbered first.
behind_mark : (s : State) (end : Terminal) → stepless_of end.kind ≡ block_id s.env.next_block ∷ [] → (id : ℕ)
    → HasId (stepless_of end.kind) id → WasNumbered s.env.next_block (reserved s).env.next_block id
behind_mark s end is id has =
    elim (named_first id (block_id s.env.next_block) [] (subst (λ (l : List BlockId). HasId l id) is has)) [
      | inl e ↦ (omega (arith, e), omega (arith, e))
      | inr never ↦ absurd (named_none id never)
    ]

apart_tried : (s d s2 s3 : State) (part other : Span) (end : Terminal) → stepless_of end.kind ≡ block_id s.env.next_block ∷ []
    → KeepsStepsApart (reserved s) d → KeepsStepsApart (try_begun d) s2
    → KeepsStepsApart (try_handler s2 s.env.next_block d.env.next_block part) s3
    → KeepsStepsApart s
    (completed_by (last_hole (without_handler s3) s.env.next_block gotos.Try other d.current) end (new_block s.env.next_block blocks.Block))
apart_tried s d s2 s3 part other end is front first second =
    let n : ℕ = s.env.next_block in
    let next : State = next_hole s2 n gotos.Break part blocks.Block in
    let tried : State = try_handler s2 n d.env.next_block part in
    let shut : State = last_hole (without_handler s3) n gotos.Try other d.current in
    let inside : KeepsStepsApart (try_begun d) s3 =
    apart_then (try_begun d) s2 s3 first
    (apart_then s2 next s3 (apart_next s2 n gotos.Break part blocks.Block)
    (apart_then next tried s3 (apart_same next tried refl refl refl (omega arith)) second)) in
    apart_marked s shut (reserved s).env end (new_block n blocks.Block) refl (omega arith) (behind_mark s end is)
    (apart_then (reserved s) d shut front
    (apart_then d (reserved d) shut (apart_same d (reserved d) refl refl refl (omega arith))
    (apart_hole (reserved d) s3 (new_block d.env.next_block blocks.Catch) d.scopes s3.scopes (without_handler s3).handlers
    (goto n gotos.Try other) refl refl inside)))

mutual
  pub statement_steps : {names : Names} {e : Syntax} {s t : State} → LoweredStatement names e s t → KeepsStepsApart s t
  statement_steps (lowered.Empty at s) = apart_refl s
  statement_steps (lowered.Expression at e s t p l) = expression_steps l
  statement_steps (lowered.Debugger at s) = apart_value s values.Debugger (Some at.span) refl
  statement_steps (lowered.Variables at k declarators s t l) =
      apart_then s (declaring s k at.span) t (apart_declaring s k at.span) (declarators_steps l)
  statement_steps (lowered.ReturnNothing at s) =
      let valued : State = with_value s (values.Primitive primitives.Undefined) None in
      apart_then s valued _ (apart_value s (values.Primitive primitives.Undefined) None refl)
      (apart_returned valued (Some at.span) (temporary s None))
  statement_steps (lowered.Return at e s t p l) = apart_then s t _ (expression_steps l) (apart_returned t (Some at.span) p)
  statement_steps (lowered.Block at statements s t l) = statements_steps l
  statement_steps (lowered.IfThen at test consequent s s2 s3 p second first) =
      let n : ℕ = s.env.next_block in
      let f : IfParts = if_after_consequent (if_at s at.span false) s2 in
      let numbered : State = reserved (reserved s) in
      let behind : State = if_consequent (if_at s at.span false) s2 (span_of consequent) in
      apart_then s numbered _ (apart_same s numbered refl refl refl (omega arith))
      (apart_then numbered behind _
      (apart_hole numbered s2 (new_block (n + 1) blocks.Block) s.scopes s2.scopes s2.handlers (goto n gotos.Break (span_of consequent))
      refl refl (statement_steps second))
      (apart_then behind s3 _ (expression_steps first)
      (apart_ended s3 (if_end f.behind.id.0 f.consequent f.alternate p f.span) f.behind refl refl)))
  statement_steps (lowered.IfElse at test consequent alternate s s2 s3 s4 p second third first) =
      let n : ℕ = s.env.next_block in
      let f : IfParts = if_after_consequent (if_at s at.span true) s2 in
      let numbered : State = reserved (reserved s) in
      let between : State = if_consequent (if_at s at.span true) s2 (span_of consequent) in
      let behind : State = if_alternate f s3 (span_of alternate) in
      let inside : KeepsStepsApart (if_begun s) s3 =
      apart_then (if_begun s) s2 _ (statement_steps second)
      (apart_then s2 between _ (apart_next s2 n gotos.Break (span_of consequent) blocks.Block) (statement_steps third)) in
      apart_then s numbered _ (apart_same s numbered refl refl refl (omega arith))
      (apart_then numbered behind _
      (apart_hole numbered s3 (new_block (n + 1) blocks.Block) s.scopes s3.scopes s3.handlers (goto n gotos.Break (span_of alternate))
      refl refl inside)
      (apart_then behind s4 _ (expression_steps first)
      (apart_ended s4 (if_end f.behind.id.0 f.consequent f.alternate p f.span) f.behind refl refl)))
  statement_steps (lowered.Unlabeled loop s t l) = loop_steps l
  statement_steps (lowered.LabeledLoop at label loop s t l) = loop_steps l
  statement_steps (lowered.Labeled at label body s s2 other l) =
      let n : ℕ = s.env.next_block in
      let numbered : State = reserved (reserved s) in
      let gone : State = last_hole (without_scope s2) n gotos.Break (span_of body) s.current in
      apart_then s numbered _ (apart_same s numbered refl refl refl (omega arith))
      (apart_then numbered gone _
      (apart_hole numbered s2 (new_block (n + 1) blocks.Block) (label_begun s label).scopes (without_scope s2).scopes s2.handlers
      (goto n gotos.Break (span_of body)) refl refl (statement_steps l))
      (apart_ended gone (label_end n at.span) (new_block n blocks.Block) refl refl))
  statement_steps (lowered.Break at label target s is) = apart_next s target.0 gotos.Break at.span blocks.Block
  statement_steps (lowered.Continue at label target s is) = apart_next s target.0 gotos.Continue at.span blocks.Block
  statement_steps (lowered.Throw at e s t p l) =
      let thrown : State = throwing t at.span in
      apart_then s t _ (expression_steps l) (apart_then t thrown _ (apart_throwing t at.span) (apart_threw thrown at.span p))
  statement_steps (lowered.Switch at value cases ks s t u p all l) =
      apart_then s (switch_begun s) _ (apart_same s (switch_begun s) refl refl refl (omega arith))
      (apart_then (switch_begun s) t _ (cases_steps all)
      (apart_then t u _ (expression_steps l)
      (apart_ended u (switch_end s.env.next_block ks p at.span) (new_block s.env.next_block blocks.Block) refl refl)))
  statement_steps (lowered.TryPlain at there block body s s2 s3 first second) =
      apart_tried s (reserved s) s2 s3 there.span (span_of block)
      (try_end s.env.next_block (reserved s).env.next_block s2.env.next_block None at.span) refl (apart_refl (reserved s))
      (statement_steps first) (statement_steps second)
  statement_steps {names} (lowered.TryBound at there bind name type block body symbol identifier s s2 s3 annotated is f first second) =
      let made : State = promoted s bind.span in
      let declared : State = catch_declared s bind.span in
      let begun : State = catch_begun s bind.span in
      apart_then s made _ (apart_same s made refl refl refl (omega arith))
      (apart_tried made declared s2 s3 there.span (span_of block)
      (try_end s.env.next_block declared.env.next_block s2.env.next_block (Some (caught s bind.span)) at.span) refl
      (apart_value (reserved made) (declares_caught s bind.span) (Some bind.span) refl)
      (apart_then begun (catch_bound names s symbol identifier bind.span) s2
      (apart_found_value names begun symbol bind.span (stores_caught s identifier bind.span) (Some bind.span) refl) (statement_steps first))
      (statement_steps second))
  statement_steps (lowered.Finalized at there block param body finalizer s t is l) =
      apart_then s (recorded s (refusal row.F35 at.span)) t (apart_noted s (refusal row.F35 at.span)) (statement_steps l)
  statement_steps (lowered.Uncaught at block finalizer s) = apart_noted s (refusal row.F34 at.span)
  statement_steps (lowered.With at fields s) = apart_noted s (refusal row.F36 at.span)

  cases_steps : {names : Names} {s : State} {es : Pieces} {ks : List Case} {t : State} → LoweredCases names s es ks t
      → KeepsStepsApart (switch_begun s) t
  cases_steps (lowered.NoCase s) = apart_refl (switch_begun s)
  cases_steps (lowered.NextCase at test statements cases ks s x y z p all l tested) =
      let fall : ℕ = fall_of s.env.next_block ks in
      let begun : State = case_begun x None s.env.next_block in
      let shut : State = case_ended y fall x.current at.span in
      apart_then (switch_begun s) x z (cases_steps all)
      (apart_then x (reserved x) z (apart_same x (reserved x) refl refl refl (omega arith))
      (apart_then (reserved x) shut z
      (apart_hole (reserved x) y (new_block x.env.next_block blocks.Block) begun.scopes (without_scope y).scopes y.handlers
      (goto fall gotos.Break at.span) refl refl (statements_steps l))
      (case_test_steps tested)))

  pub loop_steps : {names : Names} {own : Label} {e : Syntax} {s t : State} → LoweredLoop names own e s t → KeepsStepsApart s t
  loop_steps {own} (lowered.While at test body s s2 s3 p second first) =
      let n : ℕ = s.env.next_block in
      let numbered : State = reserved (reserved (reserved s)) in
      let gone : State = last_hole (without_scope s2) n gotos.Continue (span_of body) s.current in
      let tested : State = completed_by gone (while_end n at.span) (new_block n blocks.Loop) in
      apart_then s numbered _ (apart_same s numbered refl refl refl (omega arith))
      (apart_then numbered gone _
      (apart_hole numbered s2 (new_block (n + 1 + 1) blocks.Block) (while_begun s own).scopes (without_scope s2).scopes s2.handlers
      (goto n gotos.Continue (span_of body)) refl refl (statement_steps second))
      (apart_then gone tested _ (apart_ended gone (while_end n at.span) (new_block n blocks.Loop) refl refl)
      (apart_then tested s3 _ (expression_steps first)
      (apart_ended s3 (branch p (n + 1 + 1) (n + 1) n at.span) (new_block (n + 1) blocks.Block) refl refl))))
  loop_steps {own} (lowered.DoWhile at test body s s2 s3 p first second) =
      let n : ℕ = s.env.next_block in
      let numbered : State = reserved (reserved (reserved s)) in
      let gone : State = last_hole (without_scope s2) n gotos.Continue (span_of body) s.current in
      let tested : State = completed_by gone (do_while_end n at.span) (new_block n blocks.Loop) in
      apart_then s tested _
      (apart_marked s gone numbered.env (do_while_end n at.span) (new_block n blocks.Loop) refl (omega arith) (own_marks n at.span)
      (apart_hole numbered s2 (new_block (n + 1 + 1) blocks.Block) (while_begun s own).scopes (without_scope s2).scopes s2.handlers
      (goto n gotos.Continue (span_of body)) refl refl (statement_steps first)))
      (apart_then tested s3 _ (expression_steps second)
      (apart_ended s3 (branch p (n + 1 + 1) (n + 1) n at.span) (new_block (n + 1) blocks.Block) refl refl))
  loop_steps {own} (lowered.ForUpdated at init test update body s s2 s3 s4 s5 u p first third fourth second) =
      let f : ForParts = for_at s at.span own true in
      let g : ForParts = for_after_init f s2 in
      let h : ForParts = for_after_update g s3 in
      let numbered : State = reserved (reserved (reserved s)) in
      let updating : State = for_inited f s2 (part_span at.span init) in
      let opened : State = for_updated g s3 (span_of update) in
      let gone : State = last_hole (without_scope s4) (for_again h).0 gotos.Continue (span_of body) s.current in
      let testing : State = for_bodied h s4 (span_of body) in
      let inside : KeepsStepsApart (for_begun s) s4 =
      apart_then (for_begun s) s2 _ (init_steps first)
      (apart_then s2 updating _ (apart_next s2 f.test gotos.Break (part_span at.span init) blocks.Loop)
      (apart_then updating s3 _ (expression_steps third)
      (apart_then s3 opened _ (apart_for_opened g s3 (span_of update)) (statement_steps fourth)))) in
      apart_then s numbered _ (apart_same s numbered refl refl refl (omega arith))
      (apart_then numbered gone _
      (apart_hole numbered s4 (new_block (s.env.next_block + 1 + 1) blocks.Loop) s.scopes (without_scope s4).scopes s4.handlers
      (goto (for_again h).0 gotos.Continue (span_of body)) refl refl inside)
      (apart_then gone testing _ (apart_ended gone (for_end f.test h.update h.body at.span) (for_aside h).1 refl refl)
      (apart_then testing s5 _ (test_steps second)
      (apart_ended s5 (branch p h.body h.behind.id.0 h.behind.id.0 h.span) h.behind refl refl))))
  loop_steps {own} (lowered.ForPlain at init test body s s2 s3 s4 p first third second) =
      let f : ForParts = for_at s at.span own false in
      let g : ForParts = for_after_init f s2 in
      let numbered : State = reserved (reserved (reserved s)) in
      let opened : State = for_inited f s2 (part_span at.span init) in
      let gone : State = last_hole (without_scope s3) (for_again g).0 gotos.Continue (span_of body) s.current in
      let testing : State = for_bodied g s3 (span_of body) in
      let inside : KeepsStepsApart (for_begun s) s3 =
      apart_then (for_begun s) s2 _ (init_steps first)
      (apart_then s2 opened _ (apart_for_opened f s2 (part_span at.span init)) (statement_steps third)) in
      apart_then s numbered _ (apart_same s numbered refl refl refl (omega arith))
      (apart_then numbered gone _
      (apart_hole numbered s3 (new_block (s.env.next_block + 1 + 1) blocks.Loop) s.scopes (without_scope s3).scopes s3.handlers
      (goto (for_again g).0 gotos.Continue (span_of body)) refl refl inside)
      (apart_then gone testing _ (apart_ended gone (for_end f.test g.update g.body at.span) (for_aside g).1 refl refl)
      (apart_then testing s4 _ (test_steps second)
      (apart_ended s4 (branch p g.body g.behind.id.0 g.behind.id.0 g.span) g.behind refl refl))))
  loop_steps {own} (lowered.ForIn at head right body s s2 s3 s4 collection p first second third) =
      let n : ℕ = s.env.next_block in
      let numbered : State = reserved (reserved (reserved s)) in
      let shut : State = rounds_bodied (forin_at s at.span) s2 (span_of body) in
      forin_apart s s3 s4 collection p at.span (span_of head)
      (apart_then numbered shut s3
      (apart_hole numbered s2 (new_block (n + 1 + 1) blocks.Block) (forin_begun s own).scopes (without_scope s2).scopes s2.handlers
      (goto (n + 1) gotos.Continue (span_of body)) refl refl (statement_steps first)) (expression_steps second)) (head_steps third)
  loop_steps {own} (lowered.ForOf at head right body s s2 s3 s4 collection p first second third) =
      let n : ℕ = s.env.next_block in
      let numbered : State = reserved (reserved (reserved (reserved s))) in
      let shut : State = forof_bodied (forof_at s at.span) s2 (span_of body) in
      forof_apart s s3 s4 collection p at.span (span_of head)
      (apart_then numbered shut s3
      (apart_hole numbered s2 (new_block (n + 1 + 1 + 1) blocks.Block) (forof_begun s own).scopes (without_scope s2).scopes s2.handlers
      (goto (n + 1) gotos.Continue (span_of body)) refl refl (statement_steps first)) (expression_steps second)) (head_steps third)
  loop_steps (lowered.AwaitRefused at head right body s) = apart_noted s (refusal row.F33 at.span)

  init_steps : {names : Names} {at : Span} {e : Syntax} {s t : State} → LoweredInit names at e s t → KeepsStepsApart s t
  init_steps {at} (lowered.NoInit s) = apart_value s (values.Primitive primitives.Undefined) (Some at) refl
  init_steps (lowered.DeclaredInit there fields s t l) = statement_steps l
  init_steps {at} (lowered.RefusedInit e s t p l) =
      apart_then s (recorded s (refusal row.F31 at)) t (apart_noted s (refusal row.F31 at)) (expression_steps l)

  pub statements_steps : {names : Names} {es : Pieces} {s t : State} → LoweredStatements names es s t → KeepsStepsApart s t
  statements_steps (lowered.NoStatement s) = apart_refl s
  statements_steps (lowered.NextStatement e es s t u l more) = apart_then s t u (statement_steps l) (statements_steps more)

pub body_steps : {names : Names} {b : Syntax} {s t : State} → LoweredBody names b s t → KeepsStepsApart s t
body_steps (lowered.Statements at directives statements s t texts l) = statements_steps l
body_steps (lowered.Value e s t p l) =
    apart_then s (reserved s) _ (apart_same s (reserved s) refl refl refl (omega arith))
    (apart_then (reserved s) t _ (expression_steps l)
    (apart_ended t (return_of None returns.Implicit p) (new_block s.env.next_block blocks.Block) refl refl))
