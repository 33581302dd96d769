-- The lowering preserves the blocks.
use Rattle.std.proofs.Common.{ℕ, List, ◌∷◌, Some, None}
use Rattle.rl_base.specs.declared.row.Row.TheVariants as row
use Rattle.rl_builder.specs.Builder.{recorded}
use Rattle.rl_builder.specs.Temporaries.{temporary, with_value}
use Rattle.rl_frames.proofs.EnumerationBlocks.{forin_blocks}
use Rattle.rl_frames.proofs.ForBlocks.{for_blocks, for_blocks_plain}
use Rattle.rl_frames.proofs.IfThenBlocks.{if_then_blocks}
use Rattle.rl_frames.proofs.IterationBlocks.{forof_blocks}
use Rattle.rl_frames.proofs.LabelFrames.{label_blocks}
use Rattle.rl_frames.proofs.SwitchBlocks.{cases_more, cases_then, switch_begun_cases, switch_blocks}
use Rattle.rl_frames.proofs.TryBlocks.{try_blocks}
use Rattle.rl_frames.proofs.Wholes.{do_while_blocks, if_blocks, while_blocks}
use Rattle.rl_frames.specs.SwitchCases.{PreservesCases}
use Rattle.rl_frames.specs.SwitchParts.{case_ended, fall_of}
use Rattle.rl_hir.specs.declared.function.BlockKind.TheVariants as blocks
use Rattle.rl_hir.specs.declared.instruction.InstructionValue.TheVariants as values
use Rattle.rl_hir.specs.declared.instruction.PrimitiveValue.TheVariants as primitives
use Rattle.rl_hir.specs.declared.terminal.Case.{Case}
use Rattle.rl_hir.specs.declared.terminal.GotoVariant.TheVariants as gotos
use Rattle.rl_hir.specs.declared.terminal.ReturnVariant.TheVariants as returns
use Rattle.rl_lowered.proofs.Catches.{blocks_promoted, blocks_throwing, stores_caught}
use Rattle.rl_lowered.proofs.Common.{Names, Pieces, Span, State, SymbolId, Syntax}
use Rattle.rl_lowered.specs.Items.{caught, promoted}
use Rattle.rl_lowered.specs.Lowered.{LoweredBody, LoweredCases, LoweredInit}
use Rattle.rl_lowered.specs.Lowered.{LoweredLoop, LoweredStatement}
use Rattle.rl_lowered.specs.Lowered.{LoweredStatements}
use Rattle.rl_lowered.specs.Lowered.{catch_begun, catch_bound, declaring}
use Rattle.rl_lowered.specs.Lowered.{part_span, throwing}
use Rattle.rl_lowered.specs.Lowered as lowered
use Rattle.rl_lowered.specs.Named.{IsFound}
use Rattle.rl_model.specs.Actions.{Label}
use Rattle.rl_promises.specs.Rows.{refusal}
use Rattle.rl_runs.proofs.Preserving.{blocks_broken, blocks_continued, blocks_recorded, blocks_refl, blocks_returned}
use Rattle.rl_runs.proofs.Preserving.{blocks_then, blocks_threw, blocks_value}
use Rattle.rl_runs.specs.Blocks.{PreservesBlocks}
use Rattle.rl_runs.specs.Moves.{block_id}
use Rattle.rl_syntax.specs.Syntax.{span_of}
pub use Rattle.rl_lowered.proofs.BlockMoves.{blocks_assigned, blocks_cast, blocks_constant, blocks_declaring, blocks_found_value}
pub use Rattle.rl_lowered.proofs.BlockMoves.{blocks_member, blocks_noted_value, blocks_reloaded, blocks_value_returned}
pub use Rattle.rl_lowered.proofs.ExpressionBlocks.{all_blocks, bound_blocks, case_test_blocks, declarators_blocks, expression_blocks}
pub use Rattle.rl_lowered.proofs.ExpressionBlocks.{front_blocks, head_blocks, last_blocks, later_blocks, link_blocks, moved_blocks}
pub use Rattle.rl_lowered.proofs.ExpressionBlocks.{params_blocks, pattern_blocks, spine_blocks, target_blocks, test_blocks}
pub use Rattle.rl_lowered.proofs.Passings.{all_passes, bound_passes, case_test_passes, declares_of}
pub use Rattle.rl_lowered.proofs.Passings.{expression_passes, front_passes, head_passes, init_passes, last_passes, later_passes}
pub use Rattle.rl_lowered.proofs.Passings.{link_passes, loop_is, moved_passes, params_passes, pattern_passes, spine_passes, target_passes}
pub use Rattle.rl_lowered.proofs.Passings.{test_passes, Declares}

-- The variable of a `catch` takes the caught value.
pub blocks_caught : (names : Names) (s : State) (symbol : SymbolId) (identifier : ℕ) (param : Span)
    → IsFound names (catch_begun s param) symbol param identifier
    → PreservesBlocks (catch_begun s param) (catch_bound names s symbol identifier param)
blocks_caught names s symbol identifier param f =
    blocks_found_value names (catch_begun s param) symbol param identifier (stores_caught s identifier param) (Some param) f

mutual
  pub statement_blocks : {names : Names} {e : Syntax} {s t : State} → LoweredStatement names e s t → PreservesBlocks s t
  statement_blocks (lowered.Empty at s) = blocks_refl s
  statement_blocks (lowered.Expression at e s t p d) = expression_blocks d
  statement_blocks (lowered.Debugger at s) = blocks_value s values.Debugger (Some at.span)
  statement_blocks (lowered.Variables at k declarators s t d) =
      blocks_then s (declaring s k at.span) t (blocks_declaring s k at.span) (declarators_blocks d)
  statement_blocks (lowered.ReturnNothing at s) =
      let t : State = with_value s (values.Primitive primitives.Undefined) None in
      blocks_then s t _ (blocks_value s (values.Primitive primitives.Undefined) None)
      (blocks_returned t (Some at.span) returns.Explicit (temporary s None) blocks.Block)
  statement_blocks (lowered.Return at e s t p d) =
      blocks_then s t _ (expression_blocks d) (blocks_returned t (Some at.span) returns.Explicit p blocks.Block)
  statement_blocks (lowered.Block at statements s t d) = statements_blocks d
  statement_blocks (lowered.IfThen at test consequent s s2 s3 p dc dt) =
      if_then_blocks s s2 s3 p at.span (span_of consequent) (statement_blocks dc) (expression_blocks dt)
  statement_blocks (lowered.IfElse at test consequent alternate s s2 s3 s4 p dc da dt) =
      if_blocks s s2 s3 s4 p at.span (span_of consequent) (span_of alternate) (statement_blocks dc) (statement_blocks da)
      (expression_blocks dt)
  statement_blocks (lowered.Unlabeled loop s t d) = loop_blocks d
  statement_blocks (lowered.LabeledLoop at label loop s t d) = loop_blocks d
  statement_blocks (lowered.Labeled at label body s s2 other d) = label_blocks s s2 label at.span (span_of body) (statement_blocks d)
  statement_blocks (lowered.Break at label target s is) = blocks_broken s label target gotos.Break at.span blocks.Block is
  statement_blocks (lowered.Continue at label target s is) = blocks_continued s label target gotos.Continue at.span blocks.Block is
  statement_blocks (lowered.Throw at e s t p d) =
      blocks_then s t _ (expression_blocks d)
      (blocks_then t (throwing t at.span) _ (blocks_throwing t at.span) (blocks_threw (throwing t at.span) at.span p blocks.Block))
  statement_blocks (lowered.Switch at value cases ks s t u p all d) =
      switch_blocks s u ks p at.span (cases_then s t u ks (cases_blocks all) (expression_blocks d))
  statement_blocks (lowered.TryPlain at there block body s s2 s3 first second) =
      try_blocks s s2 s3 None at.span there.span (span_of block) (statement_blocks first) (statement_blocks second)
  statement_blocks {names} (lowered.TryBound at there bind name type block body symbol identifier s s2 s3 annotated is f first second) =
      blocks_then s (promoted s bind.span) _ (blocks_promoted s bind.span)
      (try_blocks (promoted s bind.span) s2 s3 (Some (caught s bind.span)) at.span there.span (span_of block)
      (blocks_then (catch_begun s bind.span) (catch_bound names s symbol identifier bind.span) s2
      (blocks_caught names s symbol identifier bind.span f) (statement_blocks first))
      (statement_blocks second))
  statement_blocks (lowered.Finalized at there block param body finalizer s t is d) =
      blocks_then s (recorded s (refusal row.F35 at.span)) t (blocks_recorded s (refusal row.F35 at.span)) (statement_blocks d)
  statement_blocks (lowered.Uncaught at block finalizer s) = blocks_recorded s (refusal row.F34 at.span)
  statement_blocks (lowered.With at fields s) = blocks_recorded s (refusal row.F36 at.span)

  pub cases_blocks : {names : Names} {s : State} {es : Pieces} {ks : List Case} {t : State} → LoweredCases names s es ks t
      → PreservesCases s ks t
  cases_blocks (lowered.NoCase s) = switch_begun_cases s
  cases_blocks (lowered.NextCase at test statements cases ks s x y z p all d tested) =
      cases_then s (case_ended y (fall_of s.env.next_block ks) x.current at.span) z
      (record { test = p; block = block_id x.env.next_block } ∷ ks)
      (cases_more s x y None ks at.span p (cases_blocks all) (statements_blocks d)) (case_test_blocks tested)

  pub loop_blocks : {names : Names} {own : Label} {e : Syntax} {s t : State} → LoweredLoop names own e s t → PreservesBlocks s t
  loop_blocks {own} (lowered.While at test body s s2 s3 p d dt) =
      while_blocks s s2 s3 own p at.span (span_of body) (statement_blocks d) (expression_blocks dt) (expression_passes dt)
  loop_blocks {own} (lowered.DoWhile at test body s s2 s3 p d dt) =
      do_while_blocks s s2 s3 own p at.span (span_of body) (statement_blocks d) (expression_blocks dt)
  loop_blocks {own} (lowered.ForUpdated at init test update body s s2 s3 s4 s5 u p di du d dt) =
      for_blocks s s2 s3 s4 s5 own p at.span (part_span at.span init) (span_of update) (span_of body) (init_blocks di)
      (expression_blocks du) (statement_blocks d) (test_blocks dt) (init_passes di) (test_passes dt)
  loop_blocks {own} (lowered.ForPlain at init test body s s2 s3 s4 p di d dt) =
      for_blocks_plain s s2 s3 s4 own p at.span (part_span at.span init) (span_of body) (init_blocks di) (statement_blocks d)
      (test_blocks dt) (init_passes di) (test_passes dt)
  loop_blocks {own} (lowered.ForIn at head right body s s2 s3 s4 collection p d dr dp) =
      forin_blocks s s2 s3 s4 own collection p at.span (span_of head) (span_of body) (statement_blocks d) (expression_blocks dr)
      (head_blocks dp) (head_passes dp)
  loop_blocks {own} (lowered.ForOf at head right body s s2 s3 s4 collection p d dr dp) =
      forof_blocks s s2 s3 s4 own collection p at.span (span_of head) (span_of body) (statement_blocks d) (expression_blocks dr)
      (head_blocks dp) (head_passes dp)
  loop_blocks (lowered.AwaitRefused at head right body s) = blocks_recorded s (refusal row.F33 at.span)

  pub init_blocks : {names : Names} {at : Span} {e : Syntax} {s t : State} → LoweredInit names at e s t → PreservesBlocks s t
  init_blocks {at} (lowered.NoInit s) = blocks_value s (values.Primitive primitives.Undefined) (Some at)
  init_blocks (lowered.DeclaredInit there fields s t d) = statement_blocks d
  init_blocks {at} (lowered.RefusedInit e s t p d) =
      blocks_then s (recorded s (refusal row.F31 at)) t (blocks_recorded s (refusal row.F31 at)) (expression_blocks d)

  pub statements_blocks : {names : Names} {es : Pieces} {s t : State} → LoweredStatements names es s t → PreservesBlocks s t
  statements_blocks (lowered.NoStatement s) = blocks_refl s
  statements_blocks (lowered.NextStatement e es s t u d ds) = blocks_then s t u (statement_blocks d) (statements_blocks ds)

pub body_blocks : {names : Names} {e : Syntax} {s t : State} → LoweredBody names e s t → PreservesBlocks s t
body_blocks (lowered.Statements at directives statements s t texts d) = statements_blocks d
body_blocks (lowered.Value e s t p d) = blocks_value_returned s t None returns.Implicit p blocks.Block (expression_blocks d)
