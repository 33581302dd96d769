-- Lowering a part keeps that no run reads the note behind a construct whose terminal `build` may replace.
use Rattle.std.proofs.Common.{◌+◌, Bool, true, false, List, Option, Some, None, refl, ◌∙◌, arith}
use Rattle.rl_base.specs.declared.row.Row.TheVariants as row
use Rattle.rl_base.specs.Diagnostics.{diagnostic_at}
use Rattle.rl_builder.specs.Builder.{new_block, pushed, recorded, reserved, with_temporary}
use Rattle.rl_builder.specs.Temporaries.{temporary, with_value}
use Rattle.rl_frames.proofs.LoopNotes.{do_while_unread, while_unread}
use Rattle.rl_frames.proofs.RoundNotes.{forin_unread, forof_unread}
use Rattle.rl_frames.specs.Frames.{ForParts, IfParts, LabelParts, LogicalParts, SequenceParts, TernaryParts, aside_of, for_after_init}
use Rattle.rl_frames.specs.Frames.{for_after_update, for_again, for_aside, for_at, for_bodied, for_inited, for_updated}
use Rattle.rl_frames.specs.Frames.{if_after_consequent, if_alternate, if_at, if_consequent, label_at, logical_at, logical_righted}
use Rattle.rl_frames.specs.Frames.{sequence_at, ternary_alternated, ternary_aside, ternary_at, ternary_consequent, ternary_parted}
use Rattle.rl_frames.specs.Parts.{for_begun, for_end, if_begun, if_end, label_begun, label_end, loads, logical_begun, logical_entered}
use Rattle.rl_frames.specs.Parts.{logical_left, logical_place, sequence_begun, ternary_begun, try_end}
use Rattle.rl_frames.specs.Rounds.{ForOfParts, RoundsParts, forin_at, forin_headed, forof_at, forof_headed, forof_iterator, forof_shut}
use Rattle.rl_frames.specs.Rounds.{forof_tested, rounds_shut}
use Rattle.rl_frames.specs.SwitchParts.{case_begun, case_ended, fall_of, switch_begun, switch_end}
use Rattle.rl_hir.specs.declared.function.BlockKind.TheVariants as blocks
use Rattle.rl_hir.specs.declared.function.Param.{Param}
use Rattle.rl_hir.specs.declared.instruction.InstructionKind.{InstructionKind}
use Rattle.rl_hir.specs.declared.instruction.InstructionKind.TheVariants as variables
use Rattle.rl_hir.specs.declared.instruction.InstructionValue.TheVariants as values
use Rattle.rl_hir.specs.declared.instruction.PrimitiveValue.TheVariants as primitives
use Rattle.rl_hir.specs.declared.terminal.Case.{Case}
use Rattle.rl_hir.specs.declared.terminal.GotoVariant.TheVariants as gotos
use Rattle.rl_hir.specs.declared.terminal.ReturnVariant.TheVariants as returns
use Rattle.rl_hir.specs.declared.terminal.TerminalKind.TheVariants as kinds
use Rattle.rl_lowered.proofs.Blocks.{moved_blocks}
use Rattle.rl_lowered.proofs.Blocks.{all_blocks, blocks_noted_value, expression_blocks, front_blocks, head_blocks, statement_blocks}
use Rattle.rl_lowered.proofs.Catches.{catch_declared, declares_caught, stores_caught}
use Rattle.rl_lowered.proofs.Common.{BlockId, Diagnostic, InstructionValue, Names, Piece, Pieces, Place, Span, State, Syntax}
use Rattle.rl_lowered.proofs.ItemBlocks.{ahead_stays, bound_stays, stays_met, taken_stays}
use Rattle.rl_lowered.proofs.UnreadMoves.{unreads_defaulted, unreads_stays}
use Rattle.rl_lowered.proofs.UnreadMoves.{Unreads, own_note, unreads_assigned, unreads_constant, unreads_declaring, unreads_ended}
use Rattle.rl_lowered.proofs.UnreadMoves.{unreads_for_opened, unreads_found, unreads_found_value, unreads_frame, unreads_last, unreads_link}
use Rattle.rl_lowered.proofs.UnreadMoves.{unreads_member, unreads_next, unreads_noted, unreads_noted_value, unreads_pushed}
use Rattle.rl_lowered.proofs.UnreadMoves.{unreads_refl, unreads_reloaded, unreads_same, unreads_scope_ended}
use Rattle.rl_lowered.proofs.UnreadMoves.{unreads_stored, unreads_then, unreads_throwing, unreads_tried, unreads_typed, unreads_undefined}
use Rattle.rl_lowered.proofs.UnreadMoves.{unreads_value}
use Rattle.rl_lowered.specs.Forms.{Front, call_of, load_of, store_of, tested_front, typed}
use Rattle.rl_lowered.specs.Items.{Later, caught, destructured, found_again, met, promoted, variable_at}
use Rattle.rl_lowered.specs.Lowered.{Lowered, LoweredBody, LoweredCaseTest, LoweredCases, LoweredDeclarators, LoweredHead, LoweredInit}
use Rattle.rl_lowered.specs.Lowered.{LoweredFront, LoweredLast, LoweredLink, LoweredLoop, LoweredParts, LoweredSpine, LoweredStatement}
use Rattle.rl_lowered.specs.Lowered.{LoweredStatements, LoweredTest, private_met}
use Rattle.rl_lowered.specs.Lowered.{assigned_to, catch_begun, catch_bound, declaring, name_computed, part_span}
use Rattle.rl_lowered.specs.Lowered.{throwing, value_span}
use Rattle.rl_lowered.specs.Lowered.{LoweredBound, LoweredLater, LoweredMoved, LoweredParams, LoweredPattern, LoweredTarget}
use Rattle.rl_lowered.specs.Lowered as lowered
use Rattle.rl_lowered.specs.Named.{found}
use Rattle.rl_model.specs.Actions.{Label}
use Rattle.rl_optional_frames.specs.Frames.{default_at, default_ended, link_at, link_objected}
use Rattle.rl_promises.specs.Moved.{type_name}
use Rattle.rl_promises.specs.Rows.{refusal, row_of_head}
use Rattle.rl_runs.proofs.Moves.{extends_then, extends_value}
use Rattle.rl_runs.specs.Moves.{branch, ends_by, last_hole, return_of, returned_from, stored_in, threw_from, without_scope}
use Rattle.rl_runs.specs.ReadNotes.{KeepsUnread}
use Rattle.rl_syntax.specs.Syntax.{span_of}

mutual
  pub expression_unread : {names : Names} {e : Syntax} {s t : State} {p : Place} → Lowered names e s t p → Unreads s t
  expression_unread (lowered.Literal at w fields p s is) = unreads_value s (values.Primitive p) (Some at.span)
  expression_unread (lowered.Refused at w fields r s is) = unreads_undefined s (refusal r at.span) at.span
  expression_unread (lowered.RefusedBefore at w fields parts r pieces s t is l) =
      let noted : State = recorded s (refusal r at.span) in
      unreads_then s noted _ (unreads_noted s (refusal r at.span))
      (unreads_then noted t _ (all_unread l) (unreads_value t (values.Primitive primitives.Undefined) (Some at.span)))
  expression_unread (lowered.RefusedBehind at object name s t p l) =
      unreads_then s t _ (expression_unread l) (unreads_undefined t (refusal row.F3 at.span) at.span)
  expression_unread (lowered.Private at w fields e s t p is l) = expression_unread l
  expression_unread {names} (lowered.Variable at name symbol identifier s is f) =
      unreads_found_value names s symbol at.span _ (Some at.span)
  expression_unread {names} (lowered.UpdatedVariable at there name symbol identifier operator prefix s is mutable f g) =
      let first : State = found names s symbol there.span in
      unreads_then s first _ (unreads_found names s symbol there.span)
      (unreads_found_value names first symbol there.span _ (Some at.span))
  expression_unread {names} (lowered.UpdatedConstant at there name symbol identifier operator prefix s is constant f) =
      unreads_constant names s symbol there.span at.span
  expression_unread (lowered.UpdatedMember at there w fields parts pieces object key operator prefix s t is l) =
      unreads_then s t _ (all_unread l) (unreads_member t object key operator there.span)
  expression_unread {names} (lowered.AssignedVariable at there name right symbol identifier s t p is mutable l f) =
      unreads_then s t _ (expression_unread l)
      (unreads_found_value names t symbol there.span (assigned_to identifier there.span p) (Some there.span))
  expression_unread {names} (lowered.AssignedConstant at there name right symbol identifier s t p is constant l f) =
      unreads_then s t _ (expression_unread l) (unreads_constant names t symbol there.span there.span)
  expression_unread (lowered.AssignedGlobal at there name right binding s t p is l) =
      unreads_then s t _ (expression_unread l) (unreads_value t (values.StoreGlobal name p) (Some there.span))
  expression_unread (lowered.AssignedMember at there w fields parts pieces object key right s t u p is l ls) =
      unreads_then s t _ (expression_unread l)
      (unreads_then t u _ (all_unread ls) (unreads_value u (store_of object key p) (Some there.span)))
  expression_unread (lowered.AssignedPrivate at there object name right s t u p q l m) =
      unreads_then s t _ (expression_unread l)
      (unreads_then t u _ (expression_unread m) (unreads_undefined u (refusal row.F5 at.span) at.span))
  expression_unread (lowered.AssignedPattern at there w fields right s t u p q is l d) =
      unreads_then s t u (expression_unread l) (target_unread d)
  expression_unread {names}
      (lowered.CompoundVariable at there name operator applied right symbol identifier s t u q p is mutable applies l m f) =
      unreads_then s t _ (expression_unread l)
      (unreads_then t u _ (expression_unread m) (unreads_reloaded names u applied q p at.span there.span symbol identifier))
  expression_unread {names}
      (lowered.CompoundConstant at there name operator applied right symbol identifier s t u q p is constant applies l m f) =
      unreads_then s t _ (expression_unread l)
      (unreads_then t u _ (expression_unread m) (unreads_constant names u symbol there.span at.span))
  expression_unread (lowered.CompoundGlobal at there name operator applied right binding s t u q p is applies l m) =
      let computed : State = name_computed u applied q p at.span in
      unreads_then s t _ (expression_unread l)
      (unreads_then t u _ (expression_unread m)
      (unreads_then u computed _ (unreads_value u (values.BinaryExpression applied q p) (Some at.span))
      (unreads_value computed (values.StoreGlobal name (temporary u (Some at.span))) (Some at.span))))
  expression_unread (lowered.CompoundMember at there w fields parts pieces object key operator applied right s t u p is applies ls l) =
      let loaded : State = with_value t (load_of object key) (Some there.span) in
      unreads_then s t _ (all_unread ls)
      (unreads_then t loaded _ (unreads_value t (load_of object key) (Some there.span))
      (unreads_then loaded u _ (expression_unread l) (unreads_assigned t u object key applied p there.span)))
  expression_unread (lowered.CompoundPrivate at there fields operator applied right s t u q p applies l m) =
      unreads_then s t _ (expression_unread l)
      (unreads_then t u _ (expression_unread m) (unreads_value u (values.Primitive primitives.Undefined) (Some at.span)))
  expression_unread (lowered.Method at there w fields parts es pieces given_pieces object key given s t u is l given_are m) =
      let loaded : State = with_value t (load_of object key) (Some there.span) in
      unreads_then s t _ (all_unread l)
      (unreads_then t loaded _ (unreads_value t (load_of object key) (Some there.span))
      (unreads_then loaded u _ (all_unread given_are) (unreads_value u _ (Some at.span))))
  expression_unread (lowered.Cast at there w fields e type k s t p is annotated l) =
      unreads_then s t _ (expression_unread l)
      (unreads_then t (typed t k) _ (unreads_typed t k) (unreads_value (typed t k) _ (Some at.span)))
  expression_unread (lowered.Global at name binding s is plain) = unreads_value s (values.LoadGlobal binding) (Some at.span)
  expression_unread (lowered.RefusedGlobal at name binding s is refused) =
      unreads_noted_value s (refusal row.F2 at.span) (values.LoadGlobal binding) (Some at.span)
  expression_unread (lowered.Same at w fields e s t p is l) = expression_unread l
  expression_unread (lowered.Asked at w fields parts pieces v s t is l) =
      unreads_then s t _ (all_unread l) (unreads_value t v (Some at.span))
  expression_unread (lowered.Object at es pieces properties s t is l) =
      unreads_then s t _ (all_unread l) (unreads_value t (values.ObjectExpression properties) (Some at.span))
  expression_unread (lowered.Logical at operator left right s s2 s3 l r second first) =
      let f : LogicalParts = logical_at s at.span operator (span_of left) in
      let entry : State = logical_entered s at.span (span_of left) in
      let stored : State = stored_in entry (logical_place s at.span) (logical_left s (span_of left)) (span_of left) in
      let begun : State = logical_begun s at.span (span_of left) in
      let valued : State = stored_in s2 f.place r (value_span r right) in
      let gone : State = last_hole valued f.behind.id.0 gotos.Break (value_span r right) (aside_of f).0 in
      let righted : State = logical_righted f s2 r (value_span r right) in
      let moved : State = pushed s3 (loads f.left l f.span) in
      unreads_frame s entry moved (branch f.left f.consequent f.alternate f.behind.id.0 f.span) f.behind refl refl (omega arith) refl
      (own_note s.env.next_block s.env.next_block entry.env.next_block (omega arith) (omega arith))
      (unreads_then entry stored _
      (unreads_stored entry (logical_place s at.span) (logical_left s (span_of left)) (span_of left))
      (unreads_then stored begun _ (unreads_next stored s.env.next_block gotos.Break (span_of left) blocks.Value)
      (unreads_then begun s2 _ (expression_unread second)
      (unreads_then s2 valued _ (unreads_stored s2 f.place r (value_span r right))
      (unreads_then valued gone _ (unreads_last valued f.behind.id.0 gotos.Break (value_span r right) (aside_of f).0)
      (unreads_then gone righted _
      (unreads_ended gone (ends_by (kinds.Logical f.operator (aside_of f).1.id f.behind.id) (Some f.span)) (aside_of f).1 refl refl)
      (unreads_then righted s3 _ (expression_unread first) (unreads_pushed s3 (loads f.left l f.span)))))))))
  expression_unread (lowered.Conditional at test consequent alternate s s2 s3 s4 c a p second third first) =
      let f : TernaryParts = ternary_at s at.span in
      let g : TernaryParts = ternary_parted f s2 c (span_of consequent) in
      let begun : State = ternary_begun s at.span in
      let valued : State = stored_in s2 f.place c f.span in
      let between : State = ternary_consequent f s2 c (span_of consequent) in
      let other : State = stored_in s3 g.place a g.span in
      let gone : State = last_hole other g.behind.id.0 gotos.Break (span_of alternate) (ternary_aside g).0 in
      let behind : State = ternary_alternated g s3 a (span_of alternate) in
      unreads_frame s begun s4 (branch p g.consequent g.alternate g.behind.id.0 g.span) g.behind refl refl (omega arith) refl
      (own_note s.env.next_block s.env.next_block begun.env.next_block (omega arith) (omega arith))
      (unreads_then begun s2 _ (expression_unread second)
      (unreads_then s2 valued _ (unreads_stored s2 f.place c f.span)
      (unreads_then valued between _ (unreads_next valued f.behind.id.0 gotos.Break (span_of consequent) blocks.Value)
      (unreads_then between s3 _ (expression_unread third)
      (unreads_then s3 other _ (unreads_stored s3 g.place a g.span)
      (unreads_then other gone _ (unreads_last other g.behind.id.0 gotos.Break (span_of alternate) (ternary_aside g).0)
      (unreads_then gone behind _
      (unreads_ended gone (ends_by (kinds.Ternary (ternary_aside g).1.id g.behind.id) (Some g.span)) (ternary_aside g).1 refl refl)
      (expression_unread first))))))))
  expression_unread (lowered.Sequence at e es s s2 p l) =
      let f : SequenceParts = sequence_at s at.span in
      let begun : State = sequence_begun s at.span in
      let stored : State = stored_in s2 f.place p at.span in
      let gone : State = last_hole stored f.behind.id.0 gotos.Break at.span f.outer in
      unreads_then s begun _ (unreads_same s begun refl refl (omega arith))
      (unreads_then begun s2 _ (last_unread l)
      (unreads_then s2 stored _ (unreads_stored s2 f.place p at.span)
      (unreads_then stored gone _ (unreads_last stored f.behind.id.0 gotos.Break at.span f.outer)
      (unreads_ended gone (ends_by (kinds.Sequence (record { 0 = f.block }) f.behind.id) (Some f.span)) f.behind refl refl))))
  expression_unread (lowered.Chain at e s t p l) = spine_unread l

  pub moved_unread : {names : Names} {e : Syntax} {s t : State} {p : Place} → LoweredMoved names e s t p → Unreads s t
  moved_unread (lowered.Stays e s t p is d) = expression_unread d
  moved_unread (lowered.Moved at w fields s t p is d) =
      let noted : Diagnostic = diagnostic_at row.F29 (type_name w) at.span in
      unreads_then s (recorded s noted) t (unreads_noted s noted) (expression_unread d)

  pub target_unread : {names : Names} {at : Span} {value : Place} {e : Syntax} {s t : State} {p : Place}
      → LoweredTarget names at value e s t p → Unreads s t
  target_unread {names} {at} {value} (lowered.TargetVariable there name symbol identifier s is mutable f) =
      unreads_found_value names s symbol there.span (assigned_to identifier at value) (Some at)
  target_unread {names} (lowered.TargetConstant there name symbol identifier s is constant f) =
      let first : State = found names s symbol there.span in
      unreads_then s first _ (unreads_found names s symbol there.span)
      (unreads_noted first (diagnostic_at row.F6 (names.name symbol.0) there.span))
  target_unread {at} {value} (lowered.TargetGlobal there name binding s is) = unreads_value s (values.StoreGlobal name value) (Some at)
  target_unread {at} {value} (lowered.TargetMember there w fields parts pieces object key s t is l) =
      unreads_then s t _ (all_unread l) (unreads_value t (store_of object key value) (Some at))
  target_unread (lowered.TargetLost there w fields s is) = unreads_noted s (refusal (row_of_head w) there.span)
  target_unread {value} (lowered.TargetDefaulted there w fields target default s t u q p is d dt) =
      unreads_then s (default_ended (default_at s there.span value) t q) u
      (unreads_defaulted s t q value there.span (moved_blocks d) (moved_unread d)) (target_unread dt)
  target_unread {at} {value}
      (lowered.TargetPattern there w of_object forced items rest pattern pieces later s t u v is ahead taken are l) =
      let apart : InstructionValue = destructured variables.Reassign pattern value in
      unreads_then s t v (unreads_stays (ahead_stays ahead))
      (unreads_then t u v (unreads_stays (taken_stays taken))
      (unreads_then u (with_value u apart (Some at)) v (unreads_value u apart (Some at)) (later_unread l)))

  pub later_unread : {names : Names} {later : List Later} {s t : State} → LoweredLater names later s t → Unreads s t
  later_unread (lowered.NoLater s) = unreads_refl s
  later_unread (lowered.NextLater value part later s t u p d ds) = unreads_then s t u (target_unread d) (later_unread ds)

  pub spine_unread : {names : Names} {below : Bool} {e : Syntax} {s t : State} {p : Place} → LoweredSpine names below e s t p → Unreads s t
  spine_unread (lowered.Outermost e s t front p l) = link_unread l
  spine_unread (lowered.Asserted at e s t p l) = spine_unread l
  spine_unread (lowered.Broken at e s t p is l) =
      unreads_then s (recorded s (refusal row.F44 at.span)) t (unreads_noted s (refusal row.F44 at.span)) (spine_unread l)

  pub link_unread : {names : Names} {alternate : Option BlockId} {e : Syntax} {s t : State} {front : Front} {p : Place}
      → LoweredLink names alternate e s t front p → Unreads s t
  link_unread (lowered.LinkedProperty alternate at w optional object rest parts pieces o key s t u is l more) =
      let opened : State = link_objected (link_at s at.span optional alternate) t o in
      unreads_link alternate s t (with_value u (load_of o key) (Some at.span)) at.span optional o (temporary u (Some at.span))
      (front_blocks l).extends (extends_then (all_blocks more).extends (extends_value u (load_of o key) (Some at.span)))
      (front_unread l).keeps (unreads_then opened u _ (all_unread more) (unreads_value u (load_of o key) (Some at.span))).keeps
  link_unread (lowered.LinkedPrivate alternate at optional object name o s t l) =
      let opened : State = link_objected (link_at s at.span optional alternate) t o in
      unreads_link alternate s t (with_value (private_met opened at.span) (values.Primitive primitives.Undefined) (Some at.span)) at.span
      optional o (temporary (private_met opened at.span) (Some at.span)) (front_blocks l).extends
      (blocks_noted_value opened (refusal row.F3 at.span) (values.Primitive primitives.Undefined) (Some at.span)).extends
      (front_unread l).keeps (unreads_undefined opened (refusal row.F3 at.span) at.span).keeps
  link_unread (lowered.LinkedCall alternate at optional part es pieces given front s t u l more gathers) =
      let opened : State = link_objected (link_at s at.span optional alternate) t (tested_front front) in
      unreads_link alternate s t (with_value u (call_of front given) (Some at.span)) at.span optional (tested_front front)
      (temporary u (Some at.span)) (front_blocks l).extends
      (extends_then (all_blocks more).extends (extends_value u (call_of front given) (Some at.span)))
      (front_unread l).keeps (unreads_then opened u _ (all_unread more) (unreads_value u (call_of front given) (Some at.span))).keeps

  pub front_unread : {names : Names} {alternate : BlockId} {is_called : Bool} {e : Syntax} {s t : State} {front : Front}
      → LoweredFront names alternate is_called e s t front → Unreads s t
  front_unread (lowered.FrontLink alternate is_called e s t front p l) = link_unread l
  front_unread (lowered.FrontBroken alternate is_called at e s t p l) = spine_unread l
  front_unread (lowered.FrontMethod alternate at w fields parts pieces object key s t is l) =
      unreads_then s t _ (all_unread l) (unreads_value t (load_of object key) (Some at.span))
  front_unread (lowered.FrontAlone alternate is_called e s t p is l) = expression_unread l

  pub all_unread : {names : Names} {of_object : Bool} {es : Pieces} {s t : State} {pieces : List Piece}
      → LoweredParts names of_object es s t pieces → Unreads s t
  all_unread (lowered.NoPart s) = unreads_refl s
  all_unread (lowered.NextPart e es s t u p pieces l more) = unreads_then s t u (expression_unread l) (all_unread more)
  all_unread (lowered.NextSpread at e es s t u p pieces l more) = unreads_then s t u (expression_unread l) (all_unread more)
  all_unread (lowered.NextHole at es s u pieces more) = all_unread more
  all_unread (lowered.NextProperty at computed key e text es s t u p pieces is l more) =
      unreads_then s t u (expression_unread l) (all_unread more)
  all_unread (lowered.NextComputed at key e es s r t u p q pieces is k l more) =
      unreads_then s r u (expression_unread k) (unreads_then r t u (expression_unread l) (all_unread more))
  all_unread (lowered.NextFraction at there e text es s t u p pieces is l more) =
      let noted : State = recorded s (refusal row.F43 there.span) in
      unreads_then s noted u (unreads_noted s (refusal row.F43 there.span)) (unreads_then noted t u (expression_unread l) (all_unread more))
  all_unread (lowered.NextUnknown at computed key e es s u pieces is more) =
      unreads_then s (recorded s (refusal row.F9 (span_of key))) u (unreads_noted s (refusal row.F9 (span_of key))) (all_unread more)

  pub last_unread : {names : Names} {es : Pieces} {s t : State} {p : Place} → LoweredLast names es s t p → Unreads s t
  last_unread (lowered.LastPart e s t p l) = expression_unread l
  last_unread (lowered.EarlierPart e next es s t u p q l more) = unreads_then s t u (expression_unread l) (last_unread more)

mutual
  pub pattern_unread : {names : Names} {again : Bool} {k : InstructionKind} {at : Span} {value : Place} {e : Syntax} {s t : State}
      {p : Place} → LoweredPattern names again k at value e s t p → Unreads s t
  pattern_unread {names} {again} {k} {at} {value} (lowered.BoundName bind name type symbol identifier s annotated is f) =
      let here : State = met again names s symbol identifier bind.span in
      unreads_then s here _ (unreads_stays (stays_met again names s symbol bind.span identifier f))
      (unreads_value here (values.StoreLocal k (variable_at identifier at) value) (Some at))
  pattern_unread {value} (lowered.BoundDefault there pattern default s t u q p d dt) =
      unreads_then s (default_ended (default_at s there.span value) t q) u
      (unreads_defaulted s t q value there.span (moved_blocks d) (moved_unread d)) (pattern_unread dt)
  pattern_unread {k} {at} {value} (lowered.BoundPattern there w of_object items rest pattern pieces later s u v is bound are l) =
      let apart : InstructionValue = destructured k pattern value in
      unreads_then s u v (unreads_stays (bound_stays bound))
      (unreads_then u (with_value u apart (Some at)) v (unreads_value u apart (Some at)) (bound_unread l))

  pub bound_unread : {names : Names} {again : Bool} {k : InstructionKind} {later : List Later} {s t : State}
      → LoweredBound names again k later s t → Unreads s t
  bound_unread (lowered.NothingBound s) = unreads_refl s
  bound_unread (lowered.NextBound value part later s t u p d ds) = unreads_then s t u (pattern_unread d) (bound_unread ds)

pub params_unread : {names : Names} {es : Pieces} {rest : Syntax} {s t : State} {ps : List Param}
    → LoweredParams names es rest s t ps → Unreads s t
params_unread (lowered.NoParam s) = unreads_refl s
params_unread (lowered.RestParam there pattern s t p d) =
    let made : State = with_temporary s (Some there.span) in
    unreads_then s made t (unreads_same s made refl refl (omega arith)) (pattern_unread d)
params_unread {names} (lowered.PlainParam there bind name type rest more symbol identifier s t ps annotated is f ds) =
    unreads_then s _ t (unreads_found names s symbol bind.span) (params_unread ds)
params_unread (lowered.PatternParam there pattern rest more s t u p ps is d ds) =
    unreads_then s (promoted s there.span) u (unreads_same s (promoted s there.span) refl refl (omega arith))
    (unreads_then _ t u (pattern_unread d) (params_unread ds))
params_unread (lowered.DefaultParam there pattern default rest more s t u v q p ps d dt ds) =
    let x : State = promoted s there.span in
    let ended : State = default_ended (default_at x there.span (caught s there.span)) t q in
    unreads_then s x v (unreads_same s x refl refl (omega arith))
    (unreads_then x ended v (unreads_defaulted x t q (caught s there.span) there.span (moved_blocks d) (moved_unread d))
    (unreads_then ended u v (pattern_unread dt) (params_unread ds)))

declarators_unread : {names : Names} {at : Span} {k : InstructionKind} {es : Pieces} {s t : State}
    → LoweredDeclarators names at k es s t → Unreads s t
declarators_unread (lowered.NoDeclarator s) = unreads_refl s
declarators_unread {names} (lowered.NextDeclared there bind name type more symbol identifier s u annotated is f l) =
    unreads_then s _ u (unreads_found_value names s symbol bind.span _ (Some bind.span)) (declarators_unread l)
declarators_unread {names} {at} (lowered.NextInitialized there bind name type init more symbol identifier s t u p annotated is l f ls) =
    unreads_then s t u (expression_unread l)
    (unreads_then t _ u (unreads_found_value names t symbol bind.span _ (Some at)) (declarators_unread ls))
declarators_unread (lowered.NextTakenApart there pattern init more s t u v p q is present d dp ds) =
    unreads_then s t v (expression_unread d) (unreads_then t u v (pattern_unread dp) (declarators_unread ds))
declarators_unread {at} (lowered.NextUntaken there pattern more s u v q is dp ds) =
    let made : State = with_value s (values.Primitive primitives.Undefined) (Some at) in
    unreads_then s made v (unreads_value s (values.Primitive primitives.Undefined) (Some at))
    (unreads_then made u v (pattern_unread dp) (declarators_unread ds))

unreads_returned : (s : State) (span : Option Span) (place : Place)
    → Unreads s (returned_from s span returns.Explicit place blocks.Block)
unreads_returned s span place =
    unreads_then s (reserved s) _ (unreads_same s (reserved s) refl refl (omega arith))
    (unreads_ended (reserved s) (return_of span returns.Explicit place) (new_block s.env.next_block blocks.Block) refl refl)

test_unread : {names : Names} {at : Span} {e : Syntax} {s t : State} {p : Place} → LoweredTest names at e s t p → Unreads s t
test_unread {at} (lowered.NoTest s) =
    unreads_noted_value s (refusal row.F32 at) (values.Primitive (primitives.Boolean true)) (Some at)
test_unread (lowered.Tested e s t p l) = expression_unread l

case_test_unread : {names : Names} {e : Syntax} {s t : State} {p : Option Place} → LoweredCaseTest names e s t p → Unreads s t
case_test_unread (lowered.NoCaseTest s) = unreads_refl s
case_test_unread (lowered.CaseTested e s t p is l) = expression_unread l
case_test_unread (lowered.CaseMoved at w fields s t p is l) =
    let noted : Diagnostic = diagnostic_at row.F29 (type_name w) at.span in
    unreads_then s (recorded s noted) t (unreads_noted s noted) (expression_unread l)

unreads_threw : (s : State) (span : Span) (place : Place) → Unreads s (threw_from s span place blocks.Block)
unreads_threw s span place =
    unreads_then s (reserved s) _ (unreads_same s (reserved s) refl refl (omega arith))
    (unreads_ended (reserved s) (ends_by (kinds.Throw place) (Some span)) (new_block s.env.next_block blocks.Block) refl refl)

-- The head of a loop over keys or values.
head_unread : {names : Names} {value : Place} {e : Syntax} {s t : State} {p : Place} → LoweredHead names value e s t p → Unreads s t
head_unread {names} (lowered.Declared at there bind kind name type symbol identifier s annotated is f) =
    let again : State = found_again names s symbol identifier bind.span in
    unreads_then s again _ (unreads_same s again refl refl (omega arith)) (unreads_value again _ (Some at.span))
head_unread {names} (lowered.Reassigned at name symbol identifier s is mutable f) =
    unreads_found_value names s symbol at.span _ (Some at.span)
head_unread {names} (lowered.ReassignedConstant at name symbol identifier s is constant f) =
    let first : State = found names s symbol at.span in
    unreads_then s first _ (unreads_found names s symbol at.span)
    (unreads_noted first (diagnostic_at row.F6 (names.name symbol.0) at.span))
head_unread {value} (lowered.StoredGlobal at name binding s is) = unreads_value s (values.StoreGlobal name value) (Some at.span)
head_unread {value} (lowered.StoredMember at w fields parts pieces object key s t is l) =
    unreads_then s t _ (all_unread l) (unreads_value t (store_of object key value) (Some at.span))
head_unread (lowered.DeclaredPattern at there kind pattern s t p is d) = pattern_unread d
head_unread (lowered.StoredPattern at w fields s t p is d) = target_unread d
head_unread (lowered.Lost at w fields s is) = unreads_noted s (refusal (row_of_head w) at.span)

mutual
  pub statement_unread : {names : Names} {e : Syntax} {s t : State} → LoweredStatement names e s t → Unreads s t
  statement_unread (lowered.Empty at s) = unreads_refl s
  statement_unread (lowered.Expression at e s t p l) = expression_unread l
  statement_unread (lowered.Debugger at s) = unreads_value s values.Debugger (Some at.span)
  statement_unread (lowered.Variables at k declarators s t l) =
      unreads_then s (declaring s k at.span) t (unreads_declaring s k at.span) (declarators_unread l)
  statement_unread (lowered.ReturnNothing at s) =
      let valued : State = with_value s (values.Primitive primitives.Undefined) None in
      unreads_then s valued _ (unreads_value s (values.Primitive primitives.Undefined) None)
      (unreads_returned valued (Some at.span) (temporary s None))
  statement_unread (lowered.Return at e s t p l) = unreads_then s t _ (expression_unread l) (unreads_returned t (Some at.span) p)
  statement_unread (lowered.Block at statements s t l) = statements_unread l
  statement_unread (lowered.IfThen at test consequent s s2 s3 p second first) =
      let f : IfParts = if_after_consequent (if_at s at.span false) s2 in
      let behind : State = if_consequent (if_at s at.span false) s2 (span_of consequent) in
      unreads_then s (if_begun s) _ (unreads_same s (if_begun s) refl refl (omega arith))
      (unreads_then (if_begun s) s2 _ (statement_unread second)
      (unreads_then s2 behind _ (unreads_last s2 s.env.next_block gotos.Break (span_of consequent) s.current)
      (unreads_then behind s3 _ (expression_unread first)
      (unreads_ended s3 (if_end f.behind.id.0 f.consequent f.alternate p f.span) f.behind refl refl))))
  statement_unread (lowered.IfElse at test consequent alternate s s2 s3 s4 p second third first) =
      let f : IfParts = if_after_consequent (if_at s at.span true) s2 in
      let between : State = if_consequent (if_at s at.span true) s2 (span_of consequent) in
      let behind : State = if_alternate f s3 (span_of alternate) in
      unreads_then s (if_begun s) _ (unreads_same s (if_begun s) refl refl (omega arith))
      (unreads_then (if_begun s) s2 _ (statement_unread second)
      (unreads_then s2 between _ (unreads_next s2 s.env.next_block gotos.Break (span_of consequent) blocks.Block)
      (unreads_then between s3 _ (statement_unread third)
      (unreads_then s3 behind _ (unreads_last s3 s.env.next_block gotos.Break (span_of alternate) s.current)
      (unreads_then behind s4 _ (expression_unread first)
      (unreads_ended s4 (if_end f.behind.id.0 f.consequent f.alternate p f.span) f.behind refl refl))))))
  statement_unread (lowered.Unlabeled loop s t l) = loop_unread l
  statement_unread (lowered.LabeledLoop at label loop s t l) = loop_unread l
  statement_unread (lowered.Labeled at label body s s2 other l) =
      let f : LabelParts = label_at s at.span in
      unreads_then s (label_begun s label) _ (unreads_same s (label_begun s label) refl refl (omega arith))
      (unreads_then (label_begun s label) s2 _ (statement_unread l)
      (unreads_scope_ended s2 f.behind.id.0 gotos.Break (span_of body) s.current (label_end s.env.next_block at.span) f.behind refl refl))
  statement_unread (lowered.Break at label target s is) = unreads_next s target.0 gotos.Break at.span blocks.Block
  statement_unread (lowered.Continue at label target s is) = unreads_next s target.0 gotos.Continue at.span blocks.Block
  statement_unread (lowered.Throw at e s t p l) =
      let thrown : State = throwing t at.span in
      unreads_then s t _ (expression_unread l) (unreads_then t thrown _ (unreads_throwing t at.span) (unreads_threw thrown at.span p))
  statement_unread (lowered.Switch at value cases ks s t u p all l) =
      unreads_then s (switch_begun s) _ (unreads_same s (switch_begun s) refl refl (omega arith))
      (unreads_then (switch_begun s) t _ (cases_unread all)
      (unreads_then t u _ (expression_unread l)
      (unreads_ended u (switch_end s.env.next_block ks p at.span) (new_block s.env.next_block blocks.Block) refl refl)))
  statement_unread (lowered.TryPlain at there block body s s2 s3 first second) =
      unreads_tried s (reserved s) s2 s3 there.span (span_of block)
      (try_end s.env.next_block (reserved s).env.next_block s2.env.next_block None at.span) refl refl (unreads_refl (reserved s))
      (statement_unread first) (statement_unread second)
  statement_unread {names} (lowered.TryBound at there bind name type block body symbol identifier s s2 s3 annotated is f first second) =
      let made : State = promoted s bind.span in
      let declared : State = catch_declared s bind.span in
      let begun : State = catch_begun s bind.span in
      unreads_then s made _ (unreads_same s made refl refl (omega arith))
      (unreads_tried made declared s2 s3 there.span (span_of block)
      (try_end s.env.next_block declared.env.next_block s2.env.next_block (Some (caught s bind.span)) at.span) refl refl
      (unreads_value (reserved made) (declares_caught s bind.span) (Some bind.span))
      (unreads_then begun (catch_bound names s symbol identifier bind.span) s2
      (unreads_found_value names begun symbol bind.span (stores_caught s identifier bind.span) (Some bind.span)) (statement_unread first))
      (statement_unread second))
  statement_unread (lowered.Finalized at there block param body finalizer s t is l) =
      unreads_then s (recorded s (refusal row.F35 at.span)) t (unreads_noted s (refusal row.F35 at.span)) (statement_unread l)
  statement_unread (lowered.Uncaught at block finalizer s) = unreads_noted s (refusal row.F34 at.span)
  statement_unread (lowered.With at fields s) = unreads_noted s (refusal row.F36 at.span)

  cases_unread : {names : Names} {s : State} {es : Pieces} {ks : List Case} {t : State} → LoweredCases names s es ks t
      → Unreads (switch_begun s) t
  cases_unread (lowered.NoCase s) = unreads_refl (switch_begun s)
  cases_unread (lowered.NextCase at test statements cases ks s x y z p all l tested) =
      let begun : State = case_begun x None s.env.next_block in
      let left : State = without_scope y in
      let shut : State = case_ended y (fall_of s.env.next_block ks) x.current at.span in
      unreads_then (switch_begun s) x z (cases_unread all)
      (unreads_then x begun z (unreads_same x begun refl refl (omega arith))
      (unreads_then begun y z (statements_unread l)
      (unreads_then y left z (unreads_same y left refl refl (omega arith))
      (unreads_then left shut z (unreads_last left (fall_of s.env.next_block ks) gotos.Break at.span x.current)
      (case_test_unread tested)))))

  pub loop_unread : {names : Names} {own : Label} {e : Syntax} {s t : State} → LoweredLoop names own e s t → Unreads s t
  loop_unread {own} (lowered.While at test body s s2 s3 p second first) =
      let b = statement_unread second in
      let l = expression_unread first in record {
        grows = omega (arith, b.grows, l.grows);
        handlers = l.handlers ∙ b.handlers;
        keeps = while_unread s s2 s3 own p at.span (span_of body) (statement_blocks second).extends (expression_blocks first).extends
            b.keeps l.keeps;
      }
  loop_unread {own} (lowered.DoWhile at test body s s2 s3 p first second) =
      let b = statement_unread first in
      let l = expression_unread second in record {
        grows = omega (arith, b.grows, l.grows);
        handlers = l.handlers ∙ b.handlers;
        keeps = do_while_unread s s2 s3 own p at.span (span_of body) (statement_blocks first).extends (expression_blocks second).extends
            b.keeps l.keeps;
      }
  loop_unread {own} (lowered.ForUpdated at init test update body s s2 s3 s4 s5 u p first third fourth second) =
      let f : ForParts = for_at s at.span own true in
      let g : ForParts = for_after_init f s2 in
      let h : ForParts = for_after_update g s3 in
      let updating : State = for_inited f s2 (part_span at.span init) in
      let opened : State = for_updated g s3 (span_of update) in
      let testing : State = for_bodied h s4 (span_of body) in
      unreads_frame s (for_begun s) s5 (branch p h.body h.behind.id.0 h.behind.id.0 h.span) h.behind refl refl (omega arith) refl
      (own_note (s.env.next_block + 1) s.env.next_block (for_begun s).env.next_block (omega arith) (omega arith))
      (unreads_then (for_begun s) s2 _ (init_unread first)
      (unreads_then s2 updating _ (unreads_next s2 f.test gotos.Break (part_span at.span init) blocks.Loop)
      (unreads_then updating s3 _ (expression_unread third)
      (unreads_then s3 opened _ (unreads_for_opened g s3 (span_of update))
      (unreads_then opened s4 _ (statement_unread fourth)
      (unreads_then s4 testing _
      (unreads_scope_ended s4 (for_again h).0 gotos.Continue (span_of body) s.current (for_end f.test h.update h.body at.span)
      (for_aside h).1 refl refl)
      (test_unread second)))))))
  loop_unread {own} (lowered.ForPlain at init test body s s2 s3 s4 p first third second) =
      let f : ForParts = for_at s at.span own false in
      let g : ForParts = for_after_init f s2 in
      let opened : State = for_inited f s2 (part_span at.span init) in
      let testing : State = for_bodied g s3 (span_of body) in
      unreads_frame s (for_begun s) s4 (branch p g.body g.behind.id.0 g.behind.id.0 g.span) g.behind refl refl (omega arith) refl
      (own_note (s.env.next_block + 1) s.env.next_block (for_begun s).env.next_block (omega arith) (omega arith))
      (unreads_then (for_begun s) s2 _ (init_unread first)
      (unreads_then s2 opened _ (unreads_for_opened f s2 (part_span at.span init))
      (unreads_then opened s3 _ (statement_unread third)
      (unreads_then s3 testing _
      (unreads_scope_ended s3 (for_again g).0 gotos.Continue (span_of body) s.current (for_end f.test g.update g.body at.span)
      (for_aside g).1 refl refl)
      (test_unread second)))))
  loop_unread {own} (lowered.ForIn at head right body s s2 s3 s4 collection p first second third) =
      let f : RoundsParts = rounds_shut (forin_at s at.span) in
      let b = statement_unread first in
      let r = expression_unread second in
      let v = unreads_value (forin_headed f s3) (values.NextPropertyOf collection) (Some (span_of head)) in
      let h = head_unread third in record {
        grows = omega (arith, b.grows, r.grows, v.grows, h.grows);
        handlers = h.handlers ∙ v.handlers ∙ r.handlers ∙ b.handlers;
        keeps = forin_unread s s2 s3 s4 own collection p at.span (span_of head) (span_of body) (statement_blocks first).extends
            (expression_blocks second).extends (head_blocks third).extends b.keeps r.keeps h.keeps;
      }
  loop_unread {own} (lowered.ForOf at head right body s s2 s3 s4 collection p first second third) =
      let f : ForOfParts = forof_shut (forof_at s at.span) in
      let b = statement_unread first in
      let r = expression_unread second in
      let o = unreads_value (forof_headed f s3) (values.GetIterator collection) collection.span in
      let v = unreads_value (forof_tested f s3 collection) (values.IteratorNext (forof_iterator f s3 collection) collection)
      (Some (span_of head)) in
      let h = head_unread third in record {
        grows = omega (arith, b.grows, r.grows, o.grows, v.grows, h.grows);
        handlers = h.handlers ∙ v.handlers ∙ o.handlers ∙ r.handlers ∙ b.handlers;
        keeps = forof_unread s s2 s3 s4 own collection p at.span (span_of head) (span_of body) (statement_blocks first).extends
            (expression_blocks second).extends (head_blocks third).extends b.keeps r.keeps h.keeps;
      }
  loop_unread (lowered.AwaitRefused at head right body s) = unreads_noted s (refusal row.F33 at.span)

  init_unread : {names : Names} {at : Span} {e : Syntax} {s t : State} → LoweredInit names at e s t → Unreads s t
  init_unread {at} (lowered.NoInit s) = unreads_value s (values.Primitive primitives.Undefined) (Some at)
  init_unread (lowered.DeclaredInit there fields s t l) = statement_unread l
  init_unread {at} (lowered.RefusedInit e s t p l) =
      unreads_then s (recorded s (refusal row.F31 at)) t (unreads_noted s (refusal row.F31 at)) (expression_unread l)

  pub statements_unread : {names : Names} {es : Pieces} {s t : State} → LoweredStatements names es s t → Unreads s t
  statements_unread (lowered.NoStatement s) = unreads_refl s
  statements_unread (lowered.NextStatement e es s t u l more) = unreads_then s t u (statement_unread l) (statements_unread more)

pub body_unread : {names : Names} {b : Syntax} {s t : State} → LoweredBody names b s t → KeepsUnread s t
body_unread (lowered.Statements at directives statements s t texts l) = (statements_unread l).keeps
body_unread (lowered.Value e s t p l) =
    (unreads_then s (reserved s) _ (unreads_same s (reserved s) refl refl (omega arith))
    (unreads_then (reserved s) t _ (expression_unread l)
    (unreads_ended t (return_of None returns.Implicit p) (new_block s.env.next_block blocks.Block) refl refl))).keeps
