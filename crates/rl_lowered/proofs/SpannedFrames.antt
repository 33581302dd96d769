-- Constructs give no span that is none of the tree's, where their holes give none.
use Rattle.std.proofs.Common.{ℕ, ◌+◌, true, false, List, [], ◌∷◌, Some, Bool, None, Option, ap, is_some, length, refl, subst, sym}
use Rattle.std.proofs.Common.{append-nil, ◌∙◌}
use Rattle.std.specs.Prelude.{IfSome, ◌≡◌, ◌++◌}
use Rattle.std.proofs.lemmas.List.Elements.{All-push}
use Rattle.rl_base.specs.declared.operator.BinaryOperator.TheVariants as binaries
use Rattle.rl_base.specs.declared.operator.LogicalOperator.{LogicalOperator}
use Rattle.rl_base.specs.declared.row.Row.TheVariants as row
use Rattle.rl_builder.specs.Builder.{completed_by, entered, innermost, new_block, pushed, reserved, with_temporary}
use Rattle.rl_builder.specs.declared.blocks.WipBlock.{WipBlock}
use Rattle.rl_builder.specs.Temporaries.{temporary, with_value}
use Rattle.rl_frames.specs.Frames.{ForParts, IfParts, LogicalParts, SequenceParts, TernaryParts, do_while_bodied, for_after, for_after_init}
use Rattle.rl_frames.specs.Frames.{for_after_update, for_again, for_aside, for_at, for_bodied, for_ended, for_inited, for_opened}
use Rattle.rl_frames.specs.Frames.{for_updated, if_after_consequent, if_alternate, if_at, if_consequent, if_ended, if_shut, label_at}
use Rattle.rl_frames.specs.Frames.{label_ended, logical_after, logical_at, logical_ended, logical_righted, sequence_at, sequence_ended}
use Rattle.rl_frames.specs.Frames.{ternary_after, ternary_alternated, ternary_at, ternary_consequent, ternary_ended, ternary_parted}
use Rattle.rl_frames.specs.Frames.{while_after, while_at, while_bodied, while_ended}
use Rattle.rl_frames.specs.Parts.{chain_reserved, do_while_end, for_begun, forin_begun, forin_end, forof_begun, forof_end, if_begun, if_end}
use Rattle.rl_frames.specs.Parts.{label_begun}
use Rattle.rl_frames.specs.Parts.{label_end, loads, logical_begun, logical_entered, logical_left, logical_place, sequence_begun}
use Rattle.rl_frames.specs.Parts.{ternary_begun, ternary_place, try_begun, try_handler, while_begun, while_end}
use Rattle.rl_frames.specs.Rounds.{ForOfParts, forin_at, forin_headed, forin_righted, forof_after, forof_at, forof_bodied, forof_ended}
use Rattle.rl_frames.specs.Rounds.{forof_headed, forof_iterator, forof_righted, forof_shut, forof_tested, rounds_bodied, rounds_ended}
use Rattle.rl_frames.specs.Rounds.{rounds_opened, rounds_shut}
use Rattle.rl_frames.specs.SwitchParts.{case_begun, case_ended, switch_end, switch_finished, with_default}
use Rattle.rl_hir.specs.declared.function.BlockKind.{BlockKind}
use Rattle.rl_hir.specs.declared.function.BlockKind.TheVariants as block
use Rattle.rl_hir.specs.declared.function.Identifier.{Identifier}
use Rattle.rl_hir.specs.declared.instruction.InstructionValue.TheVariants as values
use Rattle.rl_hir.specs.declared.instruction.PrimitiveValue.TheVariants as primitives
use Rattle.rl_hir.specs.declared.terminal.Case.{Case}
use Rattle.rl_hir.specs.declared.terminal.GotoVariant.{GotoVariant}
use Rattle.rl_hir.specs.declared.terminal.GotoVariant.TheVariants as gotos
use Rattle.rl_hir.specs.declared.terminal.Terminal.{Terminal}
use Rattle.rl_hir.specs.declared.terminal.TerminalKind.TheVariants as kinds
use Rattle.rl_lowered.proofs.Catches.{catch_declared, declares_caught, stores_caught}
use Rattle.rl_lowered.proofs.Common.{BlockId, Names, Place, Span, State, SymbolId}
use Rattle.rl_lowered.proofs.SpannedMoves.{completed_spans, entered_spans, found_spans, last_hole_spans, more_spanned, next_hole_spans}
use Rattle.rl_lowered.proofs.SpannedMoves.{none_spanned, one_spanned, pushed_spans, recorded_spans, reserved_spans, scopes_spans}
use Rattle.rl_lowered.proofs.SpannedMoves.{stored_spans, temporary_spans, value_spans}
use Rattle.rl_lowered.specs.Items.{caught, promoted, promoted_identifier}
use Rattle.rl_lowered.specs.Lowered.{catch_begun, catch_bound, throwing, throwing_under}
use Rattle.rl_lowered.specs.Named.{found}
use Rattle.rl_lowered.specs.Spanned.{HasSpans, KeepsSpans}
use Rattle.rl_machine.specs.Machine.{default_case}
use Rattle.rl_model.specs.Actions.{Label}
use Rattle.rl_model.specs.WellFormed.{case_places}
use Rattle.rl_optional_frames.specs.Frames.{LinkParts, default_at, default_ended, default_tested, link_after, link_at, link_block}
use Rattle.rl_optional_frames.specs.Frames.{link_ended, link_objected}
use Rattle.rl_optional_frames.specs.Parts.{compared, comparison, default_begun, default_end, default_given, default_other, default_reserved}
use Rattle.rl_optional_frames.specs.Parts.{link_opened, link_reserved, undefined_made}
use Rattle.rl_promises.specs.Rows.{refusal}
use Rattle.rl_promises.specs.Spans.{AreSpanned, IsSpannedTerminal}
use Rattle.rl_runs.specs.Moves.{block_id, branch, ends_by, goto, last_hole, next_hole, stored_in, threw_from, without_handler}
use Rattle.rl_runs.specs.Moves.{without_scope}

module _ (P : Span → Type 0) where
  two_spans : (s : State) → KeepsSpans P s (reserved (reserved s))
  two_spans s h = reserved_spans P (reserved s) (reserved_spans P s h)

  -- A block opens, behind a place that was made.
  opened_spans : (s : State) (span : Span) (wip : WipBlock) → P span
      → KeepsSpans P s (entered (reserved (with_temporary s (Some span))) wip)
  opened_spans s span wip at h =
      entered_spans P (reserved (with_temporary s (Some span))) wip
      (reserved_spans P (with_temporary s (Some span)) (temporary_spans P s (Some span) at h))

  branched_spans : (s : State) (test : Place) (consequent alternate behind : ℕ) (span : Span) (next : WipBlock) → P span
      → IfSome test.span P → KeepsSpans P s (completed_by s (branch test consequent alternate behind span) next)
  branched_spans s test consequent alternate behind span next at place h =
      completed_spans P s (branch test consequent alternate behind span) next (record { own = at; places = one_spanned P test place }) h

  -- A logical expression
  pub logical_spans : (s s2 s3 : State) (span left right : Span) (operator : LogicalOperator) (l r : Place) → P span → P left → P right
      → IfSome r.span P → IfSome l.span P → KeepsSpans P (logical_begun s span left) s2
      → KeepsSpans P (logical_righted (logical_at s span operator left) s2 r right) s3
      → KeepsSpans P s (logical_ended (logical_after (logical_at s span operator left)) s3 l)
  logical_spans s s2 s3 span left right operator l r at left_at right_at right_place left_place second first h =
      branched_spans (pushed s3 (loads frame.left l span)) frame.left frame.consequent frame.alternate frame.behind.id.0 span
      frame.behind at left_at
      (pushed_spans P s3 (loads frame.left l span)
      (record { own = at; cast = tt; places = more_spanned P frame.left (l ∷ []) left_at (one_spanned P l left_place) }) (first righted))
    where
      frame : LogicalParts
      frame = logical_at s span operator left

      two : State
      two = with_temporary (reserved (reserved s)) (Some span)

      begun : HasSpans P (logical_begun s span left)
      begun =
          next_hole_spans P (stored_in (logical_entered s span left) (logical_place s span) (logical_left s left) left) s.env.next_block
          gotos.Break left block.Value left_at
          (stored_spans P (logical_entered s span left) (logical_place s span) (logical_left s left) left at left_at left_at
          (opened_spans two left (new_block (s.env.next_block + 1 + 1) block.Value) left_at
          (temporary_spans P (reserved (reserved s)) (Some span) at (two_spans s h))))

      righted : HasSpans P (logical_righted (logical_at s span operator left) s2 r right)
      righted =
          completed_spans P (last_hole (stored_in s2 frame.place r right) frame.behind.id.0 gotos.Break right s.current)
          (ends_by (kinds.Logical operator (block_id (s.env.next_block + 1)) (block_id s.env.next_block)) (Some span))
          (new_block (s.env.next_block + 1) block.Value) (record { own = at; places = none_spanned P })
          (last_hole_spans P (stored_in s2 frame.place r right) frame.behind.id.0 gotos.Break right s.current right_at
          (stored_spans P s2 frame.place r right at right_place right_at (second begun)))

  -- A conditional expression
  pub ternary_spans : (s s2 s3 s4 : State) (span part other : Span) (c a p : Place) → P span → P part → P other → IfSome c.span P
      → IfSome a.span P → IfSome p.span P → KeepsSpans P (ternary_begun s span) s2
      → KeepsSpans P (ternary_consequent (ternary_at s span) s2 c part) s3
      → KeepsSpans P (ternary_alternated (ternary_parted (ternary_at s span) s2 c part) s3 a other) s4
      → KeepsSpans P s (ternary_ended (ternary_after (ternary_parted (ternary_at s span) s2 c part)) s4 p)
  ternary_spans s s2 s3 s4 span part other c a p at part_at other_at c_place a_place p_place first second third h =
      branched_spans s4 p frame.consequent frame.alternate frame.behind.id.0 span frame.behind at p_place
      (third
      (completed_spans P (last_hole (stored_in s3 (ternary_place s span) a span) s.env.next_block gotos.Break other s.current)
      (ends_by (kinds.Ternary (block_id (s.env.next_block + 1)) (block_id s.env.next_block)) (Some span))
      (new_block (s.env.next_block + 1) block.Value) (record { own = at; places = none_spanned P })
      (last_hole_spans P (stored_in s3 (ternary_place s span) a span) s.env.next_block gotos.Break other s.current other_at
      (stored_spans P s3 (ternary_place s span) a span at a_place at
      (second
      (next_hole_spans P (stored_in s2 (ternary_place s span) c span) s.env.next_block gotos.Break part block.Value part_at
      (stored_spans P s2 (ternary_place s span) c span at c_place at
      (first
      (opened_spans (reserved (reserved s)) span (new_block (s.env.next_block + 1 + 1) block.Value) at (two_spans s h))))))))))
    where
      frame : TernaryParts
      frame = ternary_parted (ternary_at s span) s2 c part

  -- A sequence of expressions
  pub sequence_spans : (s s2 : State) (span part : Span) (p : Place) → P span → P part → IfSome p.span P
      → KeepsSpans P (sequence_begun s span) s2 → KeepsSpans P s (sequence_ended (sequence_at s span) s2 p part)
  sequence_spans s s2 span part p at part_at place hole h =
      completed_spans P (last_hole (stored_in s2 frame.place p part) frame.behind.id.0 gotos.Break part s.current)
      (ends_by (kinds.Sequence (block_id (s.env.next_block + 1)) (block_id s.env.next_block)) (Some span)) frame.behind
      (record { own = at; places = none_spanned P })
      (last_hole_spans P (stored_in s2 frame.place p part) frame.behind.id.0 gotos.Break part s.current part_at
      (stored_spans P s2 frame.place p part at place part_at
      (hole (opened_spans (reserved s) span (new_block (s.env.next_block + 1) block.Sequence) at (reserved_spans P s h)))))
    where
      frame : SequenceParts
      frame = sequence_at s span

  -- A link of a chain, inside it or outermost

  link_opened_spans : (alternate : Option BlockId) (s : State) (span : Span) → P span → KeepsSpans P s (link_opened alternate s span)
  link_opened_spans alternate s span at h =
      entered_spans P (reserved x) (new_block x.env.next_block block.Value) (reserved_spans P x (begun alternate))
    where
      x : State
      x = link_reserved alternate s span

      y : State
      y = chain_reserved s span

      sa : State
      sa = entered (reserved y) (new_block y.env.next_block block.Value)

      numbered : HasSpans P y
      numbered = temporary_spans P (reserved (reserved s)) (Some span) at (two_spans s h)

      begun : (alternate : Option BlockId) → HasSpans P (link_reserved alternate s span)
      begun None =
          last_hole_spans P (stored_in (undefined_made sa span) (temporary s (Some span)) (temporary y (Some span)) span) s.env.next_block
          gotos.Break span s.current at
          (stored_spans P (undefined_made sa span) (temporary s (Some span)) (temporary y (Some span)) span at at at
          (value_spans P sa (values.Primitive primitives.Undefined) (Some span) at tt (none_spanned P)
          (entered_spans P (reserved y) (new_block y.env.next_block block.Value) (reserved_spans P y numbered))))
      begun (Some given) = numbered

  pub linked_spans : (alternate : Option BlockId) (s s2 s4 : State) (span : Span) (optional : Bool) (object value : Place) → P span
      → IfSome object.span P → IfSome value.span P → KeepsSpans P (link_opened alternate s span) s2
      → KeepsSpans P (link_objected (link_at s span optional alternate) s2 object) s4
      → KeepsSpans P s (link_ended (link_after (link_at s span optional alternate)) s4 value)
  linked_spans alternate s s2 s4 span optional object value at object_place value_place first second h =
      completed_spans P (last_hole (stored_in s4 f.place value span) f.behind.id.0 gotos.Break span f.outer)
      (ends_by (kinds.Optional optional (block_id f.test) f.behind.id) (Some span)) f.behind
      (record { own = at; places = none_spanned P })
      (last_hole_spans P (stored_in s4 f.place value span) f.behind.id.0 gotos.Break span f.outer at
      (stored_spans P s4 f.place value span at value_place at
      (second
      (branched_spans s2 object (link_block f).id.0 f.alternate.0 f.behind.id.0 span (link_block f) at object_place
      (first (link_opened_spans alternate s span at h))))))
    where
      f : LinkParts
      f = link_at s span optional alternate

  -- A default, which the value passes.
  pub default_spans : (s s2 : State) (default value : Place) (span : Span) → P span → IfSome default.span P → IfSome value.span P
      → KeepsSpans P (default_begun s span) s2 → KeepsSpans P s (default_ended (default_at s span value) s2 default)
  default_spans s s2 default value span at default_place value_place hole h =
      branched_spans met (comparison tested span) (n + 1 + 1) (default_other s2 place default span) f span (new_block f s.current.kind) at
      at
      (value_spans P undefined (values.BinaryExpression binaries.StrictEquality value (temporary tested (Some span))) (Some span) at tt
      (more_spanned P value (temporary tested (Some span) ∷ []) value_place (one_spanned P (temporary tested (Some span)) at))
      (value_spans P tested (values.Primitive primitives.Undefined) (Some span) at tt (none_spanned P)
      (completed_spans P (last_hole (stored_in between place value span) f gotos.Break span s.current) (default_end n f span)
      (new_block n block.Value) (record { own = at; places = none_spanned P })
      (last_hole_spans P (stored_in between place value span) f gotos.Break span s.current at
      (stored_spans P between place value span at value_place at
      (next_hole_spans P (stored_in s2 place default span) f gotos.Break span block.Value at
      (stored_spans P s2 place default span at default_place at
      (hole
      (entered_spans P (reserved (default_reserved s span)) (new_block (n + 1 + 1) block.Value)
      (reserved_spans P (default_reserved s span)
      (two_spans (with_temporary s (Some span)) (temporary_spans P s (Some span) at h))))))))))))
    where
      n : ℕ
      n = s.env.next_block

      f : ℕ
      f = n + 1

      place : Place
      place = temporary s (Some span)

      between : State
      between = default_given s2 f place default span

      tested : State
      tested = default_tested (default_at s span value) s2 default

      undefined : State
      undefined = undefined_made tested span

      met : State
      met = compared tested value span

  -- An `if` statement

  if_begun_spans : (s : State) → KeepsSpans P s (if_begun s)
  if_begun_spans s h = entered_spans P (reserved (reserved s)) (new_block (s.env.next_block + 1) block.Block) (two_spans s h)

  -- The hole of the test ends, and the block behind goes on.
  if_ended_spans : (f : IfParts) (s : State) (test : Place) → P f.span → IfSome test.span P → KeepsSpans P s (if_ended f s test)
  if_ended_spans f s test at place h =
      completed_spans P s (if_end f.behind.id.0 f.consequent f.alternate test f.span) f.behind
      (record { own = at; places = one_spanned P test place }) h

  pub if_then_spans : (s s2 s3 : State) (span part : Span) (p : Place) → P span → P part → IfSome p.span P
      → KeepsSpans P (if_begun s) s2 → KeepsSpans P (if_consequent (if_at s span false) s2 part) s3
      → KeepsSpans P s (if_ended (if_after_consequent (if_at s span false) s2) s3 p)
  if_then_spans s s2 s3 span part p at part_at place first second h =
      if_ended_spans (if_after_consequent (if_at s span false) s2) s3 p at place
      (second (last_hole_spans P s2 s.env.next_block gotos.Break part s.current part_at (first (if_begun_spans s h))))

  pub if_else_spans : (s s2 s3 s4 : State) (span part other : Span) (p : Place) → P span → P part → P other → IfSome p.span P
      → KeepsSpans P (if_begun s) s2 → KeepsSpans P (if_consequent (if_at s span true) s2 part) s3
      → KeepsSpans P (if_alternate (if_after_consequent (if_at s span true) s2) s3 other) s4
      → KeepsSpans P s (if_ended (if_shut (if_after_consequent (if_at s span true) s2)) s4 p)
  if_else_spans s s2 s3 s4 span part other p at part_at other_at place first second third h =
      if_ended_spans (if_shut (if_after_consequent (if_at s span true) s2)) s4 p at place
      (third
      (last_hole_spans P s3 s.env.next_block gotos.Break other s.current other_at
      (second (next_hole_spans P s2 s.env.next_block gotos.Break part block.Block part_at (first (if_begun_spans s h))))))

  -- Loops and labelled statements

  three_spans : (s : State) → KeepsSpans P s (reserved (reserved (reserved s)))
  three_spans s h = reserved_spans P (reserved (reserved s)) (two_spans s h)

  while_begun_spans : (s : State) (own : Label) → KeepsSpans P s (while_begun s own)
  while_begun_spans s own h =
      scopes_spans P (entered (reserved (reserved (reserved s))) (new_block (s.env.next_block + 1 + 1) block.Block))
      (while_begun s own).scopes
      (entered_spans P (reserved (reserved (reserved s))) (new_block (s.env.next_block + 1 + 1) block.Block) (three_spans s h))

  -- A block in a scope ends, and the block that was set aside by the terminal `end`, which reads no place.
  scope_ended_spans : (s : State) (behind : ℕ) (variant : GotoVariant) (part : Span) (outer : WipBlock) (end : Terminal) (next : WipBlock)
      → P part → IsSpannedTerminal P end
      → KeepsSpans P s (completed_by (last_hole (without_scope s) behind variant part outer) end next)
  scope_ended_spans s behind variant part outer end next part_at spanned h =
      completed_spans P (last_hole (without_scope s) behind variant part outer) end next spanned
      (last_hole_spans P (without_scope s) behind variant part outer part_at (scopes_spans P s (without_scope s).scopes h))

  pub while_spans : (s s2 s3 : State) (own : Label) (span part : Span) (p : Place) → P span → P part → IfSome p.span P
      → KeepsSpans P (while_begun s own) s2 → KeepsSpans P (while_bodied (while_at s span) s2 part) s3
      → KeepsSpans P s (while_ended (while_after (while_at s span)) s3 p)
  while_spans s s2 s3 own span part p at part_at place first second h =
      branched_spans s3 p (s.env.next_block + 1 + 1) (s.env.next_block + 1) s.env.next_block span
      (new_block (s.env.next_block + 1) block.Block) at place
      (second
      (scope_ended_spans s2 s.env.next_block gotos.Continue part s.current (while_end s.env.next_block span)
      (new_block s.env.next_block block.Loop) part_at (record { own = at; places = none_spanned P }) (first (while_begun_spans s own h))))

  pub do_while_spans : (s s2 s3 : State) (own : Label) (span part : Span) (p : Place) → P span → P part → IfSome p.span P
      → KeepsSpans P (while_begun s own) s2 → KeepsSpans P (do_while_bodied (while_at s span) s2 part) s3
      → KeepsSpans P s (while_ended (while_after (while_at s span)) s3 p)
  do_while_spans s s2 s3 own span part p at part_at place first second h =
      branched_spans s3 p (s.env.next_block + 1 + 1) (s.env.next_block + 1) s.env.next_block span
      (new_block (s.env.next_block + 1) block.Block) at place
      (second
      (scope_ended_spans s2 s.env.next_block gotos.Continue part s.current (do_while_end s.env.next_block span)
      (new_block s.env.next_block block.Loop) part_at (record { own = at; places = none_spanned P }) (first (while_begun_spans s own h))))

  pub label_spans : (s s2 : State) (own : List ℕ) (span part : Span) → P span → P part → KeepsSpans P (label_begun s own) s2
      → KeepsSpans P s (label_ended (label_at s span) s2 part)
  label_spans s s2 own span part at part_at hole h =
      scope_ended_spans s2 s.env.next_block gotos.Break part s.current (label_end s.env.next_block span)
      (new_block s.env.next_block block.Block) part_at (record { own = at; places = none_spanned P })
      (hole
      (scopes_spans P (entered (reserved (reserved s)) (new_block (s.env.next_block + 1) block.Block)) (label_begun s own).scopes
      (entered_spans P (reserved (reserved s)) (new_block (s.env.next_block + 1) block.Block) (two_spans s h))))

  -- `for` loops

  for_begun_spans : (s : State) → KeepsSpans P s (for_begun s)
  for_begun_spans s h =
      entered_spans P (reserved (reserved (reserved s))) (new_block (s.env.next_block + 1 + 1) block.Loop) (three_spans s h)

  for_opened_spans : (f : ForParts) (s : State) (part : Span) → P part → KeepsSpans P s (for_opened f s part)
  for_opened_spans f s part part_at h =
      scopes_spans P (next_hole s f.test gotos.Break part block.Block) (for_opened f s part).scopes
      (next_hole_spans P s f.test gotos.Break part block.Block part_at h)

  for_bodied_spans : (f : ForParts) (s : State) (part : Span) → P f.span → P part → KeepsSpans P s (for_bodied f s part)
  for_bodied_spans f s part at part_at h =
      scope_ended_spans s (for_again f).0 gotos.Continue part (for_aside f).0
      (ends_by (kinds.For (block_id f.init) (block_id f.test) f.update (block_id f.body) f.behind.id) (Some f.span)) (for_aside f).1 part_at
      (record { own = at; places = none_spanned P }) h

  pub for_spans : (s s2 s3 s4 s5 : State) (own : Label) (span part other last : Span) (p : Place) → P span → P part → P other → P last
      → IfSome p.span P → KeepsSpans P (for_begun s) s2 → KeepsSpans P (for_inited (for_at s span own true) s2 part) s3
      → KeepsSpans P (for_updated (for_after_init (for_at s span own true) s2) s3 other) s4
      → KeepsSpans P (for_bodied (for_after_update (for_after_init (for_at s span own true) s2) s3) s4 last) s5
      → KeepsSpans P s (for_ended (for_after (for_after_update (for_after_init (for_at s span own true) s2) s3)) s5 p)
  for_spans s s2 s3 s4 s5 own span part other last p at part_at other_at last_at place first third fourth second h =
      branched_spans s5 p s3.env.next_block (s.env.next_block + 1) (s.env.next_block + 1) span
      (new_block (s.env.next_block + 1) block.Block) at place
      (second
      (for_bodied_spans (for_after_update (for_after_init (for_at s span own true) s2) s3) s4 last at last_at
      (fourth
      (for_opened_spans (for_after_init (for_at s span own true) s2) s3 other other_at
      (third (next_hole_spans P s2 s.env.next_block gotos.Break part block.Loop part_at (first (for_begun_spans s h))))))))

  pub for_plain_spans : (s s2 s3 s4 : State) (own : Label) (span part last : Span) (p : Place) → P span → P part → P last → IfSome p.span P
      → KeepsSpans P (for_begun s) s2 → KeepsSpans P (for_inited (for_at s span own false) s2 part) s3
      → KeepsSpans P (for_bodied (for_after_init (for_at s span own false) s2) s3 last) s4
      → KeepsSpans P s (for_ended (for_after (for_after_init (for_at s span own false) s2)) s4 p)
  for_plain_spans s s2 s3 s4 own span part last p at part_at last_at place first third second h =
      branched_spans s4 p s2.env.next_block (s.env.next_block + 1) (s.env.next_block + 1) span
      (new_block (s.env.next_block + 1) block.Block) at place
      (second
      (for_bodied_spans (for_after_init (for_at s span own false) s2) s3 last at last_at
      (third (for_opened_spans (for_at s span own false) s2 part part_at (first (for_begun_spans s h))))))

  -- Loops over keys or values

  -- A block in a scope ends.
  scope_left_spans : (s : State) (behind : ℕ) (part : Span) (outer : WipBlock) → P part
      → KeepsSpans P s (last_hole (without_scope s) behind gotos.Continue part outer)
  scope_left_spans s behind part outer part_at h =
      last_hole_spans P (without_scope s) behind gotos.Continue part outer part_at (scopes_spans P s (without_scope s).scopes h)

  forin_begun_spans : (s : State) (own : Label) → KeepsSpans P s (forin_begun s own)
  forin_begun_spans s own h =
      scopes_spans P (entered (reserved (reserved (reserved s))) (new_block (s.env.next_block + 1 + 1) block.Block))
      (forin_begun s own).scopes
      (entered_spans P (reserved (reserved (reserved s))) (new_block (s.env.next_block + 1 + 1) block.Block) (three_spans s h))

  forof_begun_spans : (s : State) (own : Label) → KeepsSpans P s (forof_begun s own)
  forof_begun_spans s own h =
      scopes_spans P (entered (reserved (reserved (reserved (reserved s)))) (new_block (s.env.next_block + 1 + 1 + 1) block.Block))
      (forof_begun s own).scopes
      (entered_spans P (reserved (reserved (reserved (reserved s)))) (new_block (s.env.next_block + 1 + 1 + 1) block.Block)
      (reserved_spans P (reserved (reserved (reserved s))) (three_spans s h)))

  pub forin_spans : (s s2 s3 s4 : State) (own : Label) (span part left : Span) (collection p : Place) → P span → P part → P left
      → IfSome collection.span P → IfSome p.span P → KeepsSpans P (forin_begun s own) s2
      → KeepsSpans P (rounds_bodied (forin_at s span) s2 part) s3
      → KeepsSpans P (forin_righted (rounds_shut (forin_at s span)) s3 left collection) s4
      → KeepsSpans P s (rounds_ended (rounds_opened (rounds_shut (forin_at s span))) s4 p)
  forin_spans s s2 s3 s4 own span part left collection p at part_at left_at place test first second third h =
      branched_spans s4 p (s.env.next_block + 1 + 1) s.env.next_block s.env.next_block span (new_block s.env.next_block block.Block) at test
      (third
      (value_spans P (forin_headed (rounds_shut (forin_at s span)) s3) (values.NextPropertyOf collection) (Some left) left_at tt
      (one_spanned P collection place)
      (completed_spans P s3 (forin_end s.env.next_block span) (new_block (s.env.next_block + 1) block.Loop)
      (record { own = at; places = none_spanned P })
      (second (scope_left_spans s2 (s.env.next_block + 1) part s.current part_at (first (forin_begun_spans s own h)))))))

  pub forof_spans : (s s2 s3 s4 : State) (own : Label) (span part left : Span) (collection p : Place) → P span → P part → P left
      → IfSome collection.span P → IfSome p.span P → KeepsSpans P (forof_begun s own) s2
      → KeepsSpans P (forof_bodied (forof_at s span) s2 part) s3
      → KeepsSpans P (forof_righted (forof_shut (forof_at s span)) s3 left collection) s4
      → KeepsSpans P s (forof_ended (forof_after (forof_shut (forof_at s span))) s4 p)
  forof_spans s s2 s3 s4 own span part left collection p at part_at left_at place test first second third h =
      branched_spans s4 p (s.env.next_block + 1 + 1 + 1) s.env.next_block s.env.next_block span (new_block s.env.next_block block.Block) at
      test
      (third
      (value_spans P (forof_tested frame s3 collection) (values.IteratorNext (forof_iterator frame s3 collection) collection) (Some left)
      left_at tt
      (more_spanned P (forof_iterator frame s3 collection) (collection ∷ []) place (one_spanned P collection place))
      (completed_spans P opened (goto (s.env.next_block + 1 + 1) gotos.Break span) (new_block (s.env.next_block + 1 + 1) block.Loop)
      (record { own = at; places = none_spanned P })
      (value_spans P (forof_headed frame s3) (values.GetIterator collection) collection.span place tt (one_spanned P collection place)
      (completed_spans P s3 (forof_end s.env.next_block span) (new_block (s.env.next_block + 1) block.Loop)
      (record { own = at; places = none_spanned P })
      (second (scope_left_spans s2 (s.env.next_block + 1) part s.current part_at (first (forof_begun_spans s own h)))))))))
    where
      frame : ForOfParts
      frame = forof_shut (forof_at s span)

      opened : State
      opened = with_value (forof_headed frame s3) (values.GetIterator collection) collection.span

  -- A throw

  throwing_under_spans : (o : Option BlockId) (s : State) (at : Span) → KeepsSpans P s (throwing_under o s at)
  throwing_under_spans None s at h = h
  throwing_under_spans (Some handler) s at h = recorded_spans P s (refusal row.F30 at) h

  pub throwing_spans : (s : State) (at : Span) → KeepsSpans P s (throwing s at)
  throwing_spans s at h = throwing_under_spans (innermost s.handlers) s at h

  pub threw_spans : (s : State) (span : Span) (p : Place) (kind : BlockKind) → P span → IfSome p.span P
      → KeepsSpans P s (threw_from s span p kind)
  threw_spans s span p kind at place h =
      completed_spans P (reserved s) (ends_by (kinds.Throw p) (Some span)) (new_block s.env.next_block kind)
      (record { own = at; places = one_spanned P p place }) (reserved_spans P s h)

  -- A `try` statement, from in front of its handler's block

  handlers_spans : (s : State) (handlers : List BlockId) → KeepsSpans P s (record s { handlers = handlers })
  handlers_spans s handlers h =
      record { table = h.table; terminals = h.terminals; identifiers = h.identifiers; declarations = h.declarations }

  pub tried_spans : (d s2 s3 : State) (behind : ℕ) (part other : Span) (end : Terminal) → P part → P other → IsSpannedTerminal P end
      → KeepsSpans P (try_begun d) s2 → KeepsSpans P (try_handler s2 behind d.env.next_block part) s3
      → KeepsSpans P d (completed_by (last_hole (without_handler s3) behind gotos.Try other d.current) end (new_block behind block.Block))
  tried_spans d s2 s3 behind part other end part_at other_at ends first second h =
      completed_spans P (last_hole (without_handler s3) behind gotos.Try other d.current) end (new_block behind block.Block) ends
      (last_hole_spans P (without_handler s3) behind gotos.Try other d.current other_at
      (handlers_spans s3 (without_handler s3).handlers
      (second
      (handlers_spans (next_hole s2 behind gotos.Break part block.Block) (try_handler s2 behind d.env.next_block part).handlers
      (next_hole_spans P s2 behind gotos.Break part block.Block part_at
      (first (entered_spans P (reserved d) (new_block d.env.next_block block.Catch) (reserved_spans P d h))))))))

  pub promoted_spans : (s : State) (span : Span) → P span → KeepsSpans P s (promoted s span)
  promoted_spans s span at h = record {
    table = h.table;
    terminals = h.terminals;
    identifiers = All-push (λ (i : Identifier). IfSome i.span P) s.env.identifiers
        (promoted_identifier (length s.env.identifiers) s.env.next_type span) h.identifiers at;
    declarations = h.declarations;
  }

  pub declared_spans : (s : State) (param : Span) → P param → KeepsSpans P s (catch_declared s param)
  declared_spans s param at h =
      value_spans P (reserved (promoted s param)) (declares_caught s param) (Some param) at tt (one_spanned P (caught s param) at)
      (reserved_spans P (promoted s param) (promoted_spans s param at h))

  pub bound_spans : (names : Names) (s : State) (symbol : SymbolId) (identifier : ℕ) (param : Span) → P param
      → KeepsSpans P (catch_begun s param) (catch_bound names s symbol identifier param)
  bound_spans names s symbol identifier param at h =
      value_spans P (found names (catch_begun s param) symbol param) (stores_caught s identifier param) (Some param) at tt
      (more_spanned P (record { identifier = record { 0 = identifier }; span = Some param }) (caught s param ∷ []) at
      (one_spanned P (caught s param) at))
      (found_spans P names (catch_begun s param) symbol param at h)

  -- A case of a `switch`

  pub case_begun_spans : (x : State) (behind : ℕ) → KeepsSpans P x (case_begun x None behind)
  case_begun_spans x behind h =
      let opened : State = entered (reserved x) (new_block x.env.next_block block.Block) in
      scopes_spans P opened (case_begun x None behind).scopes
      (entered_spans P (reserved x) (new_block x.env.next_block block.Block) (reserved_spans P x h))

  pub case_ended_spans : (y : State) (fall : ℕ) (outer : WipBlock) (part : Span) → P part → KeepsSpans P y (case_ended y fall outer part)
  case_ended_spans y fall outer part part_at h =
      last_hole_spans P (without_scope y) fall gotos.Break part outer part_at (scopes_spans P y (without_scope y).scopes h)

  -- The case that goes behind the statement has no test.

  none_behind : (ks : List Case) (behind : ℕ) → case_places (ks ++ record { test = None; block = block_id behind } ∷ []) ≡ case_places ks
  none_behind [] behind = refl
  none_behind (k ∷ ks) behind = by_test k.test (none_behind ks behind)
    where
      by_test : (test : Option Place) → case_places (ks ++ record { test = None; block = block_id behind } ∷ []) ≡ case_places ks
          → case_places (record k { test = test } ∷ (ks ++ record { test = None; block = block_id behind } ∷ []))
          ≡ case_places (record k { test = test } ∷ ks)
      by_test None same = same
      by_test (Some place) same = ap (λ (l : List Place). place ∷ l) same

  default_places : (b : Bool) (ks : List Case) (behind : ℕ) → case_places (with_default b ks behind) ≡ case_places ks
  default_places true ks behind = refl
  default_places false ks behind = none_behind ks behind

  pub switch_spans : (u : State) (behind : ℕ) (ks : List Case) (p : Place) (span : Span) → P span → IfSome p.span P
      → AreSpanned P (case_places ks) → KeepsSpans P u (switch_finished u behind ks p span)
  switch_spans u behind ks p span at place tests h =
      completed_spans P u (switch_end behind ks p span) (new_block behind block.Block)
      (record {
        own = at;
        places = more_spanned P p _ place
            (subst (AreSpanned P)
            (sym (append-nil (case_places (with_default (is_some (default_case ks)) ks behind))
            ∙ default_places (is_some (default_case ks)) ks behind)) tests);
      }) h
