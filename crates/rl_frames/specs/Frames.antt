-- The parts that frames hold between their calls, the states that the calls leave, and what a frame makes of the runs of its holes.
use Rattle.std.specs.Prelude.{◌≡◌, ℕ, ◌+◌, Bool, true, false, Option, Some, None, List, unwrap_or}
use Rattle.std.specs.Option.{option_map}
use Rattle.rl_base.specs.declared.ids.BlockId.{BlockId}
use Rattle.rl_base.specs.declared.operator.LogicalOperator.{LogicalOperator}
use Rattle.rl_base.specs.declared.span.Span.{Span}
use Rattle.rl_builder.specs.Builder.{State, completed_by, new_block, placeholder, pushed, reserved, with_scope}
use Rattle.rl_builder.specs.declared.blocks.WipBlock.{WipBlock}
use Rattle.rl_builder.specs.declared.jumps.JumpScope.TheVariants as scope
use Rattle.rl_frames.specs.declared.do_while_frame.DoWhileFrame.{DoWhileFrame}
use Rattle.rl_frames.specs.declared.for_frame.ForFrame.{ForFrame}
use Rattle.rl_frames.specs.declared.if_frame.IfFrame.{IfFrame}
use Rattle.rl_frames.specs.declared.label_frame.LabelFrame.{LabelFrame}
use Rattle.rl_frames.specs.declared.logical.Logical.{Logical}
use Rattle.rl_frames.specs.declared.loop_parts.LoopParts.{LoopParts}
use Rattle.rl_frames.specs.declared.sequence.SequenceFrame.{SequenceFrame}
use Rattle.rl_frames.specs.declared.ternary.Ternary.{Ternary}
use Rattle.rl_frames.specs.declared.try_frame.TryFrame.{TryFrame}
use Rattle.rl_frames.specs.declared.while_frame.WhileFrame.{WhileFrame}
use Rattle.rl_frames.specs.Meanings.{chosen, connected, do_looped, for_looped, looped, selected}
use Rattle.rl_frames.specs.Parts.{for_begun, for_update, if_begun, if_end, label_begun, loads, logical_begun, logical_entered}
use Rattle.rl_frames.specs.Parts.{logical_left, logical_place, sequence_begun, sequence_place, ternary_alternate, ternary_begun}
use Rattle.rl_frames.specs.Parts.{ternary_place, while_begun}
use Rattle.rl_frames.specs.Parts.{IsFreshBinding, try_bound, try_end, try_handler, try_started}
use Rattle.rl_hir.specs.declared.function.BlockKind.TheVariants as block
use Rattle.rl_hir.specs.declared.instruction.Place.{Place}
use Rattle.rl_hir.specs.declared.terminal.GotoVariant.TheVariants as gotos
use Rattle.rl_hir.specs.declared.terminal.Terminal.{Terminal}
use Rattle.rl_hir.specs.declared.terminal.TerminalKind.{TerminalKind}
use Rattle.rl_hir.specs.declared.terminal.TerminalKind.TheVariants as kinds
use Rattle.rl_machine.specs.declared.trace.Value.{Value}
use Rattle.rl_machine.specs.Ends.{bound}
use Rattle.rl_machine.specs.Traces.{World}
use Rattle.rl_model.specs.Actions.{Action, Label, catching, done, labeled}
use Rattle.rl_runs.specs.Blocks.{Passes, PreservesBlocks}
use Rattle.rl_runs.specs.Moves.{block_id, branch, ends_by, goto, last_hole, next_hole, stored_in, without_handler, without_scope}
use Rattle.rl_runs.specs.Simulation.{RunsExpression, RunsHandler, RunsJumpless, RunsStatement}

-- The parts of an `IfFrame`.
pub record IfParts : Type 0 where
  pub span : Span
  pub behind : WipBlock
  pub consequent : ℕ
  pub alternate : ℕ
  pub has_alternate : Bool
  pub outer : Option WipBlock

abbrev pub if_of : IfFrame → IfParts
if_of f = record {
  span = f.span;
  behind = f.behind;
  consequent = f.consequent.0;
  alternate = f.alternate.0;
  has_alternate = f.has_alternate;
  outer = option_map (λ o. o.block) f.outer;
}

abbrev pub if_at : State → (span : Span) → (has_alternate : Bool) → IfParts
if_at s span has_alternate = record {
  span = span;
  behind = new_block s.env.next_block block.Block;
  consequent = s.env.next_block + 1;
  alternate = s.env.next_block;
  has_alternate = has_alternate;
  outer = Some s.current;
}

abbrev pub if_shut : IfParts → IfParts
if_shut f = record f { outer = None }

abbrev pub if_alternate : IfParts → State → (part : Span) → State
if_alternate f s part = last_hole s f.behind.id.0 gotos.Break part (unwrap_or f.outer placeholder)

abbrev pub if_branched : Bool → IfParts → State → (part : Span) → State
if_branched true f s part = next_hole s f.behind.id.0 gotos.Break part block.Block
if_branched false f s part = if_alternate f s part

abbrev pub if_consequent : IfParts → State → (part : Span) → State
if_consequent f s part = if_branched f.has_alternate f s part

abbrev pub if_parted : Bool → IfParts → State → IfParts
if_parted true f s = record f { alternate = s.env.next_block }
if_parted false f s = if_shut f

abbrev pub if_after_consequent : IfParts → State → IfParts
if_after_consequent f s = if_parted f.has_alternate f s

abbrev pub if_ended : IfParts → State → (test : Place) → State
if_ended f s test = completed_by s (if_end f.behind.id.0 f.consequent f.alternate test f.span) f.behind

-- From any begin, and whatever the holes mean.
pub record IfComposes (f : IfParts) (old new : State) (test : Place) : Type 0 where
  pub both : (s s2 s3 : State) (span part other : Span) (world : World) (dt : Action Value) (dc da : Action (Unit {0}))
      → f ≡ if_shut (if_after_consequent (if_at s span true) s2)
      → PreservesBlocks (if_begun s) s2 → PreservesBlocks (if_consequent (if_at s span true) s2 part) s3
      → PreservesBlocks (if_alternate (if_at s span true) s3 other) old
      → RunsStatement world dc (if_begun s) s2 → RunsStatement world da (if_consequent (if_at s span true) s2 part) s3
      → RunsExpression world dt (if_alternate (if_at s span true) s3 other) old test.identifier.0
      → PreservesBlocks s new × RunsStatement world (chosen world dt dc da) s new
  pub one : (s s2 : State) (span part : Span) (world : World) (dt : Action Value) (dc : Action (Unit {0}))
      → f ≡ if_after_consequent (if_at s span false) s2
      → PreservesBlocks (if_begun s) s2 → PreservesBlocks (if_consequent (if_at s span false) s2 part) old
      → RunsStatement world dc (if_begun s) s2 → RunsExpression world dt (if_consequent (if_at s span false) s2 part) old test.identifier.0
      → PreservesBlocks s new × RunsStatement world (chosen world dt dc done) s new

-- The parts of a `Logical`.
pub record LogicalParts : Type 0 where
  pub span : Span
  pub operator : LogicalOperator
  pub place : Place
  pub left : Place
  pub behind : WipBlock
  pub consequent : ℕ
  pub alternate : ℕ
  pub aside : Option (WipBlock × WipBlock)

abbrev pub logical_of : Logical → LogicalParts
logical_of f = record {
  span = f.span;
  operator = f.operator;
  place = f.place;
  left = f.left;
  behind = f.behind;
  consequent = f.consequent.0;
  alternate = f.alternate.0;
  aside = option_map (λ p. (p.0.block, p.1)) f.aside;
}

abbrev pub logical_at : State → (span : Span) → LogicalOperator → (left : Span) → LogicalParts
logical_at s span operator left = record {
  span = span;
  operator = operator;
  place = logical_place s span;
  left = logical_left s left;
  behind = new_block s.env.next_block s.current.kind;
  consequent = s.env.next_block + 1 + 1;
  alternate = (stored_in (logical_entered s span left) (logical_place s span) (logical_left s left) left).env.next_block;
  aside = Some (s.current, new_block (s.env.next_block + 1) block.Value);
}

-- The blocks that were set aside; placeholders where none are.
abbrev pub aside_of : LogicalParts → WipBlock × WipBlock
aside_of f = unwrap_or f.aside (placeholder, placeholder)

abbrev pub logical_righted : LogicalParts → State → (value : Place) → (part : Span) → State
logical_righted f s value part =
    completed_by (last_hole (stored_in s f.place value part) f.behind.id.0 gotos.Break part (aside_of f).0)
    (ends_by (kinds.Logical f.operator (aside_of f).1.id f.behind.id) (Some f.span)) (aside_of f).1

abbrev pub logical_after : LogicalParts → LogicalParts
logical_after f = record f { aside = None }

abbrev pub logical_ended : LogicalParts → State → (value : Place) → State
logical_ended f s value =
    completed_by (pushed s (loads f.left value f.span)) (branch f.left f.consequent f.alternate f.behind.id.0 f.span) f.behind

-- From any begin, and whatever the holes mean.
pub record LogicalComposes (f : LogicalParts) (old new : State) (value : Place) : Type 0 where
  pub both : (s s2 : State) (span left part : Span) (operator : LogicalOperator) (right_value : Place) (world : World)
      (dl dr : Action Value)
      → f ≡ logical_after (logical_at s span operator left)
      → PreservesBlocks (logical_begun s span left) s2
      → PreservesBlocks (logical_righted (logical_at s span operator left) s2 right_value part) old
      → RunsExpression world dr (logical_begun s span left) s2 right_value.identifier.0
      → RunsExpression world dl (logical_righted (logical_at s span operator left) s2 right_value part) old value.identifier.0
      → PreservesBlocks s new × RunsExpression world (connected world operator dl dr) s new f.place.identifier.0

-- The parts of a `Ternary`.
pub record TernaryParts : Type 0 where
  pub span : Span
  pub place : Place
  pub behind : WipBlock
  pub consequent : ℕ
  pub alternate : ℕ
  pub aside : Option (WipBlock × WipBlock)

abbrev pub ternary_of : Ternary → TernaryParts
ternary_of f = record {
  span = f.span;
  place = f.place;
  behind = f.behind;
  consequent = f.consequent.0;
  alternate = f.alternate.0;
  aside = option_map (λ p. (p.0.block, p.1)) f.aside;
}

abbrev pub ternary_at : State → (span : Span) → TernaryParts
ternary_at s span = record {
  span = span;
  place = ternary_place s span;
  behind = new_block s.env.next_block s.current.kind;
  consequent = s.env.next_block + 1 + 1;
  alternate = s.env.next_block;
  aside = Some (s.current, new_block (s.env.next_block + 1) block.Value);
}

abbrev pub ternary_consequent : TernaryParts → State → (value : Place) → (part : Span) → State
ternary_consequent f s value part = ternary_alternate s f.behind.id.0 f.place value f.span part

abbrev pub ternary_parted : TernaryParts → State → (value : Place) → (part : Span) → TernaryParts
ternary_parted f s value part = record f { alternate = (stored_in s f.place value f.span).env.next_block }

-- The blocks that were set aside; placeholders where none are.
abbrev pub ternary_aside : TernaryParts → WipBlock × WipBlock
ternary_aside f = unwrap_or f.aside (placeholder, placeholder)

abbrev pub ternary_alternated : TernaryParts → State → (value : Place) → (part : Span) → State
ternary_alternated f s value part =
    completed_by (last_hole (stored_in s f.place value f.span) f.behind.id.0 gotos.Break part (ternary_aside f).0)
    (ends_by (kinds.Ternary (ternary_aside f).1.id f.behind.id) (Some f.span)) (ternary_aside f).1

abbrev pub ternary_after : TernaryParts → TernaryParts
ternary_after f = record f { aside = None }

abbrev pub ternary_ended : TernaryParts → State → (test : Place) → State
ternary_ended f s test = completed_by s (branch test f.consequent f.alternate f.behind.id.0 f.span) f.behind

-- From any begin, and whatever the holes mean.
pub record TernaryComposes (f : TernaryParts) (old new : State) (test : Place) : Type 0 where
  pub both : (s s2 s3 : State) (span part other : Span) (consequent alternate : Place) (world : World) (dt dc da : Action Value)
      → f ≡ ternary_after (ternary_parted (ternary_at s span) s2 consequent part)
      → PreservesBlocks (ternary_begun s span) s2 → PreservesBlocks (ternary_consequent (ternary_at s span) s2 consequent part) s3
      → PreservesBlocks (ternary_alternated (ternary_parted (ternary_at s span) s2 consequent part) s3 alternate other) old
      → RunsExpression world dc (ternary_begun s span) s2 consequent.identifier.0
      → RunsExpression world da (ternary_consequent (ternary_at s span) s2 consequent part) s3 alternate.identifier.0
      → RunsExpression world dt
      (ternary_alternated (ternary_parted (ternary_at s span) s2 consequent part) s3 alternate other) old test.identifier.0
      → PreservesBlocks s new × RunsExpression world (selected world dt dc da) s new f.place.identifier.0

-- The parts of a `SequenceFrame`.
pub record SequenceParts : Type 0 where
  pub span : Span
  pub place : Place
  pub behind : WipBlock
  pub block : ℕ
  pub outer : WipBlock

abbrev pub sequence_of : SequenceFrame → SequenceParts
sequence_of f = record { span = f.span; place = f.place; behind = f.behind; block = f.block.0; outer = f.outer.block }

abbrev pub sequence_at : State → (span : Span) → SequenceParts
sequence_at s span = record {
  span = span;
  place = sequence_place s span;
  behind = new_block s.env.next_block s.current.kind;
  block = s.env.next_block + 1;
  outer = s.current;
}

abbrev pub sequence_ended : SequenceParts → State → (value : Place) → (part : Span) → State
sequence_ended f s value part =
    completed_by (last_hole (stored_in s f.place value part) f.behind.id.0 gotos.Break part f.outer)
    (ends_by (kinds.Sequence (record { 0 = f.block }) f.behind.id) (Some f.span)) f.behind

-- From any begin, and whatever the hole means.
pub record SequenceComposes (f : SequenceParts) (old new : State) (value : Place) : Type 0 where
  pub all : (s : State) (span : Span) (world : World) (d : Action Value) → f ≡ sequence_at s span
      → PreservesBlocks (sequence_begun s span) old → RunsExpression world d (sequence_begun s span) old value.identifier.0
      → PreservesBlocks s new × RunsExpression world d s new f.place.identifier.0

-- The parts of a loop, which a `WhileFrame` and a `DoWhileFrame` hold.
pub record WhileParts : Type 0 where
  pub span : Span
  pub behind : WipBlock
  pub test : ℕ
  pub body : ℕ
  pub aside : Option (WipBlock × WipBlock)

abbrev pub loop_of : LoopParts → WhileParts
loop_of f = record {
  span = f.span;
  behind = f.behind;
  test = f.test.0;
  body = f.body.0;
  aside = option_map (λ p. (p.0.block, p.1)) f.aside;
}

abbrev pub while_of : WhileFrame → WhileParts
while_of f = loop_of f.parts

abbrev pub while_at : State → (span : Span) → WhileParts
while_at s span = record {
  span = span;
  behind = new_block (s.env.next_block + 1) block.Block;
  test = s.env.next_block;
  body = s.env.next_block + 1 + 1;
  aside = Some (s.current, new_block s.env.next_block block.Loop);
}

-- The blocks that were set aside; placeholders where none are.
abbrev pub while_aside : WhileParts → WipBlock × WipBlock
while_aside f = unwrap_or f.aside (placeholder, placeholder)

-- The hole of the body ends, and that of the test opens behind a terminal of this kind.
abbrev pub loop_bodied : WhileParts → TerminalKind → State → (part : Span) → State
loop_bodied f kind s part =
    completed_by (last_hole (without_scope s) f.test gotos.Continue part (while_aside f).0) (ends_by kind (Some f.span)) (while_aside f).1

abbrev pub while_bodied : WhileParts → State → (part : Span) → State
while_bodied f s part = loop_bodied f (kinds.While (block_id f.test) (block_id f.body) f.behind.id) s part

abbrev pub while_after : WhileParts → WhileParts
while_after f = record f { aside = None }

abbrev pub while_ended : WhileParts → State → (value : Place) → State
while_ended f s value = completed_by s (branch value f.body f.behind.id.0 f.test f.span) f.behind

-- From any begin, and whatever the holes mean, if the test completes.
pub record WhileComposes (f : WhileParts) (old new : State) (value : Place) : Type 0 where
  pub both : (s s2 : State) (span part : Span) (label : Label) (world : World) (dt : Action Value) (db : Action (Unit {0}))
      → f ≡ while_after (while_at s span)
      → PreservesBlocks (while_begun s label) s2
      → PreservesBlocks (while_bodied (while_at s span) s2 part) old
      → Passes (while_bodied (while_at s span) s2 part) old
      → RunsStatement world db (while_begun s label) s2
      → RunsExpression world dt (while_bodied (while_at s span) s2 part) old value.identifier.0
      → PreservesBlocks s new × RunsStatement world (looped world label dt db) s new

abbrev pub do_while_of : DoWhileFrame → WhileParts
do_while_of f = loop_of f.parts

abbrev pub do_while_bodied : WhileParts → State → (part : Span) → State
do_while_bodied f s part = loop_bodied f (kinds.DoWhile (block_id f.body) (block_id f.test) f.behind.id) s part

-- From any begin, and whatever the holes mean.
pub record DoWhileComposes (f : WhileParts) (old new : State) (value : Place) : Type 0 where
  pub both : (s s2 : State) (span part : Span) (label : Label) (world : World) (dt : Action Value) (db : Action (Unit {0}))
      → f ≡ while_after (while_at s span)
      → PreservesBlocks (while_begun s label) s2
      → PreservesBlocks (do_while_bodied (while_at s span) s2 part) old
      → RunsStatement world db (while_begun s label) s2
      → RunsExpression world dt (do_while_bodied (while_at s span) s2 part) old value.identifier.0
      → PreservesBlocks s new × RunsStatement world (do_looped world label dt db) s new

-- The parts of a `ForFrame`. Before they are known, `update` is absent, and `body` the block of the init.
pub record ForParts : Type 0 where
  pub span : Span
  pub label : Label
  pub behind : WipBlock
  pub test : ℕ
  pub init : ℕ
  pub update : Option BlockId
  pub body : ℕ
  pub has_update : Bool
  pub aside : Option (WipBlock × WipBlock)

abbrev pub for_of : ForFrame → ForParts
for_of f = record {
  span = f.span;
  label = f.label;
  behind = f.behind;
  test = f.test.0;
  init = f.init.0;
  update = f.update;
  body = f.body.0;
  has_update = f.has_update;
  aside = option_map (λ p. (p.0.block, p.1)) f.aside;
}

abbrev pub for_at : State → (span : Span) → Label → (has_update : Bool) → ForParts
for_at s span label has_update = record {
  span = span;
  label = label;
  behind = new_block (s.env.next_block + 1) block.Block;
  test = s.env.next_block;
  init = s.env.next_block + 1 + 1;
  update = None;
  body = s.env.next_block + 1 + 1;
  has_update = has_update;
  aside = Some (s.current, new_block s.env.next_block block.Loop);
}

-- The blocks that were set aside; placeholders where none are.
abbrev pub for_aside : ForParts → WipBlock × WipBlock
for_aside f = unwrap_or f.aside (placeholder, placeholder)

-- The block to which a `continue` goes: that of the update, or that of the test if there is none.
abbrev pub for_again : ForParts → BlockId
for_again f = unwrap_or f.update (block_id f.test)

-- The hole in front of the body ends, that of the init or of the update, and that of the body opens.
abbrev pub for_opened : ForParts → State → (part : Span) → State
for_opened f s part =
    with_scope (next_hole s f.test gotos.Break part block.Block) (scope.Loop f.label (for_again f) f.behind.id)

abbrev pub for_entered : ForParts → State → ForParts
for_entered f s = record f { label = None; body = s.env.next_block }

abbrev pub for_inited_by : (has_update : Bool) → ForParts → State → (part : Span) → State
for_inited_by true f s part = for_update s f.test part
for_inited_by false f s part = for_opened f s part

-- The hole of the init ends, and that of the update opens, or that of the body if there is none.
abbrev pub for_inited : ForParts → State → (part : Span) → State
for_inited f s part = for_inited_by f.has_update f s part

abbrev pub for_parted : (has_update : Bool) → ForParts → State → ForParts
for_parted true f s = record f { update = Some (block_id s.env.next_block) }
for_parted false f s = for_entered f s

abbrev pub for_after_init : ForParts → State → ForParts
for_after_init f s = for_parted f.has_update f s

-- The hole of the update ends, and that of the body opens.
abbrev pub for_updated : ForParts → State → (part : Span) → State
for_updated f s part = for_opened f s part

abbrev pub for_after_update : ForParts → State → ForParts
for_after_update f s = for_entered f s

-- The hole of the body ends by `end`, and that of the test opens behind a terminal of this kind.
abbrev pub for_shut : ForParts → (end : Terminal) → TerminalKind → State → State
for_shut f end kind s =
    completed_by (completed_by (without_scope s) end (for_aside f).0) (ends_by kind (Some f.span)) (for_aside f).1

abbrev pub for_bodied : ForParts → State → (part : Span) → State
for_bodied f s part =
    for_shut f (goto (for_again f).0 gotos.Continue part)
    (kinds.For (block_id f.init) (block_id f.test) f.update (block_id f.body) f.behind.id) s

abbrev pub for_after : ForParts → ForParts
for_after f = record f { aside = None }

abbrev pub for_ended : ForParts → State → (value : Place) → State
for_ended f s value = completed_by s (branch value f.body f.behind.id.0 f.behind.id.0 f.span) f.behind

-- From any begin, and whatever the holes mean, if the init and the test complete. No jump leaves the init and the update.
pub record ForComposes (f : ForParts) (old new : State) (value : Place) : Type 0 where
  pub both : (s s2 s3 s4 : State) (span part other last : Span) (label : Label) (world : World) (di : Action (Unit {0})) (dt : Action Value)
      (du db : Action (Unit {0}))
      → f ≡ for_after (for_after_update (for_after_init (for_at s span label true) s2) s3)
      → PreservesBlocks (for_begun s) s2 → PreservesBlocks (for_inited (for_at s span label true) s2 part) s3
      → PreservesBlocks (for_updated (for_after_init (for_at s span label true) s2) s3 other) s4
      → PreservesBlocks (for_bodied (for_after_update (for_after_init (for_at s span label true) s2) s3) s4 last) old
      → Passes (for_begun s) s2
      → Passes (for_bodied (for_after_update (for_after_init (for_at s span label true) s2) s3) s4 last) old
      → RunsJumpless world di (for_begun s) s2
      → RunsJumpless world du (for_inited (for_at s span label true) s2 part) s3
      → RunsStatement world db (for_updated (for_after_init (for_at s span label true) s2) s3 other) s4
      → RunsExpression world dt (for_bodied (for_after_update (for_after_init (for_at s span label true) s2) s3) s4 last) old
      value.identifier.0
      → PreservesBlocks s new × RunsStatement world (for_looped world label di dt du db) s new
  pub one : (s s2 s3 : State) (span part last : Span) (label : Label) (world : World) (di : Action (Unit {0})) (dt : Action Value)
      (db : Action (Unit {0}))
      → f ≡ for_after (for_after_init (for_at s span label false) s2)
      → PreservesBlocks (for_begun s) s2 → PreservesBlocks (for_inited (for_at s span label false) s2 part) s3
      → PreservesBlocks (for_bodied (for_after_init (for_at s span label false) s2) s3 last) old
      → Passes (for_begun s) s2 → Passes (for_bodied (for_after_init (for_at s span label false) s2) s3 last) old
      → RunsJumpless world di (for_begun s) s2
      → RunsStatement world db (for_inited (for_at s span label false) s2 part) s3
      → RunsExpression world dt (for_bodied (for_after_init (for_at s span label false) s2) s3 last) old value.identifier.0
      → PreservesBlocks s new × RunsStatement world (for_looped world label di dt done db) s new

-- The parts of a `LabelFrame`.
pub record LabelParts : Type 0 where
  pub span : Span
  pub behind : WipBlock
  pub block : ℕ
  pub outer : WipBlock

abbrev pub label_of : LabelFrame → LabelParts
label_of f = record { span = f.span; behind = f.behind; block = f.block.0; outer = f.outer.block }

abbrev pub label_at : State → (span : Span) → LabelParts
label_at s span = record {
  span = span;
  behind = new_block s.env.next_block block.Block;
  block = s.env.next_block + 1;
  outer = s.current;
}

abbrev pub label_ended : LabelParts → State → (part : Span) → State
label_ended f s part =
    completed_by (last_hole (without_scope s) f.behind.id.0 gotos.Break part f.outer)
    (ends_by (kinds.Label (block_id f.block) f.behind.id) (Some f.span)) f.behind

-- From any begin, and whatever the hole means.
pub record LabelComposes (f : LabelParts) (old new : State) : Type 0 where
  pub all : (s : State) (span : Span) (own : List ℕ) (world : World) (d : Action (Unit {0})) → f ≡ label_at s span
      → PreservesBlocks (label_begun s own) old → RunsStatement world d (label_begun s own) old
      → PreservesBlocks s new × RunsStatement world (labeled own d) s new

-- The parts of a `TryFrame`.
pub record TryParts : Type 0 where
  pub span : Span
  pub behind : WipBlock
  pub binding : Option Place
  pub handler : ℕ
  pub body : ℕ
  pub outer : WipBlock

abbrev pub try_of : TryFrame → TryParts
try_of f = record {
  span = f.span;
  behind = f.behind;
  binding = f.binding;
  handler = f.handler.0;
  body = f.body.0;
  outer = f.outer.block;
}

abbrev pub try_at : State → (span : Span) → (binding : Option Place) → TryParts
try_at s span binding = record {
  span = span;
  behind = new_block s.env.next_block block.Block;
  binding = binding;
  handler = (try_bound (reserved s) binding).env.next_block;
  body = (try_bound (reserved s) binding).env.next_block;
  outer = (try_bound (reserved s) binding).current;
}

abbrev pub try_caught : TryParts → State → (part : Span) → State
try_caught f s part = try_handler s f.behind.id.0 f.handler part

abbrev pub try_after : TryParts → State → TryParts
try_after f s = record f { body = s.env.next_block }

abbrev pub try_ended : TryParts → State → (part : Span) → State
try_ended f s part =
    completed_by (last_hole (without_handler s) f.behind.id.0 gotos.Try part f.outer)
    (try_end f.behind.id.0 f.handler f.body f.binding f.span) f.behind

-- From any begin, and whatever the holes mean, if the place was made for the statement just before.
pub record TryComposes (f : TryParts) (old new : State) : Type 0 where
  pub both : (z s s2 : State) (span part : Span) (binding : Option Place) (world : World) (db : Action (Unit {0}))
      (dh : Value → Action (Unit {0}))
      → f ≡ try_after (try_at s span binding) s2
      → PreservesBlocks z s → s.current ≡ z.current → s.env.pairs ≡ z.env.pairs → IsFreshBinding binding z s
      → PreservesBlocks (try_started s binding) s2
      → PreservesBlocks (try_caught (try_at s span binding) s2 part) old
      → RunsHandler world dh (try_started s binding) s2 (bound binding)
      → RunsStatement world db (try_caught (try_at s span binding) s2 part) old
      → PreservesBlocks z new × RunsStatement world (catching db dh) z new
