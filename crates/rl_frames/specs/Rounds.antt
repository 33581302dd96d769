-- The parts that the frames of loops over keys or values hold between their calls, the states that the calls leave, and what a frame makes
-- of the runs of its holes.
use Rattle.std.specs.Prelude.{◌≡◌, ℕ, ◌+◌, Option, Some, None, unwrap_or}
use Rattle.std.specs.Option.{option_map}
use Rattle.rl_base.specs.declared.span.Span.{Span}
use Rattle.rl_builder.specs.Builder.{State, completed_by, entered, new_block, placeholder, reserved, with_scope}
use Rattle.rl_builder.specs.declared.blocks.WipBlock.{WipBlock}
use Rattle.rl_builder.specs.declared.jumps.JumpScope.TheVariants as scope
use Rattle.rl_builder.specs.Temporaries.{temporary, with_value}
use Rattle.rl_frames.specs.declared.for_in_frame.ForInFrame.{ForInFrame}
use Rattle.rl_frames.specs.declared.for_of_frame.ForOfFrame.{ForOfFrame}
use Rattle.rl_frames.specs.declared.round_parts.RoundParts.{RoundParts}
use Rattle.rl_frames.specs.Meanings.{enumerated, iterated}
use Rattle.rl_frames.specs.Parts.{forin_begun, forof_begun}
use Rattle.rl_hir.specs.declared.function.BlockKind.TheVariants as block
use Rattle.rl_hir.specs.declared.instruction.InstructionValue.TheVariants as values
use Rattle.rl_hir.specs.declared.instruction.Place.{Place}
use Rattle.rl_hir.specs.declared.terminal.GotoVariant.TheVariants as gotos
use Rattle.rl_hir.specs.declared.terminal.TerminalKind.{TerminalKind}
use Rattle.rl_hir.specs.declared.terminal.TerminalKind.TheVariants as kinds
use Rattle.rl_machine.specs.declared.trace.Value.{Value}
use Rattle.rl_machine.specs.Traces.{World}
use Rattle.rl_model.specs.Actions.{Action, Label}
use Rattle.rl_runs.specs.Blocks.{Passes, PreservesBlocks}
use Rattle.rl_runs.specs.Moves.{block_id, branch, ends_by, goto, last_hole, without_scope}
use Rattle.rl_runs.specs.Simulation.{RunsExpression, RunsPattern, RunsStatement}

-- The parts of a loop over keys or values, which a `ForInFrame` and a `ForOfFrame` hold.
pub record RoundsParts : Type 0 where
  pub span : Span
  pub behind : WipBlock
  pub init : ℕ
  pub body : ℕ
  pub outer : Option WipBlock
  pub head : Option WipBlock

abbrev pub rounds_of : RoundParts → RoundsParts
rounds_of f = record {
  span = f.span;
  behind = f.behind;
  init = f.init.0;
  body = f.body.0;
  outer = option_map (λ o. o.block) f.outer;
  head = f.head;
}

-- The block of the body is numbered, and its hole opens. A `continue` in it goes to the block `head`.
abbrev pub rounds_entered : State → Label → (behind head : WipBlock) → State
rounds_entered s label behind head =
    with_scope (entered (reserved s) (new_block s.env.next_block block.Block)) (scope.Loop label head.id behind.id)

-- The parts of a loop whose body opens so.
abbrev pub rounds_parted : State → (span : Span) → (behind head : WipBlock) → RoundsParts
rounds_parted s span behind head = record {
  span = span;
  behind = behind;
  init = head.id.0;
  body = s.env.next_block;
  outer = Some s.current;
  head = Some head;
}

-- The hole of the body ends, and that of the right side opens.
abbrev pub rounds_bodied : RoundsParts → State → (part : Span) → State
rounds_bodied f s part = last_hole (without_scope s) f.init gotos.Continue part (unwrap_or f.outer placeholder)

abbrev pub rounds_shut : RoundsParts → RoundsParts
rounds_shut f = record f { outer = None }

-- The hole of the right side ends by a terminal of this kind, and the init begins.
abbrev pub rounds_headed : RoundsParts → TerminalKind → State → State
rounds_headed f kind s = completed_by s (ends_by kind (Some f.span)) (unwrap_or f.head placeholder)

abbrev pub rounds_opened : RoundsParts → RoundsParts
rounds_opened f = record f { head = None }

-- The hole of the assignment ends.
abbrev pub rounds_ended : RoundsParts → State → (test : Place) → State
rounds_ended f s test = completed_by s (branch test f.body f.behind.id.0 f.behind.id.0 f.span) f.behind

abbrev pub forin_of : ForInFrame → RoundsParts
forin_of f = rounds_of f.parts

abbrev pub forin_at : State → (span : Span) → RoundsParts
forin_at s span =
    rounds_parted (reserved (reserved s)) span (new_block s.env.next_block block.Block) (new_block (s.env.next_block + 1) block.Loop)

abbrev pub forin_headed : RoundsParts → State → State
forin_headed f s = rounds_headed f (kinds.ForIn (block_id f.init) (block_id f.body) f.behind.id) s

-- The next key is asked, and the hole of the assignment opens.
abbrev pub forin_righted : RoundsParts → State → (left : Span) → (collection : Place) → State
forin_righted f s left collection = with_value (forin_headed f s) (values.NextPropertyOf collection) (Some left)

-- The place of the key.
abbrev pub forin_key : RoundsParts → State → (left : Span) → Place
forin_key f s left = temporary (forin_headed f s) (Some left)

-- From any begin, and whatever the holes mean, if the assignment completes.
pub record ForInComposes (f : RoundsParts) (old new : State) (test : Place) : Type 0 where
  pub all : (s s2 s3 : State) (span part left : Span) (label : Label) (collection : Place) (world : World) (dr : Action Value)
      (dp : Value → Action (Unit {0})) (db : Action (Unit {0}))
      → f ≡ rounds_opened (rounds_shut (forin_at s span))
      → PreservesBlocks (forin_begun s label) s2
      → PreservesBlocks (rounds_bodied (forin_at s span) s2 part) s3
      → PreservesBlocks (forin_righted (rounds_shut (forin_at s span)) s3 left collection) old
      → Passes (forin_righted (rounds_shut (forin_at s span)) s3 left collection) old
      → RunsStatement world db (forin_begun s label) s2
      → RunsExpression world dr (rounds_bodied (forin_at s span) s2 part) s3 collection.identifier.0
      → RunsPattern world dp (forin_righted (rounds_shut (forin_at s span)) s3 left collection) old
      (forin_key (rounds_shut (forin_at s span)) s3 left).identifier.0
      → PreservesBlocks s new × RunsStatement world (enumerated world label dr dp db) s new

-- The parts of a `ForOfFrame`.
pub record ForOfParts : Type 0 where
  pub rounds : RoundsParts
  pub test : Option WipBlock

abbrev pub forof_of : ForOfFrame → ForOfParts
forof_of f = record { rounds = rounds_of f.parts; test = f.test }

abbrev pub forof_at : State → (span : Span) → ForOfParts
forof_at s span = record {
  rounds =
      rounds_parted (reserved (reserved (reserved s))) span (new_block s.env.next_block block.Block)
      (new_block (s.env.next_block + 1) block.Loop);
  test = Some (new_block (s.env.next_block + 1 + 1) block.Loop);
}

-- The block of the test; a placeholder behind its begin.
abbrev pub forof_tests : ForOfParts → WipBlock
forof_tests f = unwrap_or f.test placeholder

abbrev pub forof_bodied : ForOfParts → State → (part : Span) → State
forof_bodied f s part = rounds_bodied f.rounds s part

abbrev pub forof_shut : ForOfParts → ForOfParts
forof_shut f = record f { rounds = rounds_shut f.rounds }

abbrev pub forof_headed : ForOfParts → State → State
forof_headed f s =
    rounds_headed f.rounds (kinds.ForOf (block_id f.rounds.init) (forof_tests f).id (block_id f.rounds.body) f.rounds.behind.id) s

-- The place of the iterator.
abbrev pub forof_iterator : ForOfParts → State → (collection : Place) → Place
forof_iterator f s collection = temporary (forof_headed f s) collection.span

-- The iterator is asked, and the test begins.
abbrev pub forof_tested : ForOfParts → State → (collection : Place) → State
forof_tested f s collection =
    completed_by (with_value (forof_headed f s) (values.GetIterator collection) collection.span)
    (goto (forof_tests f).id.0 gotos.Break f.rounds.span) (forof_tests f)

-- The next value is asked, and the hole of the assignment opens.
abbrev pub forof_righted : ForOfParts → State → (left : Span) → (collection : Place) → State
forof_righted f s left collection =
    with_value (forof_tested f s collection) (values.IteratorNext (forof_iterator f s collection) collection) (Some left)

-- The place of the value.
abbrev pub forof_item : ForOfParts → State → (left : Span) → (collection : Place) → Place
forof_item f s left collection = temporary (forof_tested f s collection) (Some left)

abbrev pub forof_after : ForOfParts → ForOfParts
forof_after f = record { rounds = rounds_opened f.rounds; test = None }

abbrev pub forof_ended : ForOfParts → State → (test : Place) → State
forof_ended f s test = rounds_ended f.rounds s test

-- From any begin, and whatever the holes mean, if the assignment completes.
pub record ForOfComposes (f : ForOfParts) (old new : State) (test : Place) : Type 0 where
  pub all : (s s2 s3 : State) (span part left : Span) (label : Label) (collection : Place) (world : World) (dr : Action Value)
      (dp : Value → Action (Unit {0})) (db : Action (Unit {0}))
      → f ≡ forof_after (forof_shut (forof_at s span))
      → PreservesBlocks (forof_begun s label) s2
      → PreservesBlocks (forof_bodied (forof_at s span) s2 part) s3
      → PreservesBlocks (forof_righted (forof_shut (forof_at s span)) s3 left collection) old
      → Passes (forof_righted (forof_shut (forof_at s span)) s3 left collection) old
      → RunsStatement world db (forof_begun s label) s2
      → RunsExpression world dr (forof_bodied (forof_at s span) s2 part) s3 collection.identifier.0
      → RunsPattern world dp (forof_righted (forof_shut (forof_at s span)) s3 left collection) old
      (forof_item (forof_shut (forof_at s span)) s3 left collection).identifier.0
      → PreservesBlocks s new × RunsStatement world (iterated world label dr dp db) s new
