-- The parts of the blocks that constructs keep, as one record.
use Rattle.std.proofs.Common.{◌≡◌, ℕ, ◌+◌, ◌⊎◌, inl, inr, true, [], ◌∷◌, None, refl}
use Rattle.rl_builder.specs.Builder.{ended_by}
use Rattle.rl_frames.proofs.Common.{Code, IsContainedIn, IsLedTo, Label, Place, Span, State}
use Rattle.rl_frames.proofs.IfBlocks.{if_ids, if_looped, if_settles, if_straight, if_used}
use Rattle.rl_frames.proofs.Ifs.{if_extends}
use Rattle.rl_frames.proofs.LoopBlocks.{loop_ids, loop_looped, loop_settles, loop_straight, loop_used}
use Rattle.rl_frames.proofs.LoopLives.{led_behind, led_body, while_into}
use Rattle.rl_frames.proofs.LoopStates.{behind_extends, loop_branch, loop_extends, loop_notes}
use Rattle.rl_frames.proofs.Named.{do_while_named, if_named, while_named}
use Rattle.rl_frames.specs.Parts.{do_while_body, do_while_end, if_begun, if_end, if_finished, loop_body, while_begun, while_body, while_end}
use Rattle.rl_frames.specs.Parts.{while_finished}
use Rattle.rl_hir.specs.declared.function.BlockKind.TheVariants as block
use Rattle.rl_hir.specs.declared.terminal.GotoVariant.TheVariants as gotos
use Rattle.rl_hir.specs.declared.terminal.Terminal.{Terminal}
use Rattle.rl_machine.specs.Conditions.{loop_blocks}
use Rattle.rl_machine.specs.Ends.{Goes, catcher_of, leaving}
use Rattle.rl_machine.specs.Prunes.{Each}
use Rattle.rl_runs.proofs.Moves.{contained_before}
use Rattle.rl_runs.proofs.Used.{ends_more}
use Rattle.rl_runs.specs.Blocks.{NamesSince, Passes, PreservesBlocks, is_end}
use Rattle.rl_runs.specs.Moves.{block_id, goto, last_hole, next_hole}

pub if_blocks : (s s2 s3 s4 : State) (test : Place) (span part other : Span) → PreservesBlocks (if_begun s) s2
    → PreservesBlocks (next_hole s2 s.env.next_block gotos.Break part block.Block) s3
    → PreservesBlocks (last_hole s3 s.env.next_block gotos.Break other s.current) s4
    → PreservesBlocks s (if_finished s4 s.env.next_block (s.env.next_block + 1) s2.env.next_block test span)
if_blocks s s2 s3 s4 test span part other c a t = record {
  extends = if_extends s s2 s3 s4 test span part other c.extends a.extends t.extends;
  ids = if_ids s s2 s3 s4 test span part other c.extends a.extends t.extends c.ids a.ids t.ids;
  used = if_used s s2 s3 s4 test span part other c.extends a.extends t.extends c.used a.used t.used;
  named = if_named s s2 s3 s4 test span part other c.extends a.extends t.extends c.named a.named t.named;
  ended = λ all. ends_more s4.completed
      (ended_by s4.current (if_end s.env.next_block (s.env.next_block + 1) s2.env.next_block test span)) refl
      (t.ended (ends_more s3.completed (ended_by s3.current (goto s.env.next_block gotos.Break other)) refl
      (a.ended (ends_more s2.completed (ended_by s2.current (goto s.env.next_block gotos.Break part)) refl (c.ended all)))));
  straight = if_straight s s2 s3 s4 test span part other c.extends a.extends t.extends c.straight a.straight t.straight;
  settle =
      if_settles s s2 s3 s4 test span part other c.extends a.extends t.extends c.straight a.straight t.straight c.settle a.settle t.settle;
  looped = if_looped s s2 s3 s4 test span part other c.extends a.extends t.extends c.looped a.looped t.looped;
}

-- A loop whose terminal `end` leads to the test or to the body.
pub loop_preserves : (s s2 s4 : State) (label : Label) (test : Place) (span part : Span) (end : Terminal) (into : ℕ)
    → catcher_of end.kind ≡ None → is_end end.kind ≡ true
    → leaving end.kind ≡ Goes (block_id into) (loop_notes s.env.next_block)
    → (into ≡ s.env.next_block) ⊎ (into ≡ s.env.next_block + 1 + 1)
    → PreservesBlocks (while_begun s label) s2 → PreservesBlocks (loop_body s2 s.env.next_block end s.current part) s4
    → (NamesSince (while_begun s label) s2 → NamesSince (loop_body s2 s.env.next_block end s.current part) s4
    → NamesSince s (while_finished s4 s.env.next_block span test))
    → ((c : Code) → IsContainedIn (while_finished s4 s.env.next_block span test) c → (entry : ℕ) → IsLedTo c entry s.current.id.0
    → Each (IsLedTo c entry) (loop_blocks end.kind))
    → PreservesBlocks s (while_finished s4 s.env.next_block span test)
loop_preserves s s2 s4 label test span part end into calm ends leads first b t names blocks = record {
  extends = loop_extends s s2 s4 label test span part end calm b.extends t.extends;
  ids = loop_ids s s2 s4 label test span part end into calm b.extends t.extends b.ids t.ids;
  used = loop_used s s2 s4 label test span part end into calm b.extends t.extends b.used t.used;
  named = names b.named t.named;
  ended = λ all. ends_more s4.completed
      (ended_by s4.current (loop_branch s.env.next_block test span)) refl
      (t.ended (ends_more _ (ended_by s.current end) ends
      (ends_more s2.completed (ended_by s2.current (goto s.env.next_block gotos.Continue part)) refl (b.ended all))));
  straight = loop_straight s s2 s4 label test span part end into calm b.extends t.extends leads b.straight t.straight;
  settle = loop_settles s s2 s4 label test span part end into calm b.extends t.extends leads b.straight t.straight first b.settle t.settle;
  looped = loop_looped s s2 s4 label test span part end into calm b.extends t.extends b.looped t.looped blocks;
}

pub while_blocks : (s s2 s4 : State) (label : Label) (test : Place) (span part : Span)
    → PreservesBlocks (while_begun s label) s2 → PreservesBlocks (while_body s2 s.env.next_block span s.current part) s4
    → Passes (while_body s2 s.env.next_block span s.current part) s4
    → PreservesBlocks s (while_finished s4 s.env.next_block span test)
while_blocks s s2 s4 label test span part b t p =
    loop_preserves s s2 s4 label test span part (while_end s.env.next_block span) s.env.next_block refl refl refl (inl refl) b t
    (while_named s s2 s4 label test span part b.extends t.extends) blocks
  where
    -- Its blocks are reached where it is, since its test completes.
    blocks : (c : Code) → IsContainedIn (while_finished s4 s.env.next_block span test) c → (entry : ℕ) → IsLedTo c entry s.current.id.0
        → Each (IsLedTo c entry) (block_id s.env.next_block ∷ block_id (s.env.next_block + 1 + 1) ∷ block_id (s.env.next_block + 1) ∷ [])
    blocks c cover entry r =
        (at_test, (led_body s s4 test span c cover entry passed, (led_behind s s4 test span c cover entry passed, tt)))
      where
        at_test : IsLedTo c entry s.env.next_block
        at_test = while_into s s2 s4 test span part t.extends c cover entry r

        passed : IsLedTo c entry s4.current.id.0
        passed = p c (contained_before (behind_extends s s4 test span) cover) entry at_test

pub do_while_blocks : (s s2 s4 : State) (label : Label) (test : Place) (span part : Span)
    → PreservesBlocks (while_begun s label) s2 → PreservesBlocks (do_while_body s2 s.env.next_block span s.current part) s4
    → PreservesBlocks s (while_finished s4 s.env.next_block span test)
do_while_blocks s s2 s4 label test span part b t =
    loop_preserves s s2 s4 label test span part (do_while_end s.env.next_block span) (s.env.next_block + 1 + 1)
    refl refl refl (inr refl) b t
    (do_while_named s s2 s4 label test span part b.extends t.extends) (λ c cover entry r. tt)
