-- The blocks of a `for`-`of` loop. That of its test is numbered before its body, and begins behind its init.
use Rattle.std.proofs.Common.{◌≡◌, ℕ, ◌+◌, ◌<◌, ◌≤◌, inl, inr, ◌++◌, false, List, [], ◌∷◌, length, length-append, Option, Some, None}
use Rattle.std.proofs.Common.{refl, sym}
use Rattle.std.proofs.Common.{◌∙◌, subst, arith}
use Rattle.rl_builder.specs.Builder.{ended_by, innermost, maybe_throw, new_block, plainly_pushed, pushed_under, reserved}
use Rattle.rl_builder.specs.Builder.{with_temporary}
use Rattle.rl_builder.specs.declared.jumps.JumpScope.{JumpScope}
use Rattle.rl_builder.specs.Temporaries.{temporary, unordered}
use Rattle.rl_frames.proofs.Common.{BlockId, Code, Extends, IsContainedIn, IsLedTo, Label, Place, Span, State}
use Rattle.rl_frames.proofs.RoundBlocks.{IsHead, IsOpened, rounds_opened, rounds_preserves}
use Rattle.rl_frames.specs.Parts.{forof_begun, forof_end, forof_init, forof_next, forof_opened, forof_test, rounds_body, rounds_finished}
use Rattle.rl_hir.specs.Blocks.{same_id}
use Rattle.rl_hir.specs.declared.function.BlockKind.TheVariants as block
use Rattle.rl_hir.specs.declared.instruction.Instruction.{Instruction}
use Rattle.rl_hir.specs.declared.instruction.InstructionValue.TheVariants as values
use Rattle.rl_hir.specs.declared.terminal.GotoVariant.TheVariants as gotos
use Rattle.rl_machine.proofs.Silence.{settles_behind, settles_goes, settles_runs}
use Rattle.rl_machine.specs.Ends.{Iterates, leaving}
use Rattle.rl_machine.specs.Machine.{Runs}
use Rattle.rl_machine.specs.Silence.{LeavesStraight, Settles}
use Rattle.rl_order.proofs.Ordering.{or_left, same_self}
use Rattle.rl_runs.proofs.BlockIds.{free_ended, free_then, ids_ended, ids_then}
use Rattle.rl_runs.proofs.Holes.{contained_hole}
use Rattle.rl_runs.proofs.Moves.{contained_before, extends_completed, extends_then, instruction_met, terminal_met}
use Rattle.rl_runs.proofs.Naming.{named_ended, named_first, named_goto, named_then, named_three, same_targets}
use Rattle.rl_runs.proofs.Passing.{passes_pushed}
use Rattle.rl_runs.proofs.Points.{empty_settles, settle_completed, settle_goto}
use Rattle.rl_runs.proofs.Preserving.{blocks_then, blocks_value}
use Rattle.rl_runs.proofs.Used.{below_or, ended_there, ends_more, looped_ended, notes_back, straight_below, straight_ended, straight_then}
use Rattle.rl_runs.specs.Blocks.{IsNameSince, JumpsSettle, Leads, NamesBlock, NamesSince, Passes, PreservesBlocks, PreservesIds}
use Rattle.rl_runs.specs.Blocks.{Settling, StraightSince}
use Rattle.rl_runs.specs.Facts.{IsCurrentOrCompleted}
use Rattle.rl_runs.specs.Moves.{block_id, goto}

-- An instruction settles where the point behind it does.
settles_before : (o : Option BlockId) (s : State) (i : Instruction) (c : Code)
    → c.item s.current.id.0 (length s.current.instructions) ≡ Some (Runs i) → IsContainedIn (pushed_under o s i) c
    → Settles c (pushed_under o s i).current.id.0 (length (pushed_under o s i).current.instructions)
    → Settles c s.current.id.0 (length s.current.instructions)
settles_before o s i c there cover after =
    settles_behind c s.current.id.0 (length s.current.instructions) i there
    (subst (λ (n : ℕ). Settles c s.current.id.0 n) one (by_handler o cover after))
  where
    one : length (s.current.instructions ++ record { 0 = length s.table } ∷ []) ≡ length s.current.instructions + 1
    one = length-append s.current.instructions (record { 0 = length s.table } ∷ [])

    by_handler : (o : Option BlockId) → IsContainedIn (pushed_under o s i) c
        → Settles c (pushed_under o s i).current.id.0 (length (pushed_under o s i).current.instructions)
        → Settles c s.current.id.0 (length (s.current.instructions ++ record { 0 = length s.table } ∷ []))
    by_handler None cover1 after1 = after1
    by_handler (Some handler) cover1 after1 =
        settles_goes c s.current.id.0 (length (plainly_pushed s i).current.instructions) (maybe_throw s.env.next_block handler i.span)
        (block_id s.env.next_block) []
        (terminal_met (reserved (plainly_pushed s i)) (maybe_throw s.env.next_block handler i.span)
        (new_block s.env.next_block s.current.kind) c cover1) refl after1

module _ (s s2 s3 s5 : State) (label : Label) (collection test : Place) (span left part : Span)
    (bb : PreservesBlocks (forof_begun s label) s2) (br : PreservesBlocks (rounds_body s2 s.env.next_block s.current part) s3)
    (bp : PreservesBlocks (forof_next s3 s.env.next_block collection span left) s5) where
  abbrev h : ℕ
  h = s.env.next_block

  abbrev i : ℕ
  i = s.env.next_block + 1

  abbrev t : ℕ
  t = s.env.next_block + 1 + 1

  abbrev l : ℕ
  l = s.env.next_block + 1 + 1 + 1

  abbrev y : State
  y = forof_init s3 h span

  abbrev so : State
  so = forof_opened s3 h collection span

  abbrev st : State
  st = forof_test s3 h collection span

  abbrev sn : State
  sn = forof_next s3 h collection span left

  abbrev opens : Instruction
  opens = unordered (temporary y collection.span) (values.GetIterator collection) collection.span

  abbrev steps : Instruction
  steps = unordered (temporary st (Some left)) (values.IteratorNext (temporary y collection.span) collection) (Some left)

  -- Up to the end of the init, and from the test on.

  bo : PreservesBlocks y so
  bo = blocks_value y (values.GetIterator collection) collection.span

  bt : PreservesBlocks st s5
  bt = blocks_then st sn s5 (blocks_value st (values.IteratorNext (temporary y collection.span) collection) (Some left)) bp

  test_extends : Extends so st
  test_extends = extends_completed so (goto t gotos.Break span) (new_block t block.Loop) (λ none. refl)

  head_extends : Extends y s5
  head_extends = extends_then bo.extends (extends_then test_extends bt.extends)

  own_blocks : (id : ℕ) → NamesBlock (forof_end s.env.next_block span) id → IsNameSince s s3.env.next_block id
  own_blocks id is = elim (named_first id (block_id i) (block_id t ∷ block_id l ∷ block_id h ∷ []) is) [
    | inl e ↦ inl (omega (arith, e), omega (arith, e, bb.extends.blocks, br.extends.blocks))
    | inr more ↦ named_three s (block_id t) (block_id l) (block_id h) s3.env.next_block (omega arith)
        (omega (arith, bb.extends.blocks, br.extends.blocks)) (omega arith) (omega (arith, bb.extends.blocks, br.extends.blocks))
        (omega arith) (omega (arith, bb.extends.blocks, br.extends.blocks)) id more
  ]

  begins : IsOpened s y l
  begins = rounds_opened s s2 s3 s5 l label (forof_end h span) test span part refl (omega arith) bb br own_blocks

  marked : (id : ℕ) → LeavesStraight (leaving (forof_end s.env.next_block span).kind) id
      → (s.env.next_block ≤ id) × (id < s.env.next_block + 1 + 1 + 1)
  marked id m = elim m [
    | inl one ↦ (let e : i ≡ id = one.0 in (omega (arith, e), omega (arith, e)))
    | inr more ↦ elim more [
      | inl two ↦ (let e : t ≡ id = two.0 in (omega (arith, e), omega (arith, e)))
      | inr rest ↦ elim rest [ inl three ↦ (let e : h ≡ id = three.0 in (omega (arith, e), omega (arith, e))) | inr never ↦ absurd never ]
    ]
  ]

  -- Ids.

  pub test_ids : PreservesIds s (forof_test s3 s.env.next_block collection span)
  test_ids =
      ids_ended so (goto t gotos.Break span) (new_block t block.Loop) (ids_then begins.ids bo.ids) (inr (omega arith))
      (λ q. free_then t bo.ids (begins.free t (omega arith) (omega arith) (λ e. omega (arith, e)) q))

  test_named : NamesSince s st
  test_named =
      named_ended s so (goto t gotos.Break span) (new_block t block.Loop)
      (named_then s y so (omega (arith, begins.room)) bo.extends.blocks
      (same_targets s y so.env.next_block begins.extends.handlers begins.extends.scopes) begins.named bo.named)
      (named_goto s t so.env.next_block gotos.Break span (omega arith) (omega (arith, begins.room, bo.extends.blocks)))

  -- Straight notes.

  test_straight : StraightSince so st
  test_straight = straight_ended so (goto t gotos.Break span) (new_block t block.Loop) (λ id never. never)

  to_test : StraightSince y st
  to_test = straight_then y so st bo.extends.blocks (omega arith) bo.straight test_straight

  behind_init : StraightSince so s5
  behind_init = straight_then so st s5 (omega arith) bt.extends.blocks test_straight bt.straight

  -- Program points.

  head_settles : Settling y s5
  head_settles c cover own below jumps old =
      bt.settle c cover (notes_back c y st s5 s5 own bo.extends.blocks (omega arith) (λ id m. inl m))
      (straight_below y st bo.extends.blocks to_test below)
      (subst (λ (x : List JumpScope). JumpsSettle c x) (sym bo.extends.scopes) jumps)
      (λ here. settle_completed so (goto t gotos.Break span) (new_block t block.Loop) c
      (settle_goto so t gotos.Break span (new_block t block.Loop) c cover_t here)
      (bo.settle c (contained_hole so t gotos.Break span (new_block t block.Loop) c cover_t)
      (notes_back c y y so s5 own (omega arith) bt.extends.blocks behind_init) below jumps old)
      (empty_settles c t))
    where
      cover_t : IsContainedIn st c
      cover_t = contained_before bt.extends cover

  asks : (c : Code) → IsContainedIn s5 c → Settles c (s.env.next_block + 1) 0
  asks c cover =
      settles_before (innermost y.handlers) (with_temporary y collection.span) opens c
      (instruction_met (with_temporary y collection.span) opens c cover_o) cover_o
      (settle_goto so t gotos.Break span (new_block t block.Loop) c cover_t
      (settles_runs c t 0 steps (instruction_met (with_temporary st (Some left)) steps c (contained_before bp.extends cover))
      (λ silent. absurd silent.silent)))
    where
      cover_t : IsContainedIn st c
      cover_t = contained_before bt.extends cover

      cover_o : IsContainedIn so c
      cover_o = contained_hole so t gotos.Break span (new_block t block.Loop) c cover_t

  -- The blocks that are reached where the init is.

  led_test : (c : Code) → IsContainedIn s5 c → (entry : ℕ) → IsLedTo c entry (s.env.next_block + 1)
      → IsLedTo c entry (s.env.next_block + 1 + 1)
  led_test c cover entry led =
      Leads so.current.id.0 (length so.current.instructions) (goto t gotos.Break span) (block_id t)
      (passes_pushed (with_temporary y collection.span) opens c
      (contained_hole so t gotos.Break span (new_block t block.Loop) c (contained_before bt.extends cover)) entry led)
      (terminal_met so (goto t gotos.Break span) (new_block t block.Loop) c (contained_before bt.extends cover))
      (or_left (same_id (block_id t) (block_id t)) false (same_self (block_id t)))

  module _ (passes : Passes (forof_next s3 s.env.next_block collection span left) s5) where
    head : IsHead s y s5
    head = record {
      extends = head_extends;
      ids = ids_then test_ids bt.ids;
      free = λ q. free_then h bt.ids
          (free_ended so (goto t gotos.Break span) t h
          (free_then h bo.ids (begins.free h (omega arith) (omega arith) (λ e. omega (arith, e)) q)) (λ e. omega (arith, e)));
      used = λ id above below. elim (below_or id y.env.next_block) [
        | inl under ↦ elim (below_or id t) [
          | inl one ↦ (let same : i ≡ id = omega (arith, above, one) in subst (λ (m : ℕ). IsCurrentOrCompleted s5 m) same head_extends.current)
          | inr more ↦ elim (below_or id l) [
            | inl two ↦ (let same : t ≡ id = omega (arith, more, two) in subst (λ (m : ℕ). IsCurrentOrCompleted s5 m) same bt.extends.current)
            | inr rest ↦ inr (head_extends.completed id (begins.used id rest under))
          ]
        ]
        | inr over ↦ elim (below_or id so.env.next_block) [
          | inl in_init ↦ inr (bt.extends.completed id (ended_there so (goto t gotos.Break span) (new_block t block.Loop) id (bo.used id over in_init)))
          | inr behind ↦ bt.used id behind below
        ]
      ];
      named = named_then s st s5 (omega (arith, begins.room, bo.extends.blocks)) bt.extends.blocks
          (same_targets s st s5.env.next_block (bo.extends.handlers ∙ begins.extends.handlers) (bo.extends.scopes ∙ begins.extends.scopes))
          test_named bt.named;
      ended = λ all. bt.ended (ends_more so.completed (ended_by so.current (goto t gotos.Break span)) refl (bo.ended all));
      straight = straight_then y st s5 bo.extends.blocks bt.extends.blocks to_test bt.straight;
      settle = head_settles;
      looped = λ c cover entry old. bt.looped c cover entry
          (looped_ended (IsLedTo c entry) so (goto t gotos.Break span) (new_block t block.Loop) (λ led. tt)
          (bo.looped c (contained_hole so t gotos.Break span (new_block t block.Loop) c (contained_before bt.extends cover)) entry old));
      passes = λ c cover entry led. passes c cover entry
          (passes_pushed (with_temporary st (Some left)) steps c (contained_before bp.extends cover) entry (led_test c cover entry led));
      asks = asks;
    }

    pub forof_blocks : PreservesBlocks s (rounds_finished s5 s.env.next_block (s.env.next_block + 1 + 1 + 1) span test)
    forof_blocks =
        rounds_preserves s s2 s3 s5 l label (forof_end h span) test span part refl (omega arith) bb br head
        ((block_id i, Iterates (block_id h) false) ∷ (block_id t, Iterates (block_id h) false) ∷ (block_id h, Iterates (block_id h) false) ∷ [])
        refl marked
        (or_left (same_id (block_id i) (block_id i)) false (same_self (block_id i))) refl
        (λ c cover entry at_init at_body at_behind. (led_test c cover entry at_init, (at_body, (at_behind, tt))))
