-- The blocks of a `for`-`in` loop.
use Rattle.std.proofs.Common.{◌≡◌, ℕ, ◌+◌, ◌<◌, ◌≤◌, inl, inr, false, [], ◌∷◌, Some, refl, subst, arith}
use Rattle.rl_builder.specs.Builder.{with_temporary}
use Rattle.rl_builder.specs.Temporaries.{temporary, unordered}
use Rattle.rl_frames.proofs.Common.{Code, IsContainedIn, Label, Place, Span, State}
use Rattle.rl_frames.proofs.RoundBlocks.{IsHead, IsOpened, rounds_opened, rounds_preserves}
use Rattle.rl_frames.specs.Parts.{forin_begun, forin_end, forin_init, forin_next, rounds_body, rounds_finished}
use Rattle.rl_hir.specs.Blocks.{same_id}
use Rattle.rl_hir.specs.declared.instruction.Instruction.{Instruction}
use Rattle.rl_hir.specs.declared.instruction.InstructionValue.TheVariants as values
use Rattle.rl_machine.proofs.Silence.{settles_runs}
use Rattle.rl_machine.specs.Ends.{Enumerates, leaving}
use Rattle.rl_machine.specs.Silence.{LeavesStraight, Settles}
use Rattle.rl_order.proofs.Ordering.{or_left, same_self}
use Rattle.rl_runs.proofs.BlockIds.{free_then, ids_then}
use Rattle.rl_runs.proofs.Moves.{contained_before, instruction_met}
use Rattle.rl_runs.proofs.Naming.{named_then, named_three, same_targets}
use Rattle.rl_runs.proofs.Passing.{passes_pushed, passes_then}
use Rattle.rl_runs.proofs.Preserving.{blocks_then, blocks_value}
use Rattle.rl_runs.proofs.Used.{below_or}
use Rattle.rl_runs.specs.Blocks.{IsNameSince, NamesBlock, Passes, PreservesBlocks}
use Rattle.rl_runs.specs.Facts.{IsCurrentOrCompleted}
use Rattle.rl_runs.specs.Moves.{block_id}

module _ (s s2 s3 s5 : State) (label : Label) (collection test : Place) (span left part : Span)
    (bb : PreservesBlocks (forin_begun s label) s2) (br : PreservesBlocks (rounds_body s2 s.env.next_block s.current part) s3)
    (bp : PreservesBlocks (forin_next s3 s.env.next_block collection span left) s5)
    (passes : Passes (forin_next s3 s.env.next_block collection span left) s5) where
  abbrev h : ℕ
  h = s.env.next_block

  abbrev i : ℕ
  i = s.env.next_block + 1

  abbrev l : ℕ
  l = s.env.next_block + 1 + 1

  abbrev y : State
  y = forin_init s3 h span

  abbrev sn : State
  sn = forin_next s3 h collection span left

  abbrev next : Instruction
  next = unordered (temporary y (Some left)) (values.NextPropertyOf collection) (Some left)

  b : PreservesBlocks y s5
  b = blocks_then y sn s5 (blocks_value y (values.NextPropertyOf collection) (Some left)) bp

  own_blocks : (id : ℕ) → NamesBlock (forin_end s.env.next_block span) id → IsNameSince s s3.env.next_block id
  own_blocks =
      named_three s (block_id i) (block_id l) (block_id h) s3.env.next_block (omega arith)
      (omega (arith, bb.extends.blocks, br.extends.blocks)) (omega arith) (omega (arith, bb.extends.blocks, br.extends.blocks))
      (omega arith) (omega (arith, bb.extends.blocks, br.extends.blocks))

  begins : IsOpened s y l
  begins = rounds_opened s s2 s3 s5 l label (forin_end h span) test span part refl (omega arith) bb br own_blocks

  marked : (id : ℕ) → LeavesStraight (leaving (forin_end s.env.next_block span).kind) id
      → (s.env.next_block ≤ id) × (id < s.env.next_block + 1 + 1)
  marked id m = elim m [
    | inl one ↦ (let e : i ≡ id = one.0 in (omega (arith, e), omega (arith, e)))
    | inr more ↦ elim more [ inl two ↦ (let e : h ≡ id = two.0 in (omega (arith, e), omega (arith, e))) | inr never ↦ absurd never ]
  ]

  asks : (c : Code) → IsContainedIn s5 c → Settles c (s.env.next_block + 1) 0
  asks c cover =
      settles_runs c i 0 next (instruction_met (with_temporary y (Some left)) next c (contained_before bp.extends cover))
      (λ silent. absurd silent.silent)

  head : IsHead s y s5
  head = record {
    extends = b.extends;
    ids = ids_then begins.ids b.ids;
    free = λ q. free_then h b.ids (begins.free h (omega arith) (omega arith) (λ e. omega (arith, e)) q);
    used = λ id above below. elim (below_or id y.env.next_block) [
      | inl under ↦ elim (below_or id l) [
        | inl one ↦ (let same : i ≡ id = omega (arith, above, one) in subst (λ (m : ℕ). IsCurrentOrCompleted s5 m) same b.extends.current)
        | inr more ↦ inr (b.extends.completed id (begins.used id more under))
      ]
      | inr over ↦ b.used id over below
    ];
    named = named_then s y s5 (omega (arith, begins.room)) b.extends.blocks
        (same_targets s y s5.env.next_block begins.extends.handlers begins.extends.scopes) begins.named b.named;
    ended = b.ended;
    straight = b.straight;
    settle = b.settle;
    looped = b.looped;
    passes = passes_then y bp.extends (passes_pushed (with_temporary y (Some left)) next) passes;
    asks = asks;
  }

  pub forin_blocks : PreservesBlocks s (rounds_finished s5 s.env.next_block (s.env.next_block + 1 + 1) span test)
  forin_blocks =
      rounds_preserves s s2 s3 s5 l label (forin_end h span) test span part refl (omega arith) bb br head
      ((block_id i, Enumerates (block_id h)) ∷ (block_id h, Enumerates (block_id h)) ∷ []) refl marked
      (or_left (same_id (block_id i) (block_id i)) false (same_self (block_id i))) refl
      (λ c cover entry at_init at_body at_behind. (at_body, (at_behind, tt)))
