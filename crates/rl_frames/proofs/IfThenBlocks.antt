-- The blocks of an `if` statement without an alternate.
use Rattle.std.proofs.Common.{◌≡◌, ℕ, ◌+◌, ◌<◌, ◌≤◌, inl, inr, List, length, refl, sym, subst, arith}
use Rattle.rl_builder.specs.Builder.{ended_by, new_block, reserved}
use Rattle.rl_builder.specs.declared.jumps.JumpScope.{JumpScope}
use Rattle.rl_frames.proofs.Common.{Code, Extends, IsContainedIn, IsLedTo, Place, Span, State}
use Rattle.rl_frames.proofs.Ifs.{if_then_extends}
use Rattle.rl_frames.specs.Parts.{if_begun, if_end, if_finished}
use Rattle.rl_hir.specs.declared.function.BlockKind.TheVariants as block
use Rattle.rl_hir.specs.declared.terminal.GotoVariant.TheVariants as gotos
use Rattle.rl_machine.proofs.Silence.{settles_tests}
use Rattle.rl_runs.proofs.BlockIds.{IsFree, free_aside, free_fresh, free_then, ids_aside, ids_counted, ids_ended, ids_then}
use Rattle.rl_runs.proofs.Holes.{contained_hole}
use Rattle.rl_runs.proofs.Moves.{contained_before, extends_completed, terminal_met}
use Rattle.rl_runs.proofs.Naming.{named_ended, named_goto, named_then, named_three, same_targets}
use Rattle.rl_runs.proofs.Points.{empty_settles, settle_aside, settle_completed, settle_goto}
use Rattle.rl_runs.proofs.Used.{below_or, ended_there, ends_more, looped_ended, notes_back, still_there, straight_below, straight_ended}
use Rattle.rl_runs.proofs.Used.{straight_then}
use Rattle.rl_runs.specs.Blocks.{AreUsed, JumpsSettle, NamesSince, PointsSettle, PreservesBlocks, PreservesIds, Settling}
use Rattle.rl_runs.specs.Blocks.{StraightBelow, StraightSince, UniqueIds}
use Rattle.rl_runs.specs.Facts.{IsCurrentOrCompleted}
use Rattle.rl_runs.specs.Moves.{block_id, goto, last_hole}

module _ (s s2 s4 : State) (test : Place) (span part : Span) where
  abbrev n : ℕ
  n = s.env.next_block

  abbrev s1 : State
  s1 = reserved (reserved s)

  abbrev begun : State
  begun = if_begun s

  abbrev shut : State
  shut = last_hole s2 n gotos.Break part s.current

  abbrev last : State
  last = if_finished s4 n (n + 1) n test span

  module _ (bc : PreservesBlocks (if_begun s) s2)
      (bt : PreservesBlocks (last_hole s2 s.env.next_block gotos.Break part s.current) s4) where
    ends : Extends s4 last
    ends = extends_completed s4 (if_end n (n + 1) n test span) (new_block n block.Block) (λ none. refl)

    -- Ids.

    first : (id : ℕ) → n ≤ id → id < n + 1 + 1 → UniqueIds s.completed s.current.id.0 n
        → IsFree s1.completed s1.current.id.0 s1.env.next_block id
    first id above below c = free_fresh s.completed s.current.id.0 n (n + 1 + 1) id c above below

    closed_ids : PreservesIds s shut
    closed_ids =
        ids_aside s1 s2 (n + 1) (goto n gotos.Break part) (ids_counted s.completed s.current.id.0 n (n + 1 + 1) (omega arith))
        (inr (omega arith)) (first (n + 1) (omega arith) (omega arith)) bc.ids

    all_ids : PreservesIds s last
    all_ids =
        ids_ended s4 (if_end n (n + 1) n test span) (new_block n block.Block) (ids_then closed_ids bt.ids) (inr (omega arith))
        (λ c. free_then n bt.ids
        (free_aside s1 s2 (n + 1) n (goto n gotos.Break part) (first n (omega arith) (omega arith) c) (λ e. omega (arith, e)) bc.ids))

    -- Each block is used.
    all_used : AreUsed s last
    all_used id above below = elim (below_or id (n + 1)) [
      | inl one ↦ (let same : n ≡ id = omega (arith, above, one) in inl same)
      | inr rest ↦ inr (ended_there s4 (if_end n (n + 1) n test span) (new_block n block.Block) id (elim (below_or id s2.env.next_block) [
        | inl under ↦ still_there bt.extends id (inr (ended_there s2 (goto n gotos.Break part) s.current id (in_hole under rest)))
        | inr over ↦ bt.used id over below
      ]))
    ]
      where
        in_hole : id < s2.env.next_block → n + 1 ≤ id → IsCurrentOrCompleted s2 id
        in_hole under rest = elim (below_or id (n + 1 + 1)) [
          | inl two ↦ (let same : n + 1 ≡ id = omega (arith, rest, two) in subst (λ (m : ℕ). IsCurrentOrCompleted s2 m) same bc.extends.current)
          | inr more ↦ bc.used id more under
        ]

    -- Names.

    to_hole : NamesSince s s2
    to_hole = named_then s begun s2 (omega arith) bc.extends.blocks (λ id to. inr to) (λ b one. inl one) bc.named

    to_shut : NamesSince s shut
    to_shut =
        named_ended s s2 (goto n gotos.Break part) s.current to_hole
        (named_goto s n s2.env.next_block gotos.Break part (omega arith) (omega (arith, bc.extends.blocks)))

    to_test : NamesSince s s4
    to_test =
        named_then s shut s4 (omega (arith, bc.extends.blocks)) bt.extends.blocks
        (same_targets s shut s4.env.next_block bc.extends.handlers bc.extends.scopes) to_shut bt.named

    all_named : NamesSince s last
    all_named =
        named_ended s s4 (if_end n (n + 1) n test span) (new_block n block.Block) to_test
        (named_three s (block_id (n + 1)) (block_id n) (block_id n) s4.env.next_block (omega arith)
        (omega (arith, bc.extends.blocks, bt.extends.blocks)) (omega arith) (omega (arith, bc.extends.blocks, bt.extends.blocks))
        (omega arith) (omega (arith, bc.extends.blocks, bt.extends.blocks)))

    -- Straight notes.

    last_straight : StraightSince s4 last
    last_straight = straight_ended s4 (if_end n (n + 1) n test span) (new_block n block.Block) (λ id never. never)

    hole_straight : StraightSince s2 last
    hole_straight =
        straight_then s2 shut last (omega arith) (omega (arith, bt.extends.blocks))
        (straight_ended s2 (goto n gotos.Break part) s.current (λ id never. never))
        (straight_then shut s4 last bt.extends.blocks (omega arith) bt.straight last_straight)

    all_straight : StraightSince s last
    all_straight =
        straight_then s begun last (omega arith) (omega (arith, bc.extends.blocks, bt.extends.blocks)) (λ id m. inl m)
        (straight_then begun s2 last bc.extends.blocks (omega (arith, bt.extends.blocks)) bc.straight hole_straight)

    cover4 : (c : Code) → IsContainedIn last c → IsContainedIn s4 c
    cover4 c cover = contained_before ends cover

    cover_shut : (c : Code) → IsContainedIn last c → IsContainedIn shut c
    cover_shut c cover = contained_before bt.extends (cover4 c cover)

    cover2 : (c : Code) → IsContainedIn last c → IsContainedIn s2 c
    cover2 c cover = contained_hole s2 n gotos.Break part s.current c (cover_shut c cover)

    pub if_then_blocks : PreservesBlocks s last
    if_then_blocks = record {
      extends = if_then_extends s s2 s4 test span part bc.extends bt.extends;
      ids = all_ids;
      used = all_used;
      named = all_named;
      ended = λ all. ends_more s4.completed (ended_by s4.current (if_end n (n + 1) n test span)) refl
          (bt.ended (ends_more s2.completed (ended_by s2.current (goto n gotos.Break part)) refl (bc.ended all)));
      straight = all_straight;
      settle = settles;
      looped = λ c cover entry old.
          looped_ended (IsLedTo c entry) s4 (if_end n (n + 1) n test span) (new_block n block.Block) (λ led. tt)
          (bt.looped c (cover4 c cover) entry
          (looped_ended (IsLedTo c entry) s2 (goto n gotos.Break part) s.current (λ led. tt) (bc.looped c (cover2 c cover) entry old)));
    }
      where
        settles : Settling s last
        settles c cover own below jumps old behind =
            settle_completed s4 (if_end n (n + 1) n test span) (new_block n block.Block) c
            (settles_tests c s4.current.id.0 (length s4.current.instructions) (if_end n (n + 1) n test span) test.identifier.0
            (block_id (n + 1)) (block_id n) (block_id n)
            (terminal_met s4 (if_end n (n + 1) n test span) (new_block n block.Block) c cover) refl)
            (bt.settle c (cover4 c cover)
            (notes_back c s shut s4 last own (omega (arith, bc.extends.blocks)) (omega arith) last_straight) below_shut
            (subst (λ (l : List JumpScope). JumpsSettle c l) (sym bc.extends.scopes) jumps)
            (settle_aside s s2 (new_block (n + 1) block.Block) (goto n gotos.Break part) c refl branch
            (settle_goto s2 n gotos.Break part s.current c (cover_shut c cover) behind) old))
            (empty_settles c n)
          where
            below_begun : StraightBelow begun
            below_begun id m = (let small : id < n = below id m in omega (arith, small))

            below_shut : StraightBelow shut
            below_shut =
                straight_below s2 shut (omega arith) (straight_ended s2 (goto n gotos.Break part) s.current (λ id never. never))
                (straight_below begun s2 bc.extends.blocks bc.straight below_begun)

            branch : PointsSettle c begun → PointsSettle c s2
            branch start =
                bc.settle c (cover2 c cover)
                (notes_back c s begun s2 last own (omega arith) (omega (arith, bt.extends.blocks)) hole_straight) below_begun jumps start
