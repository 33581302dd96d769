-- The blocks of an `if` statement of two branches.
use Rattle.std.proofs.Common.{◌≡◌, ℕ, ◌+◌, ◌<◌, ◌≤◌, inl, inr, List, length, refl, sym, subst, arith}
use Rattle.rl_builder.specs.Builder.{new_block, reserved}
use Rattle.rl_builder.specs.declared.jumps.JumpScope.{JumpScope}
use Rattle.rl_frames.proofs.Common.{Extends, IsContainedIn, IsLedTo, Place, Span, State}
use Rattle.rl_frames.specs.Parts.{if_begun, if_end, if_finished}
use Rattle.rl_hir.specs.declared.function.BlockKind.TheVariants as block
use Rattle.rl_hir.specs.declared.terminal.GotoVariant.TheVariants as gotos
use Rattle.rl_machine.proofs.Silence.{settles_tests}
use Rattle.rl_runs.proofs.BlockIds.{IsFree, free_aside, free_fresh, free_then, ids_aside, ids_counted, ids_ended, ids_fresh, ids_then}
use Rattle.rl_runs.proofs.Holes.{contained_hole}
use Rattle.rl_runs.proofs.Moves.{contained_before, extends_completed, extends_then, terminal_met}
use Rattle.rl_runs.proofs.Points.{empty_settles, settle_aside, settle_completed, settle_goto}
use Rattle.rl_runs.proofs.Used.{below_or, ended_there, looped_ended, notes_back, still_there, straight_ended, straight_fresh}
use Rattle.rl_runs.proofs.Used.{straight_then, used_fresh, used_then}
use Rattle.rl_runs.specs.Blocks.{AreUsed, JumpsSettle, Looping, PointsSettle, PreservesIds, PreservesUniqueIds, Settling}
use Rattle.rl_runs.specs.Blocks.{StraightBelow, StraightSince, UniqueIds}
use Rattle.rl_runs.specs.Facts.{IsCurrentOrCompleted}
use Rattle.rl_runs.specs.Moves.{goto, last_hole, next_hole}

module _ (s s2 s3 s4 : State) (test : Place) (span part other : Span) where
  abbrev n : ℕ
  n = s.env.next_block

  abbrev s1 : State
  s1 = reserved (reserved s)

  abbrev begun : State
  begun = if_begun s

  abbrev open_ : State
  open_ = next_hole s2 n gotos.Break part block.Block

  abbrev shut : State
  shut = last_hole s3 n gotos.Break other s.current

  abbrev pub last : State
  last = if_finished s4 n (n + 1) s2.env.next_block test span

  module _ (gc : Extends (if_begun s) s2) (ga : Extends (next_hole s2 s.env.next_block gotos.Break part block.Block) s3)
      (gt : Extends (last_hole s3 s.env.next_block gotos.Break other s.current) s4) where
    opens : Extends s2 open_
    opens =
        extends_then (Rattle.rl_runs.proofs.Moves.extends_reserved s2)
        (extends_completed (reserved s2) (goto n gotos.Break part) (new_block s2.env.next_block block.Block) (λ none. refl))

    ends : Extends s4 last
    ends = extends_completed s4 (if_end n (n + 1) s2.env.next_block test span) (new_block n block.Block) (λ none. refl)

    within : Extends begun s3
    within = extends_then gc (extends_then opens ga)

    -- Ids.
    module _ (ic : PreservesIds (if_begun s) s2) (ia : PreservesIds (next_hole s2 s.env.next_block gotos.Break part block.Block) s3)
        (it : PreservesIds (last_hole s3 s.env.next_block gotos.Break other s.current) s4) where
      inside : PreservesUniqueIds s1.completed (n + 1) s1.env.next_block s3.completed s3.current.id.0 s3.env.next_block
      inside = ids_then ic (ids_then (ids_fresh s2 (goto n gotos.Break part) block.Block) ia)

      first : (id : ℕ) → n ≤ id → id < n + 1 + 1 → UniqueIds s.completed s.current.id.0 n
          → IsFree s1.completed s1.current.id.0 s1.env.next_block id
      first id above below c = free_fresh s.completed s.current.id.0 n (n + 1 + 1) id c above below

      closed_ids : PreservesIds s shut
      closed_ids =
          ids_aside s1 s3 (n + 1) (goto n gotos.Break other) (ids_counted s.completed s.current.id.0 n (n + 1 + 1) (omega arith))
          (inr (omega arith)) (first (n + 1) (omega arith) (omega arith)) inside

      pub if_ids : PreservesIds s last
      if_ids =
          ids_ended s4 (if_end n (n + 1) s2.env.next_block test span) (new_block n block.Block) (ids_then closed_ids it)
          (inr (omega arith))
          (λ c. free_then n it (free_aside s1 s3 (n + 1) n (goto n gotos.Break other) (first n (omega arith) (omega arith) c)
          (λ e. omega arith) inside))

    -- Each block is used.
    pub if_used : AreUsed (if_begun s) s2 → AreUsed (next_hole s2 s.env.next_block gotos.Break part block.Block) s3
        → AreUsed (last_hole s3 s.env.next_block gotos.Break other s.current) s4 → AreUsed s last
    if_used uc ua ut id above below = elim (below_or id (n + 1)) [
      | inl one ↦ (let same : n ≡ id = omega (arith, above, one) in inl same)
      | inr rest ↦ inr (ended_there s4 (if_end n (n + 1) s2.env.next_block test span) (new_block n block.Block) id (elim (below_or id s3.env.next_block) [
        | inl under ↦ still_there gt id (inr (ended_there s3 (goto n gotos.Break other) s.current id (of_branches under rest)))
        | inr over ↦ ut id over below
      ]))
    ]
      where
        of_branches : id < s3.env.next_block → n + 1 ≤ id → IsCurrentOrCompleted s3 id
        of_branches under rest = elim (below_or id (n + 1 + 1)) [
          | inl two ↦ (let same : n + 1 ≡ id = omega (arith, rest, two) in subst (λ (x : ℕ). IsCurrentOrCompleted s3 x) same within.current)
          | inr more ↦ used_then begun ga (used_then begun opens uc (used_fresh s2 (goto n gotos.Break part) block.Block)) ua id more under
        ]

    -- Straight notes.
    module _ (sc : StraightSince (if_begun s) s2) (sa : StraightSince (next_hole s2 s.env.next_block gotos.Break part block.Block) s3)
        (st : StraightSince (last_hole s3 s.env.next_block gotos.Break other s.current) s4) where
      last_straight : StraightSince s4 last
      last_straight = straight_ended s4 (if_end n (n + 1) s2.env.next_block test span) (new_block n block.Block) (λ id never. never)

      shut_straight : StraightSince s3 last
      shut_straight =
          straight_then s3 shut last (omega arith) gt.blocks
          (straight_ended s3 (goto n gotos.Break other) s.current (λ id never. never))
          (straight_then shut s4 last gt.blocks (omega arith) st last_straight)

      open_straight : StraightSince s2 last
      open_straight =
          straight_then s2 open_ last (omega arith) (omega (arith, ga.blocks, gt.blocks))
          (straight_fresh s2 (goto n gotos.Break part) block.Block (λ id never. never))
          (straight_then open_ s3 last ga.blocks gt.blocks sa shut_straight)

      pub if_straight : StraightSince s last
      if_straight =
          straight_then s begun last (omega arith) (omega (arith, gc.blocks, ga.blocks, gt.blocks)) (λ id m. inl m)
          (straight_then begun s2 last gc.blocks (omega (arith, ga.blocks, gt.blocks)) sc open_straight)

      -- Program points.
      pub if_settles : Settling (if_begun s) s2 → Settling (next_hole s2 s.env.next_block gotos.Break part block.Block) s3
          → Settling (last_hole s3 s.env.next_block gotos.Break other s.current) s4 → Settling s last
      if_settles tc ta tt1 c cover own below jumps old behind =
          settle_completed s4 (if_end n (n + 1) s2.env.next_block test span) (new_block n block.Block) c
          (settles_tests c s4.current.id.0 (length s4.current.instructions) (if_end n (n + 1) s2.env.next_block test span) test.identifier.0
          (record { 0 = n + 1 }) (record { 0 = s2.env.next_block }) (record { 0 = n })
          (terminal_met s4 (if_end n (n + 1) s2.env.next_block test span) (new_block n block.Block) c cover) refl)
          (tt1 c cover4 (notes_back c s shut s4 last own (omega (arith, within.blocks)) (omega arith) last_straight) below_shut jumps_shut
          (settle_aside s s3 (new_block (n + 1) block.Block) (goto n gotos.Break other) c refl branches
          (settle_goto s3 n gotos.Break other s.current c cover_shut behind) old))
          (empty_settles c n)
        where
          cover4 : IsContainedIn s4 c
          cover4 = contained_before ends cover

          cover_shut : IsContainedIn shut c
          cover_shut = contained_before gt cover4

          cover3 : IsContainedIn s3 c
          cover3 = contained_hole s3 n gotos.Break other s.current c cover_shut

          cover_open : IsContainedIn open_ c
          cover_open = contained_before ga cover3

          cover2 : IsContainedIn s2 c
          cover2 = contained_before opens cover_open

          by_scopes : (x : State) → x.scopes ≡ s.scopes → JumpsSettle c x.scopes
          by_scopes x same = subst (λ (l : List JumpScope). JumpsSettle c l) (sym same) jumps

          jumps_shut : JumpsSettle c shut.scopes
          jumps_shut = by_scopes shut within.scopes

          below_open : StraightBelow open_
          below_open id m = elim (straight_fresh s2 (goto n gotos.Break part) block.Block (λ id1 never. never) id m) [
            | inl m2 ↦ elim (sc id m2) [ inl old1 ↦ (let small : id < n = below id old1 in omega (arith, small, gc.blocks)) | inr o ↦ omega (arith, o.1) ]
            | inr o ↦ o.1
          ]

          below_shut : StraightBelow shut
          below_shut id m = elim (straight_ended s3 (goto n gotos.Break other) s.current (λ id1 never. never) id m) [
            | inl m3 ↦ elim (sa id m3) [ inl mo ↦ (let small : id < open_.env.next_block = below_open id mo in omega (arith, small, ga.blocks)) | inr o ↦ o.1 ]
            | inr o ↦ o.1
          ]

          branches : PointsSettle c begun → PointsSettle c s3
          branches start =
              ta c cover3 (notes_back c s open_ s3 last own (omega (arith, gc.blocks)) gt.blocks shut_straight) below_open
              (by_scopes open_ gc.scopes)
              (λ here. settle_completed (reserved s2) (goto n gotos.Break part) (new_block s2.env.next_block block.Block) c
              (settle_goto (reserved s2) n gotos.Break part (new_block s2.env.next_block block.Block) c cover_open behind)
              (tc c cover2 (notes_back c s begun s2 last own (omega arith) (omega (arith, ga.blocks, gt.blocks)) open_straight) (λ id m. (let small : id < n = below id m in omega (arith, small))) jumps start)
              (empty_settles c s2.env.next_block))

    -- Loops.
    pub if_looped : Looping (if_begun s) s2 → Looping (next_hole s2 s.env.next_block gotos.Break part block.Block) s3
        → Looping (last_hole s3 s.env.next_block gotos.Break other s.current) s4 → Looping s last
    if_looped lc la lt c cover entry old =
        looped_ended (IsLedTo c entry) s4 (if_end n (n + 1) s2.env.next_block test span) (new_block n block.Block) (λ r. tt)
        (lt c cover4 entry
        (looped_ended (IsLedTo c entry) s3 (goto n gotos.Break other) s.current (λ r. tt)
        (la c cover3 entry
        (looped_ended (IsLedTo c entry) (reserved s2) (goto n gotos.Break part) (new_block s2.env.next_block block.Block) (λ r. tt)
        (lc c (contained_before opens (contained_before ga cover3)) entry old)))))
      where
        cover4 : IsContainedIn s4 c
        cover4 = contained_before ends cover

        cover3 : IsContainedIn s3 c
        cover3 = contained_hole s3 n gotos.Break other s.current c (contained_before gt cover4)
