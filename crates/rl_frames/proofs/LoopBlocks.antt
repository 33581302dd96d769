-- The blocks of a loop: of its test, of its body and behind it. Its terminal leads to the test or to the body first.
use Rattle.std.proofs.Common.{◌≡◌, ℕ, ◌+◌, ◌<◌, ◌≤◌, ◌⊎◌, inl, inr, true, List, length, None, refl, sym, subst, arith}
use Rattle.rl_builder.specs.Builder.{new_block, reserved}
use Rattle.rl_builder.specs.declared.jumps.JumpScope.{JumpScope}
use Rattle.rl_frames.proofs.Common.{BlockId, Code, Extends, IsContainedIn, IsLedTo, Label, Place, Span, State}
use Rattle.rl_frames.proofs.LoopStates.{IsLoopIn, loop_in, loop_notes, scopes_left}
use Rattle.rl_frames.specs.Parts.{loop_body, while_begun, while_finished, while_scope}
use Rattle.rl_hir.specs.declared.function.BlockKind.TheVariants as block
use Rattle.rl_hir.specs.declared.terminal.GotoVariant.TheVariants as gotos
use Rattle.rl_hir.specs.declared.terminal.Terminal.{Terminal}
use Rattle.rl_machine.proofs.Silence.{settles_goes, settles_reads}
use Rattle.rl_machine.specs.Conditions.{loop_blocks}
use Rattle.rl_machine.specs.Ends.{Goes, Leaving, Straight, Truthy, catcher_of, leaving, noted}
use Rattle.rl_machine.specs.Prunes.{Each}
use Rattle.rl_machine.specs.Silence.{IsNotedStraight, LeavesStraight, Settles}
use Rattle.rl_runs.proofs.BlockIds.{IsFree, free_aside, free_ended, free_fresh, free_then, ids_aside, ids_counted, ids_ended, ids_then}
use Rattle.rl_runs.proofs.Moves.{terminal_met}
use Rattle.rl_runs.proofs.Points.{empty_settles, scope_jumps_settle, settle_aside, settle_completed, settle_goto}
use Rattle.rl_runs.proofs.Used.{below_or, ended_there, looped_ended, notes_back, straight_ended, straight_then}
use Rattle.rl_runs.specs.Blocks.{AreUsed, HasPoint, JumpsSettle, Looping, PointsSettle, PreservesIds, Settling, StraightBelow}
use Rattle.rl_runs.specs.Blocks.{StraightSince, UniqueIds}
use Rattle.rl_runs.specs.Facts.{IsCompleted, IsCurrentOrCompleted}
use Rattle.rl_runs.specs.Moves.{block_id, branch, goto, last_hole, without_scope}

module _ (s s2 s4 : State) (label : Label) (test : Place) (span part : Span) (end : Terminal) (into : ℕ)
    (calm : catcher_of end.kind ≡ None) where
  abbrev h : ℕ
  h = s.env.next_block

  abbrev f : ℕ
  f = s.env.next_block + 1

  abbrev l : ℕ
  l = s.env.next_block + 1 + 1

  abbrev s1 : State
  s1 = reserved (reserved (reserved s))

  abbrev begun : State
  begun = while_begun s label

  abbrev shut : State
  shut = last_hole (without_scope s2) h gotos.Continue part s.current

  abbrev tst : State
  tst = loop_body s2 h end s.current part

  abbrev pub last : State
  last = while_finished s4 h span test

  never_straight : leaving end.kind ≡ Goes (block_id into) (loop_notes s.env.next_block) → (id : ℕ) → LeavesStraight (leaving end.kind) id
      → ⊥
  never_straight leads id n = elim (subst (λ (x : Leaving). LeavesStraight x id) leads n) [
    | inl x ↦ (let bad : Truthy true ≡ Straight = x.1 in absurd (cc))
    | inr y ↦ elim y [ inl x ↦ (let bad : Truthy true ≡ Straight = x.1 in absurd (cc)) | inr never ↦ never ]
  ]

  module _ (gb : Extends (while_begun s label) s2) (gt : Extends (loop_body s2 s.env.next_block end s.current part) s4) where
    -- Ids.
    module _ (ib : PreservesIds (while_begun s label) s2)
        (it : PreservesIds (loop_body s2 s.env.next_block end s.current part) s4) where
      first : (id : ℕ) → h ≤ id → id < h + 1 + 1 + 1 → UniqueIds s.completed s.current.id.0 h
          → IsFree s1.completed s1.current.id.0 s1.env.next_block id
      first id above below c = free_fresh s.completed s.current.id.0 h (h + 1 + 1 + 1) id c above below

      kept : (id : ℕ) → h ≤ id → id < l → UniqueIds s.completed s.current.id.0 h
          → IsFree shut.completed shut.current.id.0 shut.env.next_block id
      kept id above below c =
          free_aside s1 (without_scope s2) l id (goto h gotos.Continue part) (first id above (omega (arith, below)) c)
          (λ e. omega (arith, e, below)) ib

      tst_ids : PreservesIds s tst
      tst_ids =
          ids_ended shut end (new_block h block.Loop)
          (ids_aside s1 (without_scope s2) l (goto h gotos.Continue part)
          (ids_counted s.completed s.current.id.0 h (h + 1 + 1 + 1) (omega arith)) (inr (omega arith))
          (first l (omega arith) (omega arith)) ib)
          (inr (omega arith)) (kept h (omega arith) (omega arith))

      pub loop_ids : PreservesIds s last
      loop_ids = ids_ended s4 (branch test l f h span) (new_block f block.Block) (ids_then tst_ids it) (inr (omega arith))
          (λ c. free_then f it (free_ended shut end h f (kept f (omega arith) (omega arith) c) (λ e. omega (arith, e))))

    -- Each block is used.
    pub loop_used : AreUsed (while_begun s label) s2 → AreUsed (loop_body s2 s.env.next_block end s.current part) s4 → AreUsed s last
    loop_used ub ut id above below = elim (below_or id s2.env.next_block) [
      | inl under ↦ elim (below_or id (h + 1)) [
        | inl one ↦ (let same : h ≡ id = omega (arith, above, one) in inr (ended_there s4 (branch test l f h span) (new_block f block.Block) id (subst (λ (x : ℕ). IsCurrentOrCompleted s4 x) same gt.current)))
        | inr more ↦ elim (below_or id (h + 1 + 1)) [
          | inl two ↦ (let same : f ≡ id = omega (arith, more, two) in inl same)
          | inr rest ↦ inr (of_body (elim (below_or id (h + 1 + 1 + 1)) [
            | inl three ↦ (let same : l ≡ id = omega (arith, rest, three) in subst (λ (x : ℕ). IsCurrentOrCompleted s2 x) same gb.current)
            | inr others ↦ ub id others under
          ]))
        ]
      ]
      | inr over ↦ inr (ended_there s4 (branch test l f h span) (new_block f block.Block) id (ut id over below))
    ]
      where
        of_body : IsCurrentOrCompleted s2 id → IsCompleted last.completed id
        of_body there =
            ended_there s4 (branch test l f h span) (new_block f block.Block) id
            (inr (gt.completed id
            (ended_there shut end (new_block h block.Loop) id
            (inr (ended_there (without_scope s2) (goto h gotos.Continue part) s.current id there)))))

    -- Straight notes.
    module _ (leads : leaving end.kind ≡ Goes (block_id into) (loop_notes s.env.next_block))
        (sb : StraightSince (while_begun s label) s2) (st : StraightSince (loop_body s2 s.env.next_block end s.current part) s4) where
      last_straight : StraightSince s4 last
      last_straight = straight_ended s4 (branch test l f h span) (new_block f block.Block) (λ id never. never)

      tst_straight : StraightSince tst last
      tst_straight = straight_then tst s4 last gt.blocks (omega arith) st last_straight

      body_straight : StraightSince s2 last
      body_straight =
          straight_then s2 shut last (omega arith) gt.blocks
          (λ id m. straight_ended (without_scope s2) (goto h gotos.Continue part) s.current (λ id1 never. never) id m)
          (straight_then shut tst last (omega arith) gt.blocks
          (straight_ended shut end (new_block h block.Loop) (never_straight leads)) tst_straight)

      begun_straight : StraightSince begun last
      begun_straight = straight_then begun s2 last gb.blocks gt.blocks sb body_straight

      pub loop_straight : StraightSince s last
      loop_straight = straight_then s begun last (omega arith) (omega (arith, gb.blocks, gt.blocks)) (λ id m. inl m) begun_straight

      -- Program points.
      pub loop_settles : (into ≡ s.env.next_block) ⊎ (into ≡ s.env.next_block + 1 + 1) → Settling (while_begun s label) s2
          → Settling (loop_body s2 s.env.next_block end s.current part) s4
          → Settling s last
      loop_settles first tb tt1 c cover own below jumps old behind =
          settle_completed s4 (branch test l f h span) (new_block f block.Block) c
          (settles_reads c s4.current.id.0 (length s4.current.instructions) (branch test l f h span) test.identifier.0 (block_id l)
          (block_id f) (block_id h) (terminal_met s4 (branch test l f h span) (new_block f block.Block) c cover) refl
          (λ noted. absurd (not_noted noted)))
          (tt1 c met.behind (notes_back c s tst s4 last own (omega (arith, gb.blocks)) (omega arith) last_straight) below_tst
          (subst (λ (x : List JumpScope). JumpsSettle c x) (sym (scopes_left s s2 label gb)) jumps) in_test)
          (empty_settles c f)
        where
          met : IsLoopIn c s s2 s4 part end
          met = loop_in s s2 s4 test span part end calm gt c cover

          -- No straight note is left at the test.
          not_noted : IsNotedStraight c h → ⊥
          not_noted noted = elim (begun_straight h (own h (omega arith) (omega (arith, gb.blocks, gt.blocks)) noted)) [
            | inl m ↦ (let small : h < s.env.next_block = below h m in absurd (omega (arith, small)))
            | inr o ↦ absurd (omega (arith, o.0))
          ]

          below_begun : StraightBelow begun
          below_begun id m = (let small : id < s.env.next_block = below id m in omega (arith, small))

          below_tst : StraightBelow tst
          below_tst id m = elim (straight_ended shut end (new_block h block.Loop) (never_straight leads) id m) [
            | inl m1 ↦ elim (straight_ended (without_scope s2) (goto h gotos.Continue part) s.current (λ id1 never. never) id m1) [
              | inl m2 ↦ elim (sb id m2) [ inl old1 ↦ (let small : id < s.env.next_block = below id old1 in omega (arith, small, gb.blocks)) | inr o ↦ o.1 ]
              | inr o ↦ o.1
            ]
            | inr o ↦ o.1
          ]

          in_test : PointsSettle c tst
          in_test here =
              settle_completed shut end (new_block h block.Loop) c (goes (first_settles first))
              (settle_aside s (without_scope s2) (new_block l block.Block) (goto h gotos.Continue part) c refl hole end_settles old)
              (empty_settles c h)
            where
              goes : Settles c into 0 → Settles c s.current.id.0 (length s.current.instructions)
              goes start =
                  settles_goes c s.current.id.0 (length s.current.instructions) end (block_id into) (loop_notes h)
                  (terminal_met shut end (new_block h block.Loop) c met.test) leads start

              hole : PointsSettle c begun → PointsSettle c s2
              hole start =
                  tb c met.body (notes_back c s begun s2 last own (omega arith) gt.blocks body_straight) below_begun
                  (scope_jumps_settle c s.scopes (while_scope s label) jumps behind (λ b is. (let same : block_id h ≡ b = cc in subst (λ (x : BlockId). Settles c x.0 0) same here))) start

              end_settles : Settles c s2.current.id.0 (length s2.current.instructions)
              end_settles = settle_goto (without_scope s2) h gotos.Continue part s.current c met.shut here

              at_start : length s2.current.instructions ≤ 0 → length s2.current.instructions ≡ 0
              at_start none = omega (arith, none)

              none_before : (place : ℕ) → place < 0 → ⊥
              none_before place small = omega (arith, small)

              -- In the body, where the loop is entered there.
              points : into ≡ l → (id place : ℕ) → HasPoint s2 id place → Settles c id place
              points e = hole begun_points end_settles
                where
                  begun_points : PointsSettle c begun
                  begun_points start id place there = elim there [
                    | inl d ↦ old (goes (subst (λ (n : ℕ). Settles c n 0) (sym e) start)) id place (inl (record { index = d.index; block = d.block; found = d.found; named = d.named; within = d.within }))
                    | inr w ↦ absurd (none_before place w.within)
                  ]

              body_settles : into ≡ l → Settles c l 0
              body_settles e = elim gb.current [
                | inl same ↦ elim (below_or 0 (length s2.current.instructions)) [
                  | inr none ↦ subst (λ (n : ℕ). Settles c n 0) same (subst (λ (n : ℕ). Settles c s2.current.id.0 n) (at_start none) end_settles)
                  | inl some ↦ points e l 0 (inr (record { named = same; within = some }))
                ]
                | inr k ↦ points e l 0 (inl (record { index = k.place; block = k.block; found = k.found; named = k.named; within = omega arith }))
              ]

              first_settles : (into ≡ h) ⊎ (into ≡ l) → Settles c into 0
              first_settles (inl e) = subst (λ (n : ℕ). Settles c n 0) (sym e) here
              first_settles (inr e) = subst (λ (n : ℕ). Settles c n 0) (sym e) (body_settles e)

    -- Loops.
    pub loop_looped : Looping (while_begun s label) s2 → Looping (loop_body s2 s.env.next_block end s.current part) s4
        → ((c : Code) → IsContainedIn last c → (entry : ℕ) → IsLedTo c entry s.current.id.0 → Each (IsLedTo c entry) (loop_blocks end.kind))
        → Looping s last
    loop_looped lb lt blocks c cover entry old =
        looped_ended (IsLedTo c entry) s4 (branch test l f h span) (new_block f block.Block) (λ r. tt)
        (lt c met.behind entry
        (looped_ended (IsLedTo c entry) shut end (new_block h block.Loop) (blocks c cover entry)
        (looped_ended (IsLedTo c entry) (without_scope s2) (goto h gotos.Continue part) s.current (λ r. tt)
        (lb c met.body entry old))))
      where
        met : IsLoopIn c s s2 s4 part end
        met = loop_in s s2 s4 test span part end calm gt c cover
