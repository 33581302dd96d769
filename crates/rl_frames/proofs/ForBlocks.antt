-- The blocks of a `for` loop, from those of the holes in front of its body, of its body and of its test.
use Rattle.std.proofs.Common.{◌≡◌, ℕ, ◌+◌, ◌-◌, ◌<◌, ◌≤◌, inl, inr, ◌++◌, true, List, [], ◌∷◌, length, take, Option, Some, None, refl}
use Rattle.std.proofs.Common.{sym, ap, ◌∙◌, subst, arith}
use Rattle.rl_builder.specs.Builder.{ended_by, new_block, reserved}
use Rattle.rl_builder.specs.declared.jumps.JumpScope.{JumpScope}
use Rattle.rl_frames.proofs.Common.{BlockId, Code, IsContainedIn, IsLedTo, Label, Place, Span, State}
use Rattle.rl_frames.proofs.ForFronts.{FrontSettles, IsFront, init_comes, init_front, update_front}
use Rattle.rl_frames.proofs.ForStates.{IsForIn, for_body_extends, for_branch, for_extends, for_front, for_in, for_into}
use Rattle.rl_frames.proofs.ForStates.{for_led_behind, for_led_body, for_notes, for_numbered, for_scopes_left, for_shut_at, for_tests}
use Rattle.rl_frames.proofs.ForStates.{update_extends}
use Rattle.rl_frames.specs.Parts.{for_begun, for_body, for_end, for_finished, for_scope, for_update}
use Rattle.rl_hir.specs.declared.function.BlockKind.TheVariants as block
use Rattle.rl_hir.specs.declared.terminal.GotoVariant.TheVariants as gotos
use Rattle.rl_machine.proofs.Silence.{settles_goes, settles_reads}
use Rattle.rl_machine.specs.Ends.{Straight, Truthy, leaving}
use Rattle.rl_machine.specs.Prunes.{Each}
use Rattle.rl_machine.specs.Silence.{IsNotedStraight, LeavesStraight, Settles}
use Rattle.rl_runs.proofs.BlockIds.{IsFree, free_aside, free_ended, free_fresh, free_then, ids_aside, ids_counted, ids_ended, ids_then}
use Rattle.rl_runs.proofs.Moves.{contained_before, terminal_met}
use Rattle.rl_runs.proofs.Naming.{named_ended, named_first, named_goto, named_more, named_then, named_three, scope_targets}
use Rattle.rl_runs.proofs.Points.{empty_settles, scope_jumps_settle, settle_aside, settle_completed, settle_goto}
use Rattle.rl_runs.proofs.Used.{below_or, ended_there, ends_more, looped_ended, notes_back, straight_below, straight_ended, straight_then}
use Rattle.rl_runs.specs.Blocks.{AreUsed, IsNameSince, IsTarget, JumpsSettle, Looping, NamesBlock, NamesSince, Passes}
use Rattle.rl_runs.specs.Blocks.{PointsSettle, PreservesBlocks, PreservesIds, Settling, StraightBelow, StraightSince, UniqueIds}
use Rattle.rl_runs.specs.Facts.{IsCompleted, IsCurrentOrCompleted}
use Rattle.rl_runs.specs.Moves.{block_id, goto, without_scope}

module _ (s y s4 s5 : State) (label : Label) (again : BlockId) (update : Option BlockId) (test : Place) (span part last : Span) where
  abbrev h : ℕ
  h = s.env.next_block

  abbrev f : ℕ
  f = s.env.next_block + 1

  abbrev i : ℕ
  i = s.env.next_block + 1 + 1

  abbrev b : ℕ
  b = y.env.next_block

  abbrev s1 : State
  s1 = for_numbered s

  abbrev x : State
  x = for_front s y part

  abbrev opened : State
  opened = for_body y h label again part

  abbrev shut : State
  shut = for_shut_at s s4 again last

  abbrev tst : State
  tst = for_tests s y s4 again update span last

  abbrev whole : State
  whole = for_finished s5 h b span test

  module _ (fx : IsFront s (for_front s y part) again.0) (bb : PreservesBlocks (for_body y s.env.next_block label again part) s4)
      (bt : PreservesBlocks (for_tests s y s4 again update span last) s5) where
    met : (c : Code) → IsContainedIn whole c → IsForIn s y s4 s5 label again update test span part last c
    met c cover = for_in s y s4 s5 label again update test span part last bb.extends bt.extends c cover

    numbered_below : h + 1 + 1 + 1 ≤ b
    numbered_below = fx.extends.blocks

    -- Ids.

    shut_ids : PreservesIds s shut
    shut_ids =
        ids_aside (reserved x) (without_scope s4) b (goto again.0 gotos.Continue last)
        (ids_then fx.ids (ids_counted x.completed x.current.id.0 b (b + 1) (omega arith))) (inr (omega (arith, numbered_below)))
        (λ q. free_fresh x.completed x.current.id.0 b (b + 1) b (fx.ids.distinct q) (omega arith) (omega arith)) bb.ids

    kept : (id : ℕ) → h ≤ id → id < i → UniqueIds s.completed s.current.id.0 h
        → IsFree shut.completed shut.current.id.0 shut.env.next_block id
    kept id above below q =
        let old : IsFree x.completed x.current.id.0 x.env.next_block id = fx.free id above below q in
        free_aside (reserved x) (without_scope s4) b id (goto again.0 gotos.Continue last)
        (record { below = omega (arith, old.below); unused = old.unused; other = old.other })
        (λ e. omega (arith, e, below, numbered_below)) bb.ids

    tst_ids : PreservesIds s tst
    tst_ids =
        ids_ended shut (for_end h update b span) (new_block h block.Loop) shut_ids (inr (omega arith)) (kept h (omega arith) (omega arith))

    all_ids : PreservesIds s whole
    all_ids =
        ids_ended s5 (for_branch h b test span) (new_block f block.Block) (ids_then tst_ids bt.ids) (inr (omega arith))
        (λ q. free_then f bt.ids
        (free_ended shut (for_end h update b span) h f (kept f (omega arith) (omega arith) q) (λ e. omega (arith, e))))

    -- Each block is used.
    all_used : AreUsed s whole
    all_used id above below = elim (below_or id s4.env.next_block) [
      | inl under ↦ elim (below_or id (h + 1)) [
        | inl one ↦ (let same : h ≡ id = omega (arith, above, one) in inr (ended_there s5 (for_branch h b test span) (new_block f block.Block) id (subst (λ (m : ℕ). IsCurrentOrCompleted s5 m) same bt.extends.current)))
        | inr more ↦ elim (below_or id (h + 1 + 1)) [
          | inl two ↦ (let same : f ≡ id = omega (arith, more, two) in inl same)
          | inr rest ↦ inr (of_shut (elim (below_or id b) [
            | inl front ↦ (for_body_extends s y s4 s5 label again update test span part last bb.extends).completed id (fx.used id rest front)
            | inr over ↦ ended_there (without_scope s4) (goto again.0 gotos.Continue last) s.current id (in_body over under)
          ]))
        ]
      ]
      | inr over ↦ inr (ended_there s5 (for_branch h b test span) (new_block f block.Block) id (bt.used id over below))
    ]
      where
        of_shut : IsCompleted shut.completed id → IsCompleted whole.completed id
        of_shut there =
            ended_there s5 (for_branch h b test span) (new_block f block.Block) id
            (inr (bt.extends.completed id (ended_there shut (for_end h update b span) (new_block h block.Loop) id (inr there))))

        in_body : b ≤ id → id < s4.env.next_block → IsCurrentOrCompleted s4 id
        in_body over under = elim (below_or id (b + 1)) [
          | inl one ↦ (let same : b ≡ id = omega (arith, over, one) in subst (λ (m : ℕ). IsCurrentOrCompleted s4 m) same bb.extends.current)
          | inr more ↦ bb.used id more under
        ]

    -- Names: the body may jump to `again` and behind the loop.

    around : (next id : ℕ) → IsTarget s.handlers y.scopes id → IsNameSince s next id
    around next id to = inr (subst (λ (l : List JumpScope). IsTarget s.handlers l id) fx.extends.scopes to)

    in_body : (id : ℕ) → IsTarget s.handlers (y.scopes ++ for_scope h label again ∷ []) id → IsNameSince s s4.env.next_block id
    in_body id to = elim (scope_targets s.handlers y.scopes (for_scope h label again) id to) [
      | inl outer ↦ around s4.env.next_block id outer
      | inr own ↦ elim own [
        | inl e ↦ inl (omega (arith, e), omega (arith, e, numbered_below, bb.extends.blocks))
        | inr c ↦ (let same : again ≡ c.0 = cc c.1 in let e : again.0 ≡ id = ap (λ (q : BlockId). q.0) same ∙ c.2 in inl (omega (arith, e, fx.low), omega (arith, e, fx.high, bb.extends.blocks)))
      ]
    ]

    to_opened : NamesSince s opened
    to_opened block one = elim (fx.named block one) [
      | inl old ↦ inl old
      | inr own ↦ inr (λ id is. named_more s x.env.next_block opened.env.next_block (omega arith) id (own id is))
    ]

    to_body : NamesSince s s4
    to_body =
        named_then s opened s4 (omega (arith, numbered_below)) bb.extends.blocks
        (λ id to. in_body id (subst (λ (l : List BlockId). IsTarget l (y.scopes ++ for_scope h label again ∷ []) id) fx.extends.handlers
        to))
        to_opened bb.named

    to_shut : NamesSince s shut
    to_shut =
        named_ended s (without_scope s4) (goto again.0 gotos.Continue last) s.current to_body
        (named_goto s again.0 s4.env.next_block gotos.Continue last fx.low (omega (arith, fx.high, bb.extends.blocks)))

    same_handlers : s4.handlers ≡ s.handlers
    same_handlers = bb.extends.handlers ∙ fx.extends.handlers

    all_named : ((id : ℕ) → NamesBlock (for_end s.env.next_block update y.env.next_block span) id → IsNameSince s s4.env.next_block id)
        → NamesSince s whole
    all_named own_blocks =
        named_ended s s5 (for_branch h b test span) (new_block f block.Block) to_test
        (named_three s (block_id b) (block_id f) (block_id f) s5.env.next_block (omega (arith, numbered_below))
        (omega (arith, bb.extends.blocks, bt.extends.blocks)) (omega arith)
        (omega (arith, numbered_below, bb.extends.blocks, bt.extends.blocks)) (omega arith)
        (omega (arith, numbered_below, bb.extends.blocks, bt.extends.blocks)))
      where
        to_tst : NamesSince s tst
        to_tst = named_ended s shut (for_end h update b span) (new_block h block.Loop) to_shut own_blocks

        to_test : NamesSince s s5
        to_test = named_then s tst s5 (omega (arith, numbered_below, bb.extends.blocks)) bt.extends.blocks
            (λ id to. inr (subst (λ (l : List JumpScope). IsTarget s.handlers l id)
            (for_scopes_left s y s4 s5 label again update test span part last bb.extends fx.extends)
            (subst (λ (l : List BlockId). IsTarget l (take (length s4.scopes - 1) s4.scopes) id) same_handlers to))) to_tst bt.named

    -- Straight notes.

    never_straight : (id : ℕ) → LeavesStraight (leaving (for_end h update b span).kind) id → ⊥
    never_straight id n = elim n [
      | inl one ↦ (let bad : Truthy true ≡ Straight = one.1 in absurd (cc))
      | inr more ↦ elim more [
        | inl two ↦ (let bad : Truthy true ≡ Straight = two.1 in absurd (cc))
        | inr rest ↦ elim rest [ inl three ↦ (let bad : Truthy true ≡ Straight = three.1 in absurd (cc)) | inr never ↦ never ]
      ]
    ]

    last_straight : StraightSince s5 whole
    last_straight = straight_ended s5 (for_branch h b test span) (new_block f block.Block) (λ id never. never)

    tst_straight : StraightSince tst whole
    tst_straight = straight_then tst s5 whole bt.extends.blocks (omega arith) bt.straight last_straight

    body_straight : StraightSince s4 whole
    body_straight =
        straight_then s4 shut whole (omega arith) bt.extends.blocks
        (λ id m. straight_ended (without_scope s4) (goto again.0 gotos.Continue last) s.current (λ id1 never. never) id m)
        (straight_then shut tst whole (omega arith) bt.extends.blocks
        (straight_ended shut (for_end h update b span) (new_block h block.Loop) never_straight) tst_straight)

    front_straight : StraightSince x whole
    front_straight =
        straight_then x opened whole (omega arith) (omega (arith, bb.extends.blocks, bt.extends.blocks)) (λ id m. inl m)
        (straight_then opened s4 whole bb.extends.blocks bt.extends.blocks bb.straight body_straight)

    loop_straight : StraightSince s1 whole
    loop_straight =
        straight_then s1 x whole fx.extends.blocks (omega (arith, bb.extends.blocks, bt.extends.blocks)) fx.straight front_straight

    all_straight : StraightSince s whole
    all_straight =
        straight_then s s1 whole (omega arith) (omega (arith, numbered_below, bb.extends.blocks, bt.extends.blocks)) (λ id m. inl m)
        loop_straight

    -- Program points.
    all_settle : Settling s whole
    all_settle c cover own below jumps old behind =
        settle_completed s5 (for_branch h b test span) (new_block f block.Block) c
        (settles_reads c s5.current.id.0 (length s5.current.instructions) (for_branch h b test span) test.identifier.0 (block_id b)
        (block_id f) (block_id f) (terminal_met s5 (for_branch h b test span) (new_block f block.Block) c cover) refl
        (λ noted. absurd (not_noted noted)))
        (bt.settle c at.behind
        (notes_back c s tst s5 whole own (omega (arith, numbered_below, bb.extends.blocks)) (omega arith) last_straight) below_tst
        (subst (λ (l : List JumpScope). JumpsSettle c l)
        (sym (for_scopes_left s y s4 s5 label again update test span part last bb.extends fx.extends)) jumps) in_test)
        (empty_settles c f)
      where
        at : IsForIn s y s4 s5 label again update test span part last c
        at = met c cover

        -- No straight note is left behind the loop.
        not_noted : IsNotedStraight c f → ⊥
        not_noted noted = elim
            (loop_straight f (own f (omega arith) (omega (arith, numbered_below, bb.extends.blocks, bt.extends.blocks)) noted)) [
              | inl m ↦ (let small : f < h = below f m in absurd (omega (arith, small)))
              | inr o ↦ absurd (omega (arith, o.0))
            ]

        below_numbered : StraightBelow s1
        below_numbered id m = (let small : id < h = below id m in omega (arith, small))

        below_opened : StraightBelow opened
        below_opened =
            straight_below x opened (omega arith) (λ id m. inl m) (straight_below s1 x fx.extends.blocks fx.straight below_numbered)

        below_tst : StraightBelow tst
        below_tst =
            straight_below shut tst (omega arith) (straight_ended shut (for_end h update b span) (new_block h block.Loop) never_straight)
            (straight_below s4 shut (omega arith)
            (λ id m. straight_ended (without_scope s4) (goto again.0 gotos.Continue last) s.current (λ id1 never. never) id m)
            (straight_below opened s4 bb.extends.blocks bb.straight below_opened))

        goes : Settles c i 0 → Settles c s.current.id.0 (length s.current.instructions)
        goes there =
            settles_goes c s.current.id.0 (length s.current.instructions) (for_end h update b span) (block_id i) (for_notes h)
            (terminal_met shut (for_end h update b span) (new_block h block.Loop) c at.test_open) refl there

        in_test : PointsSettle c tst
        in_test here =
            settle_completed shut (for_end h update b span) (new_block h block.Loop) c (goes fs.first)
            (settle_aside (reserved x) (without_scope s4) (new_block b block.Block) (goto again.0 gotos.Continue last) c refl hole end
            fs.points)
            (empty_settles c h)
          where
            fs : FrontSettles c s x again.0
            fs =
                fx.settle c at.front
                (notes_back c s s x whole own (omega arith) (omega (arith, bb.extends.blocks, bt.extends.blocks)) front_straight) below
                jumps
                here goes old

            end : Settles c s4.current.id.0 (length s4.current.instructions)
            end = settle_goto (without_scope s4) again.0 gotos.Continue last s.current c at.body_shut fs.target

            hole : PointsSettle c opened → PointsSettle c s4
            hole =
                bb.settle c at.body
                (notes_back c s opened s4 whole own (omega (arith, numbered_below)) bt.extends.blocks body_straight) below_opened
                (scope_jumps_settle c y.scopes (for_scope h label again)
                (subst (λ (l : List JumpScope). JumpsSettle c l) (sym fx.extends.scopes) jumps) behind
                (λ q is. (let same : again ≡ q = cc in subst (λ (z : BlockId). Settles c z.0 0) same fs.target)))

    -- The blocks that are reached where the loop is.

    all_looped : ((c : Code) → IsContainedIn (for_front s y part) c → (entry : ℕ) → IsLedTo c entry (s.env.next_block + 1 + 1)
        → IsLedTo c entry s.env.next_block)
        → Passes (for_tests s y s4 again update span last) s5 → Looping s whole
    all_looped comes passes c cover entry old =
        looped_ended (IsLedTo c entry) s5 (for_branch h b test span) (new_block f block.Block) (λ led. tt)
        (bt.looped c at.behind entry
        (looped_ended (IsLedTo c entry) shut (for_end h update b span) (new_block h block.Loop) blocks
        (looped_ended (IsLedTo c entry) (without_scope s4) (goto again.0 gotos.Continue last) s.current (λ led. tt)
        (bb.looped c at.body entry (fx.looped c at.front entry old)))))
      where
        at : IsForIn s y s4 s5 label again update test span part last c
        at = met c cover

        blocks : IsLedTo c entry s.current.id.0 → Each (IsLedTo c entry) (block_id h ∷ block_id b ∷ block_id f ∷ [])
        blocks led =
            let at_test : IsLedTo c entry h =
            comes c at.front entry
            (for_into s y s4 s5 label again update test span part last bb.extends bt.extends c cover entry led) in
            let passed : IsLedTo c entry s5.current.id.0 = passes c at.behind entry at_test in
            let in_body : IsLedTo c entry b =
            for_led_body s y s4 s5 label again update test span part last bb.extends bt.extends c cover entry passed in
            let behind : IsLedTo c entry f =
            for_led_behind s y s4 s5 label again update test span part last bb.extends bt.extends c cover entry passed in
            (at_test, (in_body, (behind, tt)))

    pub for_preserves : ((c : Code) → IsContainedIn (for_front s y part) c → (entry : ℕ) → IsLedTo c entry (s.env.next_block + 1 + 1)
        → IsLedTo c entry s.env.next_block)
        → Passes (for_tests s y s4 again update span last) s5
        → ((id : ℕ) → NamesBlock (for_end s.env.next_block update y.env.next_block span) id → IsNameSince s s4.env.next_block id)
        → PreservesBlocks s (for_finished s5 s.env.next_block y.env.next_block span test)
    for_preserves comes passes own_blocks = record {
      extends = for_extends s y s4 s5 label again update test span part last bb.extends fx.extends bt.extends;
      ids = all_ids;
      used = all_used;
      named = all_named own_blocks;
      ended = λ all. ends_more s5.completed (ended_by s5.current (for_branch h b test span)) refl
          (bt.ended (ends_more shut.completed (ended_by s.current (for_end h update b span)) refl
          (ends_more s4.completed (ended_by s4.current (goto again.0 gotos.Continue last)) refl (bb.ended (fx.ended all)))));
      straight = all_straight;
      settle = all_settle;
      looped = all_looped comes passes;
    }

-- Without an update.
pub for_blocks_plain : (s s2 s4 s5 : State) (label : Label) (test : Place) (span part last : Span) → PreservesBlocks (for_begun s) s2
    → PreservesBlocks (for_body s2 s.env.next_block label (block_id s.env.next_block) part) s4
    → PreservesBlocks (for_tests s s2 s4 (block_id s.env.next_block) None span last) s5
    → Passes (for_begun s) s2 → Passes (for_tests s s2 s4 (block_id s.env.next_block) None span last) s5
    → PreservesBlocks s (for_finished s5 s.env.next_block s2.env.next_block span test)
for_blocks_plain s s2 s4 s5 label test span part last bi bb bt pi pt =
    for_preserves s s2 s4 s5 label (block_id s.env.next_block) None test span part last (init_front s s2 part bi) bb bt
    (init_comes s s2 part pi) pt own_blocks
  where
    own_blocks : (id : ℕ) → NamesBlock (for_end s.env.next_block None s2.env.next_block span) id → IsNameSince s s4.env.next_block id
    own_blocks id is = elim (named_first id (block_id (s.env.next_block + 1 + 1))
        (block_id s.env.next_block ∷ block_id s2.env.next_block ∷ block_id (s.env.next_block + 1) ∷ []) is) [
          | inl e ↦ inl (omega (arith, e), omega (arith, e, bi.extends.blocks, bb.extends.blocks))
          | inr more ↦ named_three s (block_id s.env.next_block) (block_id s2.env.next_block) (block_id (s.env.next_block + 1)) s4.env.next_block
              (omega arith) (omega (arith, bi.extends.blocks, bb.extends.blocks)) (omega (arith, bi.extends.blocks))
              (omega (arith, bb.extends.blocks)) (omega arith)
              (omega (arith, bi.extends.blocks, bb.extends.blocks)) id more
        ]

-- With an update.
pub for_blocks : (s s2 s3 s4 s5 : State) (label : Label) (test : Place) (span part other last : Span) → PreservesBlocks (for_begun s) s2
    → PreservesBlocks (for_update s2 s.env.next_block part) s3
    → PreservesBlocks (for_body s3 s.env.next_block label (block_id s2.env.next_block) other) s4
    → PreservesBlocks (for_tests s s3 s4 (block_id s2.env.next_block) (Some (block_id s2.env.next_block)) span last) s5
    → Passes (for_begun s) s2
    → Passes (for_tests s s3 s4 (block_id s2.env.next_block) (Some (block_id s2.env.next_block)) span last) s5
    → PreservesBlocks s (for_finished s5 s.env.next_block s3.env.next_block span test)
for_blocks s s2 s3 s4 s5 label test span part other last bi bu bb bt pi pt =
    for_preserves s s3 s4 s5 label (block_id s2.env.next_block) (Some (block_id s2.env.next_block)) test span other last
    (update_front s s2 s3 part other (init_front s s2 part bi) bu) bb bt
    (λ c cover. init_comes s s2 part pi c (contained_before (update_extends s s2 s3 part other bu.extends) cover)) pt own_blocks
  where
    own_blocks : (id : ℕ) → NamesBlock (for_end s.env.next_block (Some (block_id s2.env.next_block)) s3.env.next_block span) id
        → IsNameSince s s4.env.next_block id
    own_blocks id is = elim (named_first id (block_id (s.env.next_block + 1 + 1))
        (block_id s.env.next_block ∷ block_id s2.env.next_block ∷ block_id s3.env.next_block ∷ block_id (s.env.next_block + 1) ∷ []) is) [
          | inl e ↦ inl (omega (arith, e), omega (arith, e, bi.extends.blocks, bu.extends.blocks, bb.extends.blocks))
          | inr more ↦ elim (named_first id (block_id s.env.next_block)
              (block_id s2.env.next_block ∷ block_id s3.env.next_block ∷ block_id (s.env.next_block + 1) ∷ []) more) [
                | inl e ↦ inl (omega (arith, e), omega (arith, e, bi.extends.blocks, bu.extends.blocks, bb.extends.blocks))
                | inr rest ↦ named_three s (block_id s2.env.next_block) (block_id s3.env.next_block) (block_id (s.env.next_block + 1))
                    s4.env.next_block (omega (arith, bi.extends.blocks)) (omega (arith, bu.extends.blocks, bb.extends.blocks))
                    (omega (arith, bi.extends.blocks, bu.extends.blocks)) (omega (arith, bb.extends.blocks)) (omega arith)
                    (omega (arith, bi.extends.blocks, bu.extends.blocks, bb.extends.blocks)) id rest
              ]
        ]
