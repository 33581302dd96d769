-- The blocks of a loop over keys or values, from those of its body, of its right side and of its assignment. Its body has the block `l`.
-- Its terminal `end` notes at blocks below that one that the branch goes straight on.
use Rattle.std.proofs.Common.{◌≡◌, ℕ, ◌+◌, ◌-◌, ◌<◌, ◌≤◌, ◌⊎◌, inl, inr, ◌++◌, true, List, [], ◌∷◌, length, take, None, refl, sym, ap, ◌∙◌}
use Rattle.std.proofs.Common.{subst, arith}
use Rattle.std.specs.List.{list_any}
use Rattle.rl_builder.specs.Builder.{ended_by, new_block}
use Rattle.rl_builder.specs.declared.jumps.JumpScope.{JumpScope}
use Rattle.rl_frames.proofs.Common.{BlockId, Code, Extends, IsContainedIn, IsLedTo, Label, Place, Span, State}
use Rattle.rl_frames.proofs.RoundStates.{IsRoundsIn, last_extends, led_behind, led_body, numbered, right_extends, rounds_begun}
use Rattle.rl_frames.proofs.RoundStates.{rounds_branch}
use Rattle.rl_frames.proofs.RoundStates.{rounds_in, rounds_init, rounds_scope, scope_left}
use Rattle.rl_frames.specs.Parts.{rounds_body, rounds_finished}
use Rattle.rl_hir.specs.Blocks.{same_id}
use Rattle.rl_hir.specs.declared.function.BlockKind.TheVariants as block
use Rattle.rl_hir.specs.declared.terminal.GotoVariant.TheVariants as gotos
use Rattle.rl_hir.specs.declared.terminal.Terminal.{Terminal}
use Rattle.rl_hir.specs.Terminals.{successor_ids}
use Rattle.rl_machine.proofs.Silence.{settles_goes, settles_reads}
use Rattle.rl_machine.specs.Conditions.{loop_blocks}
use Rattle.rl_machine.specs.Ends.{Goes, Note, catcher_of, leaving}
use Rattle.rl_machine.specs.Prunes.{Each}
use Rattle.rl_machine.specs.Silence.{IsNotedStraight, LeavesStraight, Settles}
use Rattle.rl_runs.proofs.BlockIds.{IsFree, free_aside, free_ended, free_fresh, free_then, ids_aside, ids_counted, ids_ended, ids_then}
use Rattle.rl_runs.proofs.Moves.{extends_then, terminal_met}
use Rattle.rl_runs.proofs.Naming.{named_ended, named_goto, named_then, named_three, scope_targets}
use Rattle.rl_runs.proofs.Points.{empty_settles, scope_jumps_settle, settle_aside, settle_completed, settle_goto, straight_cases}
use Rattle.rl_runs.proofs.Used.{below_or, ended_there, ends_more, looped_ended, notes_back, straight_below, straight_ended, straight_then}
use Rattle.rl_runs.specs.Blocks.{AreEnds, IsNameSince, IsStraight, IsTarget, JumpsSettle, Leads, Looping, NamesBlock, NamesSince}
use Rattle.rl_runs.specs.Blocks.{NotesOwn, Passes, PointsSettle, PreservesBlocks, PreservesIds, Settling, StraightBelow, StraightSince}
use Rattle.rl_runs.specs.Blocks.{UniqueIds, is_end}
use Rattle.rl_runs.specs.Facts.{IsCompleted, IsCurrentOrCompleted}
use Rattle.rl_runs.specs.Moves.{block_id, goto, without_scope}

-- From the state `y` in the init to the end of the assignment at `s5`, where the loop began at `s`.
pub record IsHead (s y s5 : State) : Type 0 where
  pub extends : Extends y s5
  pub ids : PreservesIds s s5
  pub free : UniqueIds s.completed s.current.id.0 s.env.next_block
      → IsFree s5.completed s5.current.id.0 s5.env.next_block s.env.next_block
  pub used : (id : ℕ) → s.env.next_block + 1 ≤ id → id < s5.env.next_block → IsCurrentOrCompleted s5 id
  pub named : NamesSince s s5
  pub ended : AreEnds y.completed → AreEnds s5.completed
  pub straight : StraightSince y s5
  pub settle : Settling y s5
  pub looped : Looping y s5
  pub passes : Passes y s5
  -- The init settles by itself, since a step of the loop asks.
  pub asks : (c : Code) → IsContainedIn s5 c → Settles c (s.env.next_block + 1) 0

-- From `s` to the state `y` in the init.
pub record IsOpened (s y : State) (l : ℕ) : Type 0 where
  pub extends : Extends s y
  pub ids : PreservesIds s y
  pub free : (id : ℕ) → s.env.next_block ≤ id → id < l → (id ≡ s.env.next_block + 1 → ⊥)
      → UniqueIds s.completed s.current.id.0 s.env.next_block → IsFree y.completed y.current.id.0 y.env.next_block id
  pub used : (id : ℕ) → l ≤ id → id < y.env.next_block → IsCompleted y.completed id
  pub named : NamesSince s y
  pub room : l < y.env.next_block

module _ (s s2 s3 s5 : State) (l : ℕ) (label : Label) (end : Terminal) (test : Place) (span part : Span)
    (calm : catcher_of end.kind ≡ None) (low : s.env.next_block + 1 + 1 ≤ l) (bb : PreservesBlocks (rounds_begun s l label) s2)
    (br : PreservesBlocks (rounds_body s2 s.env.next_block s.current part) s3) where
  abbrev h : ℕ
  h = s.env.next_block

  abbrev i : ℕ
  i = s.env.next_block + 1

  abbrev begun : State
  begun = rounds_begun s l label

  abbrev shut : State
  shut = rounds_body s2 h s.current part

  abbrev y : State
  y = rounds_init s s3 end

  abbrev whole : State
  whole = rounds_finished s5 h l span test

  -- Ids.

  pub shut_ids : PreservesIds s (rounds_body s2 s.env.next_block s.current part)
  shut_ids =
      ids_aside (numbered s l) (without_scope s2) l (goto i gotos.Continue part)
      (ids_counted s.completed s.current.id.0 h (l + 1) (omega (arith, low))) (inr (omega (arith, low)))
      (λ q. free_fresh s.completed s.current.id.0 h (l + 1) l q (omega (arith, low)) (omega arith)) bb.ids

  free_right : (id : ℕ) → h ≤ id → id < l → UniqueIds s.completed s.current.id.0 h
      → IsFree s3.completed s3.current.id.0 s3.env.next_block id
  free_right id above below q =
      free_then id br.ids
      (free_aside (numbered s l) (without_scope s2) l id (goto i gotos.Continue part)
      (free_fresh s.completed s.current.id.0 h (l + 1) id q above (omega (arith, below))) (λ e. omega (arith, e, below)) bb.ids)

  pub opened_ids : PreservesIds s (rounds_init s s3 end)
  opened_ids =
      ids_ended s3 end (new_block i block.Loop) (ids_then shut_ids br.ids) (inr (omega arith))
      (free_right i (omega arith) (omega (arith, low)))

  -- Blocks are used.

  in_body : (id : ℕ) → l ≤ id → id < s2.env.next_block → IsCurrentOrCompleted s2 id
  in_body id over under = elim (below_or id (l + 1)) [
    | inl one ↦ (let same : l ≡ id = omega (arith, over, one) in subst (λ (m : ℕ). IsCurrentOrCompleted s2 m) same bb.extends.current)
    | inr more ↦ bb.used id more under
  ]

  of_body : (id : ℕ) → IsCurrentOrCompleted s2 id → IsCompleted s3.completed id
  of_body id there = br.extends.completed id (ended_there (without_scope s2) (goto i gotos.Continue part) s.current id there)

  right_used : (id : ℕ) → l ≤ id → id < s3.env.next_block → IsCurrentOrCompleted s3 id
  right_used id above below = elim (below_or id s2.env.next_block) [
    | inl under ↦ inr (of_body id (in_body id above under))
    | inr over ↦ br.used id over below
  ]

  -- Names: the body may jump to the init and behind the loop.

  around_body : (id : ℕ) → IsTarget s.handlers (s.scopes ++ rounds_scope s label ∷ []) id → IsNameSince s s2.env.next_block id
  around_body id to = elim (scope_targets s.handlers s.scopes (rounds_scope s label) id to) [
    | inl around ↦ inr around
    | inr own ↦ elim own [
      | inl e ↦ inl (omega (arith, e), omega (arith, e, low, bb.extends.blocks))
      | inr again ↦ (let same : block_id i ≡ again.0 = cc again.1 in let e : i ≡ id = ap (λ (b : BlockId). b.0) same ∙ again.2 in inl (omega (arith, e), omega (arith, e, low, bb.extends.blocks)))
    ]
  ]

  to_body : NamesSince s s2
  to_body = named_then s begun s2 (omega (arith, low)) bb.extends.blocks around_body (λ b one. inl one) bb.named

  to_shut : NamesSince s shut
  to_shut =
      named_ended s (without_scope s2) (goto i gotos.Continue part) s.current to_body
      (named_goto s i s2.env.next_block gotos.Continue part (omega arith) (omega (arith, low, bb.extends.blocks)))

  to_right : NamesSince s s3
  to_right =
      named_then s shut s3 (omega (arith, low, bb.extends.blocks)) br.extends.blocks
      (λ id to. inr (subst (λ (x : List JumpScope). IsTarget s.handlers x id)
      (scope_left s s2 s3 s5 l label end test span part calm bb.extends)
      (subst (λ (x : List BlockId). IsTarget x (take (length s2.scopes - 1) s2.scopes) id) bb.extends.handlers to))) to_shut br.named

  pub rounds_opened : ((id : ℕ) → NamesBlock end id → IsNameSince s s3.env.next_block id) → IsOpened s (rounds_init s s3 end) l
  rounds_opened own_blocks = record {
    extends = right_extends s s2 s3 s5 l label end test span part calm (omega (arith, low)) bb.extends br.extends;
    ids = opened_ids;
    free = λ id above below other q. free_ended s3 end i id (free_right id above below q) other;
    used = λ id above below. ended_there s3 end (new_block i block.Loop) id (right_used id above below);
    named = named_ended s s3 end (new_block i block.Loop) to_right own_blocks;
    room = omega (arith, bb.extends.blocks, br.extends.blocks);
  }

  module _ (hd : IsHead s (rounds_init s s3 end) s5) (marks : List (BlockId × Note))
      (leads : leaving end.kind ≡ Goes (block_id (s.env.next_block + 1)) marks)
      (marked : (id : ℕ) → LeavesStraight (leaving end.kind) id → (s.env.next_block ≤ id) × (id < l)) where
    met : (c : Code) → IsContainedIn whole c → IsRoundsIn s s2 s3 s5 l label end test span part calm c
    met c cover = rounds_in s s2 s3 s5 l label end test span part calm br.extends hd.extends c cover

    whole_ids : PreservesIds s whole
    whole_ids = ids_ended s5 (rounds_branch h l test span) (new_block h block.Block) hd.ids (inr (omega arith)) hd.free

    room : l < s5.env.next_block
    room = omega (arith, bb.extends.blocks, br.extends.blocks, hd.extends.blocks)

    whole_named : NamesSince s whole
    whole_named =
        named_ended s s5 (rounds_branch h l test span) (new_block h block.Block) hd.named
        (named_three s (block_id l) (block_id h) (block_id h) s5.env.next_block (omega (arith, low)) room
        (omega arith) (omega (arith, low, room)) (omega arith) (omega (arith, low, room)))

    -- Straight notes.

    end_straight : (id : ℕ) → IsStraight y.completed id → IsStraight s3.completed id ⊎ ((h ≤ id) × (id < l))
    end_straight id m = elim (straight_cases s3.completed (ended_by s3.current end) id m) [ inl old ↦ inl old | inr new ↦ inr (marked id new) ]

    shut_straight : (id : ℕ) → IsStraight shut.completed id → IsStraight s2.completed id
    shut_straight id m = elim (straight_cases s2.completed (ended_by s2.current (goto i gotos.Continue part)) id m) [ inl old ↦ old | inr never ↦ absurd never ]

    to_shut_straight : StraightSince s shut
    to_shut_straight id m = elim (bb.straight id (shut_straight id m)) [ inl old ↦ inl old | inr o ↦ inr (omega (arith, o.0, low), o.1) ]

    right_straight : StraightSince s s3
    right_straight = straight_then s shut s3 (omega (arith, low, bb.extends.blocks)) br.extends.blocks to_shut_straight br.straight

    opened_straight : StraightSince s y
    opened_straight id m = elim (end_straight id m) [
      | inl m3 ↦ right_straight id m3
      | inr o ↦ inr (o.0, omega (arith, o.1, bb.extends.blocks, br.extends.blocks))
    ]

    last_straight : StraightSince s5 whole
    last_straight = straight_ended s5 (rounds_branch h l test span) (new_block h block.Block) (λ id never. never)

    head_straight : StraightSince y whole
    head_straight = straight_then y s5 whole hd.extends.blocks (omega arith) hd.straight last_straight

    whole_straight : StraightSince s whole
    whole_straight =
        straight_then s y whole (omega (arith, low, bb.extends.blocks, br.extends.blocks)) hd.extends.blocks opened_straight head_straight

    -- A note of the loop at a block from the body's on was left before its terminal.
    before_end : (c : Code) → NotesOwn c s whole → (id : ℕ) → l ≤ id → id < s3.env.next_block → IsNotedStraight c id
        → IsStraight s3.completed id
    before_end c own id over under noted = elim (head_straight id (own id (omega (arith, over, low)) (omega (arith, under, hd.extends.blocks)) noted)) [
      | inl m ↦ elim (end_straight id m) [ inl old ↦ old | inr o ↦ absurd (omega (arith, o.1, over)) ]
      | inr o ↦ absurd (omega (arith, o.0, under))
    ]

    notes_right : (c : Code) → NotesOwn c s whole → NotesOwn c shut s3
    notes_right c own id over under noted = before_end c own id (omega (arith, over, bb.extends.blocks)) under noted

    notes_body : (c : Code) → NotesOwn c s whole → NotesOwn c begun s2
    notes_body c own id over under noted =
        elim (br.straight id (before_end c own id (omega (arith, over)) (omega (arith, under, br.extends.blocks)) noted)) [
          | inl m ↦ shut_straight id m
          | inr o ↦ absurd (omega (arith, o.0, under))
        ]

    -- Program points.
    whole_settles : Settling s whole
    whole_settles c cover own below jumps old behind =
        settle_completed s5 (rounds_branch h l test span) (new_block h block.Block) c
        (settles_reads c s5.current.id.0 (length s5.current.instructions) (rounds_branch h l test span) test.identifier.0 (block_id l)
        (block_id h) (block_id h) (terminal_met s5 (rounds_branch h l test span) (new_block h block.Block) c cover) refl
        (λ noted. body_first))
        (hd.settle c at.behind
        (notes_back c s y s5 whole own (omega (arith, low, bb.extends.blocks, br.extends.blocks)) (omega arith) last_straight)
        (straight_below s y (omega (arith, low, bb.extends.blocks, br.extends.blocks)) opened_straight below)
        (subst (λ (x : List JumpScope). JumpsSettle c x) (sym opened_scopes) jumps)
        (λ here. settle_completed s3 end (new_block i block.Loop) c right_end right_points (empty_settles c i)))
        (empty_settles c h)
      where
        at : IsRoundsIn s s2 s3 s5 l label end test span part calm c
        at = met c cover

        opened_scopes : y.scopes ≡ s.scopes
        opened_scopes = br.extends.scopes ∙ scope_left s s2 s3 s5 l label end test span part calm bb.extends

        first : Settles c i 0
        first = hd.asks c at.behind

        right_end : Settles c s3.current.id.0 (length s3.current.instructions)
        right_end =
            settles_goes c s3.current.id.0 (length s3.current.instructions) end (block_id i) marks
            (terminal_met s3 end (new_block i block.Loop) c at.init_open) leads first

        body_end : Settles c s2.current.id.0 (length s2.current.instructions)
        body_end = settle_goto (without_scope s2) i gotos.Continue part s.current c at.body_shut first

        below_begun : StraightBelow begun
        below_begun id m = (let small : id < h = below id m in omega (arith, small, low))

        hole : PointsSettle c begun → PointsSettle c s2
        hole =
            bb.settle c at.body (notes_body c own) below_begun
            (scope_jumps_settle c s.scopes (rounds_scope s label) jumps behind
            (λ b is. (let same : block_id i ≡ b = cc in subst (λ (z : BlockId). Settles c z.0 0) same first)))

        right_points : PointsSettle c s3
        right_points =
            br.settle c at.right (notes_right c own)
            (straight_below s shut (omega (arith, low, bb.extends.blocks)) to_shut_straight below)
            (subst (λ (x : List JumpScope). JumpsSettle c x) (sym (scope_left s s2 s3 s5 l label end test span part calm bb.extends)) jumps)
            (settle_aside (numbered s l) (without_scope s2) (new_block l block.Block) (goto i gotos.Continue part) c refl hole body_end old)

        body_first : Settles c l 0
        body_first =
            let k : IsCompleted s3.completed l = of_body l bb.extends.current in
            right_points right_end l 0
            (inl (record { index = k.place; block = k.block; found = k.found; named = k.named; within = omega arith }))

    -- The blocks that are reached where the loop is.
    module _ (enters : list_any (same_id (block_id (s.env.next_block + 1))) (successor_ids end) ≡ true) where
      whole_looped : ((c : Code) → IsContainedIn s5 c → (entry : ℕ) → IsLedTo c entry (s.env.next_block + 1) → IsLedTo c entry l
          → IsLedTo c entry s.env.next_block
          → Each (IsLedTo c entry) (loop_blocks end.kind)) → Looping s whole
      whole_looped blocks c cover entry old =
          looped_ended (IsLedTo c entry) s5 (rounds_branch h l test span) (new_block h block.Block) (λ led. tt)
          (hd.looped c at.behind entry
          (looped_ended (IsLedTo c entry) s3 end (new_block i block.Loop) own_blocks
          (br.looped c at.right entry
          (looped_ended (IsLedTo c entry) (without_scope s2) (goto i gotos.Continue part) s.current (λ led. tt)
          (bb.looped c at.body entry old)))))
        where
          at : IsRoundsIn s s2 s3 s5 l label end test span part calm c
          at = met c cover

          own_blocks : IsLedTo c entry s3.current.id.0 → Each (IsLedTo c entry) (loop_blocks end.kind)
          own_blocks led =
              let at_init : IsLedTo c entry i =
              Leads s3.current.id.0 (length s3.current.instructions) end (block_id i) led
              (terminal_met s3 end (new_block i block.Loop) c at.init_open) enters in
              let passed : IsLedTo c entry s5.current.id.0 = hd.passes c at.behind entry at_init in
              blocks c at.behind entry at_init (led_body s s2 s3 s5 l label end test span part calm c cover entry passed)
              (led_behind s s2 s3 s5 l label end test span part calm c cover entry passed)

      pub rounds_preserves : is_end end.kind ≡ true
          → ((c : Code) → IsContainedIn s5 c → (entry : ℕ) → IsLedTo c entry (s.env.next_block + 1) → IsLedTo c entry l
          → IsLedTo c entry s.env.next_block
          → Each (IsLedTo c entry) (loop_blocks end.kind))
          → PreservesBlocks s (rounds_finished s5 s.env.next_block l span test)
      rounds_preserves ends blocks = record {
        extends =
            extends_then (right_extends s s2 s3 s5 l label end test span part calm (omega (arith, low)) bb.extends br.extends)
            (extends_then hd.extends (last_extends s s2 s3 s5 l label end test span part calm));
        ids = whole_ids;
        used = λ id above below. elim (below_or id i) [
          | inl one ↦ (let same : h ≡ id = omega (arith, above, one) in inl same)
          | inr more ↦ inr (ended_there s5 (rounds_branch h l test span) (new_block h block.Block) id (hd.used id more below))
        ];
        named = whole_named;
        ended = λ all. ends_more s5.completed (ended_by s5.current (rounds_branch h l test span)) refl
            (hd.ended (ends_more s3.completed (ended_by s3.current end) ends
            (br.ended (ends_more s2.completed (ended_by s2.current (goto i gotos.Continue part)) refl (bb.ended all)))));
        straight = whole_straight;
        settle = whole_settles;
        looped = whole_looped blocks;
      }
