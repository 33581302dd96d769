-- The blocks of an expression with two branches that give a value, and a test behind its terminal: logical and conditional expressions.
use Rattle.std.proofs.Common.{◌≡◌, ℕ, ◌+◌, ◌<◌, ◌≤◌, ◌⊎◌, inl, inr, true, List, [], length, Some, None, refl, sym, subst, arith}
use Rattle.rl_builder.specs.Builder.{completed_by, ended_by, entered, new_block, reserved}
use Rattle.rl_builder.specs.declared.jumps.JumpScope.{JumpScope}
use Rattle.rl_frames.proofs.Common.{BlockId, Code, Extends, IsContainedIn, IsLedTo, Place, Span, State}
use Rattle.rl_hir.specs.declared.function.BlockKind.{BlockKind}
use Rattle.rl_hir.specs.declared.function.BlockKind.TheVariants as block
use Rattle.rl_hir.specs.declared.terminal.GotoVariant.TheVariants as gotos
use Rattle.rl_hir.specs.declared.terminal.Terminal.{Terminal}
use Rattle.rl_hir.specs.declared.terminal.TerminalKind.{TerminalKind}
use Rattle.rl_machine.proofs.Silence.{settles_goes, settles_reads}
use Rattle.rl_machine.specs.Conditions.{loop_blocks}
use Rattle.rl_machine.specs.Ends.{Goes, Note, catcher_of, leaving}
use Rattle.rl_machine.specs.Prunes.{Each}
use Rattle.rl_machine.specs.Silence.{IsNotedStraight, LeavesStraight}
use Rattle.rl_runs.proofs.BlockIds.{IsFree, free_aside, free_ended, free_fresh, free_then, ids_aside, ids_counted, ids_ended, ids_fresh}
use Rattle.rl_runs.proofs.BlockIds.{ids_then}
use Rattle.rl_runs.proofs.Holes.{aside, contained_hole}
use Rattle.rl_runs.proofs.Moves.{contained_before, extends_completed, extends_reserved, extends_then, terminal_met}
use Rattle.rl_runs.proofs.Naming.{named_ended, named_goto, named_more, named_then, named_three, same_targets}
use Rattle.rl_runs.proofs.Points.{empty_settles, settle_aside, settle_completed, settle_goto}
use Rattle.rl_runs.proofs.Used.{below_or, ended_there, ends_more, looped_ended, notes_back, still_there, straight_below, straight_ended}
use Rattle.rl_runs.proofs.Used.{straight_fresh, straight_then, used_fresh, used_then}
use Rattle.rl_runs.specs.Blocks.{AreUsed, IsNameSince, JumpsSettle, NamesBlock, NamesSince, PointsSettle, PreservesBlocks}
use Rattle.rl_runs.specs.Blocks.{PreservesIds, PreservesUniqueIds, Settling, StraightBelow, StraightSince, UniqueIds, is_end}
use Rattle.rl_runs.specs.Facts.{IsCompleted, IsCurrentOrCompleted}
use Rattle.rl_runs.specs.Moves.{block_id, branch, ends_by, goto, last_hole, next_hole}

-- A terminal that goes on in the block behind `behind`, and names these two.
pub record LeadsToTest (kind : TerminalKind) (behind : ℕ) : Type 0 where
  pub end : is_end kind ≡ true
  pub uncaught : catcher_of kind ≡ None
  pub loopless : loop_blocks kind ≡ []
  pub marks : List (BlockId × Note)
  pub leads : leaving kind ≡ Goes (block_id (behind + 1)) marks
  pub calm : (id : ℕ) → LeavesStraight (leaving kind) id → ⊥
  pub names : (span : Span) (id : ℕ) → NamesBlock (ends_by kind (Some span)) id → (id ≡ behind + 1) ⊎ (id ≡ behind)

module _ (x sm sr s5 : State) (kind : TerminalKind) (test : Place) (span part other : Span) (last_kind : BlockKind) where
  abbrev n : ℕ
  n = x.env.next_block

  -- With the blocks numbered, and in the first branch.
  abbrev r : State
  r = reserved (reserved (reserved x))

  abbrev begun : State
  begun = entered r (new_block (n + 1 + 1) block.Value)

  abbrev open_ : State
  open_ = next_hole sm n gotos.Break part block.Value

  abbrev shut : State
  shut = last_hole sr n gotos.Break other x.current

  abbrev tested : State
  tested = completed_by shut (ends_by kind (Some span)) (new_block (n + 1) block.Value)

  abbrev end_branch : Terminal
  end_branch = branch test (n + 1 + 1) sm.env.next_block n span

  abbrev pub last : State
  last = completed_by s5 end_branch (new_block n last_kind)

  module _ (to : LeadsToTest kind x.env.next_block)
      (b1 : PreservesBlocks (entered (reserved (reserved (reserved x))) (new_block (x.env.next_block + 1 + 1) block.Value)) sm)
      (b2 : PreservesBlocks (next_hole sm x.env.next_block gotos.Break part block.Value) sr)
      (b3 : PreservesBlocks (completed_by (last_hole sr x.env.next_block gotos.Break other x.current) (ends_by kind (Some span)) (new_block (x.env.next_block + 1) block.Value)) s5) where
    opens : Extends sm open_
    opens =
        extends_then (extends_reserved sm)
        (extends_completed (reserved sm) (goto n gotos.Break part) (new_block sm.env.next_block block.Value) (λ none. refl))

    within : Extends begun sr
    within = extends_then b1.extends (extends_then opens b2.extends)

    reserves : Extends x r
    reserves =
        extends_then (extends_reserved x) (extends_then (extends_reserved (reserved x)) (extends_reserved (reserved (reserved x))))

    shuts : Extends x shut
    shuts =
        extends_then reserves
        (aside r sr (new_block (n + 1 + 1) block.Value) x.scopes sr.scopes x.handlers sr.handlers
        (goto n gotos.Break other) within.scopes within.handlers within)

    tests : Extends shut tested
    tests = extends_completed shut (ends_by kind (Some span)) (new_block (n + 1) block.Value) (λ none. to.uncaught)

    ends : Extends s5 last
    ends = extends_completed s5 end_branch (new_block n last_kind) (λ none. refl)

    all_extends : Extends x last
    all_extends = extends_then shuts (extends_then tests (extends_then b3.extends ends))

    -- Ids.

    inside : PreservesUniqueIds r.completed (n + 1 + 1) r.env.next_block sr.completed sr.current.id.0 sr.env.next_block
    inside = ids_then b1.ids (ids_then (ids_fresh sm (goto n gotos.Break part) block.Value) b2.ids)

    first : (id : ℕ) → n ≤ id → id < n + 1 + 1 + 1 → UniqueIds x.completed x.current.id.0 n
        → IsFree r.completed r.current.id.0 r.env.next_block id
    first id above below c = free_fresh x.completed x.current.id.0 n (n + 1 + 1 + 1) id c above below

    closed_ids : PreservesIds x shut
    closed_ids =
        ids_aside r sr (n + 1 + 1) (goto n gotos.Break other) (ids_counted x.completed x.current.id.0 n (n + 1 + 1 + 1) (omega arith))
        (inr (omega arith)) (first (n + 1 + 1) (omega arith) (omega arith)) inside

    free_shut : (id : ℕ) → n ≤ id → id < n + 1 + 1 → UniqueIds x.completed x.current.id.0 n
        → IsFree shut.completed shut.current.id.0 shut.env.next_block id
    free_shut id above below c =
        free_aside r sr (n + 1 + 1) id (goto n gotos.Break other) (first id above (omega (arith, below)) c)
        (λ e. omega (arith, e, below)) inside

    tested_ids : PreservesIds x tested
    tested_ids =
        ids_ended shut (ends_by kind (Some span)) (new_block (n + 1) block.Value) closed_ids (inr (omega arith))
        (free_shut (n + 1) (omega arith) (omega arith))

    all_ids : PreservesIds x last
    all_ids =
        ids_ended s5 end_branch (new_block n last_kind) (ids_then tested_ids b3.ids) (inr (omega arith))
        (λ c. free_then n b3.ids
        (free_ended shut (ends_by kind (Some span)) (n + 1) n (free_shut n (omega arith) (omega arith) c) (λ e. omega (arith, e))))

    -- Each block is used.

    in_shut : (id : ℕ) → IsCurrentOrCompleted sr id → IsCompleted shut.completed id
    in_shut id h = ended_there sr (goto n gotos.Break other) x.current id h

    in_s5 : (id : ℕ) → IsCurrentOrCompleted sr id → IsCurrentOrCompleted s5 id
    in_s5 id h =
        still_there b3.extends id
        (inr (ended_there shut (ends_by kind (Some span)) (new_block (n + 1) block.Value) id (inr (in_shut id h))))

    of_branches : (id : ℕ) → n + 1 + 1 ≤ id → id < sr.env.next_block → IsCurrentOrCompleted sr id
    of_branches id above under = elim (below_or id (n + 1 + 1 + 1)) [
      | inl two ↦ (let same : n + 1 + 1 ≡ id = omega (arith, above, two) in subst (λ (m : ℕ). IsCurrentOrCompleted sr m) same within.current)
      | inr more ↦ used_then begun b2.extends (used_then begun opens b1.used (used_fresh sm (goto n gotos.Break part) block.Value)) b2.used id more under
    ]

    all_used : AreUsed x last
    all_used id above below = elim (below_or id (n + 1)) [
      | inl one ↦ (let same : n ≡ id = omega (arith, above, one) in inl same)
      | inr rest ↦ inr (ended_there s5 end_branch (new_block n last_kind) id (elim (below_or id (n + 1 + 1)) [
        | inl two ↦ (let same : n + 1 ≡ id = omega (arith, rest, two) in subst (λ (m : ℕ). IsCurrentOrCompleted s5 m) same b3.extends.current)
        | inr more ↦ elim (below_or id sr.env.next_block) [
          | inl under ↦ in_s5 id (of_branches id more under)
          | inr over ↦ b3.used id over below
        ]
      ]))
    ]

    -- Names.

    to_first : NamesSince x sm
    to_first = named_then x begun sm (omega arith) b1.extends.blocks (λ id target. inr target) (λ b one. inl one) b1.named

    to_open : NamesSince x open_
    to_open =
        named_ended x (reserved sm) (goto n gotos.Break part) (new_block sm.env.next_block block.Value)
        (λ b one. elim (to_first b one) [ inl old ↦ inl old | inr own ↦ inr (λ id is. named_more x sm.env.next_block (sm.env.next_block + 1) (omega arith) id (own id is)) ])
        (named_goto x n (sm.env.next_block + 1) gotos.Break part (omega arith) (omega (arith, b1.extends.blocks)))

    to_second : NamesSince x sr
    to_second =
        named_then x open_ sr (omega (arith, b1.extends.blocks)) b2.extends.blocks
        (same_targets x open_ sr.env.next_block b1.extends.handlers b1.extends.scopes) to_open b2.named

    to_shut : NamesSince x shut
    to_shut =
        named_ended x sr (goto n gotos.Break other) x.current to_second
        (named_goto x n sr.env.next_block gotos.Break other (omega arith) (omega (arith, b1.extends.blocks, b2.extends.blocks)))

    to_tested : NamesSince x tested
    to_tested = named_ended x shut (ends_by kind (Some span)) (new_block (n + 1) block.Value) to_shut own
      where
        own : (id : ℕ) → NamesBlock (ends_by kind (Some span)) id → IsNameSince x shut.env.next_block id
        own id is = elim (to.names span id is) [
          | inl e ↦ inl (omega (arith, e), omega (arith, e, b1.extends.blocks, b2.extends.blocks))
          | inr e ↦ inl (omega (arith, e), omega (arith, e, b1.extends.blocks, b2.extends.blocks))
        ]

    to_test : NamesSince x s5
    to_test =
        named_then x tested s5 (omega (arith, b1.extends.blocks, b2.extends.blocks)) b3.extends.blocks
        (same_targets x tested s5.env.next_block within.handlers within.scopes) to_tested b3.named

    all_named : NamesSince x last
    all_named =
        named_ended x s5 end_branch (new_block n last_kind) to_test
        (named_three x (block_id (n + 1 + 1)) (block_id sm.env.next_block) (block_id n) s5.env.next_block (omega arith)
        (omega (arith, b1.extends.blocks, b2.extends.blocks, b3.extends.blocks)) (omega (arith, b1.extends.blocks))
        (omega (arith, b2.extends.blocks, b3.extends.blocks)) (omega arith)
        (omega (arith, b1.extends.blocks, b2.extends.blocks, b3.extends.blocks)))

    -- Straight notes.

    last_straight : StraightSince s5 last
    last_straight = straight_ended s5 end_branch (new_block n last_kind) (λ id never. never)

    tested_straight : StraightSince tested last
    tested_straight = straight_then tested s5 last b3.extends.blocks (omega arith) b3.straight last_straight

    to_tested_straight : StraightSince sr tested
    to_tested_straight =
        straight_then sr shut tested (omega arith) (omega arith)
        (straight_ended sr (goto n gotos.Break other) x.current (λ id never. never))
        (straight_ended shut (ends_by kind (Some span)) (new_block (n + 1) block.Value) to.calm)

    second_straight : StraightSince sr last
    second_straight = straight_then sr tested last (omega arith) (omega (arith, b3.extends.blocks)) to_tested_straight tested_straight

    open_straight : StraightSince sm last
    open_straight =
        straight_then sm open_ last (omega arith) (omega (arith, b2.extends.blocks, b3.extends.blocks))
        (straight_fresh sm (goto n gotos.Break part) block.Value (λ id never. never))
        (straight_then open_ sr last b2.extends.blocks (omega (arith, b3.extends.blocks)) b2.straight second_straight)

    begun_straight : StraightSince begun last
    begun_straight =
        straight_then begun sm last b1.extends.blocks (omega (arith, b2.extends.blocks, b3.extends.blocks)) b1.straight open_straight

    all_straight : StraightSince x last
    all_straight =
        straight_then x begun last (omega arith) (omega (arith, b1.extends.blocks, b2.extends.blocks, b3.extends.blocks))
        (λ id m. inl m) begun_straight

    -- Loops.

    no_loops : (reached : ℕ → Type 0) → Each reached (loop_blocks kind)
    no_loops reached = subst (λ (l : List BlockId). Each reached l) (sym to.loopless) tt

    cover5 : (c : Code) → IsContainedIn last c → IsContainedIn s5 c
    cover5 c cover = contained_before ends cover

    cover_tested : (c : Code) → IsContainedIn last c → IsContainedIn tested c
    cover_tested c cover = contained_before b3.extends (cover5 c cover)

    cover_shut : (c : Code) → IsContainedIn last c → IsContainedIn shut c
    cover_shut c cover = contained_before tests (cover_tested c cover)

    cover_second : (c : Code) → IsContainedIn last c → IsContainedIn sr c
    cover_second c cover = contained_hole sr n gotos.Break other x.current c (cover_shut c cover)

    cover_open : (c : Code) → IsContainedIn last c → IsContainedIn open_ c
    cover_open c cover = contained_before b2.extends (cover_second c cover)

    cover_first : (c : Code) → IsContainedIn last c → IsContainedIn sm c
    cover_first c cover = contained_before opens (cover_open c cover)

    pub value_blocks : PreservesBlocks x last
    value_blocks = record {
      extends = all_extends;
      ids = all_ids;
      used = all_used;
      named = all_named;
      ended = λ all. ends_more s5.completed (ended_by s5.current end_branch) refl
          (b3.ended (ends_more shut.completed (ended_by x.current (ends_by kind (Some span))) to.end
          (ends_more sr.completed (ended_by sr.current (goto n gotos.Break other)) refl
          (b2.ended (ends_more sm.completed (ended_by sm.current (goto n gotos.Break part)) refl (b1.ended all))))));
      straight = all_straight;
      settle = settles;
      looped = λ c cover entry old.
          looped_ended (IsLedTo c entry) s5 end_branch (new_block n last_kind) (λ led. tt)
          (b3.looped c (cover5 c cover) entry
          (looped_ended (IsLedTo c entry) shut (ends_by kind (Some span)) (new_block (n + 1) block.Value)
          (λ led. no_loops (IsLedTo c entry))
          (looped_ended (IsLedTo c entry) sr (goto n gotos.Break other) x.current (λ led. tt)
          (b2.looped c (cover_second c cover) entry
          (looped_ended (IsLedTo c entry) (reserved sm) (goto n gotos.Break part) (new_block sm.env.next_block block.Value) (λ led. tt)
          (b1.looped c (cover_first c cover) entry old))))));
    }
      where
        settles : Settling x last
        settles c cover own below jumps old behind =
            settle_completed s5 end_branch (new_block n last_kind) c
            (settles_reads c s5.current.id.0 (length s5.current.instructions) end_branch test.identifier.0 (block_id (n + 1 + 1))
            (block_id sm.env.next_block) (block_id n) (terminal_met s5 end_branch (new_block n last_kind) c cover) refl
            (λ noted. absurd (not_noted noted)))
            (b3.settle c (cover5 c cover)
            (notes_back c x tested s5 last own (omega (arith, b1.extends.blocks, b2.extends.blocks))
            (omega arith) last_straight) below_tested (by_scopes tested within.scopes) in_tested)
            (empty_settles c n)
          where
            -- No straight note is left at the block behind.
            not_noted : IsNotedStraight c n → ⊥
            not_noted noted = elim (begun_straight n (own n (omega arith) (omega (arith, b1.extends.blocks, b2.extends.blocks, b3.extends.blocks)) noted)) [
              | inl m ↦ (let small : n < x.env.next_block = below n m in absurd (omega (arith, small)))
              | inr o ↦ absurd (omega (arith, o.0))
            ]

            by_scopes : (y : State) → y.scopes ≡ x.scopes → JumpsSettle c y.scopes
            by_scopes y same = subst (λ (l : List JumpScope). JumpsSettle c l) (sym same) jumps

            below_begun : StraightBelow begun
            below_begun id m = (let small : id < n = below id m in omega (arith, small))

            below_open : StraightBelow open_
            below_open =
                straight_below sm open_ (omega arith) (straight_fresh sm (goto n gotos.Break part) block.Value (λ id never. never))
                (straight_below begun sm b1.extends.blocks b1.straight below_begun)

            below_tested : StraightBelow tested
            below_tested =
                straight_below sr tested (omega arith) to_tested_straight
                (straight_below open_ sr b2.extends.blocks b2.straight below_open)

            branches : PointsSettle c begun → PointsSettle c sr
            branches start =
                b2.settle c (cover_second c cover)
                (notes_back c x open_ sr last own (omega (arith, b1.extends.blocks))
                (omega (arith, b3.extends.blocks)) second_straight) below_open
                (by_scopes open_ b1.extends.scopes)
                (λ here. settle_completed (reserved sm) (goto n gotos.Break part) (new_block sm.env.next_block block.Value) c
                (settle_goto (reserved sm) n gotos.Break part (new_block sm.env.next_block block.Value) c (cover_open c cover) behind)
                (b1.settle c (cover_first c cover)
                (notes_back c x begun sm last own (omega arith)
                (omega (arith, b2.extends.blocks, b3.extends.blocks)) open_straight) below_begun jumps start)
                (empty_settles c sm.env.next_block))

            in_tested : PointsSettle c tested
            in_tested here =
                settle_completed shut (ends_by kind (Some span)) (new_block (n + 1) block.Value) c
                (settles_goes c x.current.id.0 (length x.current.instructions) (ends_by kind (Some span)) (block_id (n + 1)) to.marks
                (terminal_met shut (ends_by kind (Some span)) (new_block (n + 1) block.Value) c (cover_tested c cover)) to.leads here)
                (settle_aside r sr (new_block (n + 1 + 1) block.Value) (goto n gotos.Break other) c refl branches
                (settle_goto sr n gotos.Break other x.current c (cover_shut c cover) behind) old)
                (empty_settles c (n + 1))
