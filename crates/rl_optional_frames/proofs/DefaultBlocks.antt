-- The blocks of a default: two branches that give a value, and a test behind its terminal. The block of the test is numbered before the
-- one behind the whole.
use Rattle.std.proofs.Common.{◌≡◌, ℕ, ◌+◌, ◌<◌, ◌≤◌, inl, inr, List, [], ◌∷◌, length, Some, refl, sym, subst, arith}
use Rattle.rl_base.specs.declared.operator.BinaryOperator.TheVariants as operator
use Rattle.rl_base.specs.declared.span.Span.{Span}
use Rattle.rl_builder.specs.Builder.{State, completed_by, ended_by, entered, new_block, reserved, with_temporary}
use Rattle.rl_builder.specs.declared.jumps.JumpScope.{JumpScope}
use Rattle.rl_builder.specs.Temporaries.{temporary}
use Rattle.rl_hir.specs.declared.function.BlockKind.{BlockKind}
use Rattle.rl_hir.specs.declared.function.BlockKind.TheVariants as block
use Rattle.rl_hir.specs.declared.instruction.InstructionKind.TheVariants as variables
use Rattle.rl_hir.specs.declared.instruction.InstructionValue.TheVariants as values
use Rattle.rl_hir.specs.declared.instruction.Place.{Place}
use Rattle.rl_hir.specs.declared.instruction.PrimitiveValue.TheVariants as primitives
use Rattle.rl_hir.specs.declared.terminal.GotoVariant.TheVariants as gotos
use Rattle.rl_hir.specs.declared.terminal.Terminal.{Terminal}
use Rattle.rl_machine.proofs.Silence.{settles_goes, settles_reads}
use Rattle.rl_machine.specs.Ends.{Chooses, Straight, choice, leaving}
use Rattle.rl_machine.specs.Machine.{Code}
use Rattle.rl_machine.specs.Silence.{IsNotedStraight, LeavesStraight}
use Rattle.rl_optional_frames.proofs.There.{there_too}
use Rattle.rl_optional_frames.specs.Parts.{compared, comparison, default_begun, default_end, default_finished, default_given}
use Rattle.rl_optional_frames.specs.Parts.{default_test, undefined_made}
use Rattle.rl_runs.proofs.BlockIds.{IsFree, free_aside, free_ended, free_fresh, free_then, ids_aside, ids_counted, ids_ended, ids_fresh}
use Rattle.rl_runs.proofs.BlockIds.{ids_then}
use Rattle.rl_runs.proofs.Holes.{aside, contained_hole}
use Rattle.rl_runs.proofs.Moves.{contained_before, extends_completed, extends_reserved, extends_then, terminal_met}
use Rattle.rl_runs.proofs.Naming.{named_ended, named_goto, named_more, named_then, named_three, named_two, same_targets}
use Rattle.rl_runs.proofs.Points.{empty_settles, settle_aside, settle_completed, settle_goto}
use Rattle.rl_runs.proofs.Preserving.{blocks_temporary, blocks_then, blocks_value}
use Rattle.rl_runs.proofs.Used.{below_or, ended_there, ends_more, looped_ended, notes_back, still_there, straight_below, straight_ended}
use Rattle.rl_runs.proofs.Used.{straight_fresh, straight_then, used_fresh, used_then}
use Rattle.rl_runs.specs.Blocks.{AreUsed, IsLedTo, JumpsSettle, NamesSince, PointsSettle, PreservesBlocks}
use Rattle.rl_runs.specs.Blocks.{PreservesIds, PreservesUniqueIds, Settling, StraightBelow, StraightSince, UniqueIds}
use Rattle.rl_runs.specs.Facts.{Extends, IsCompleted, IsContainedIn, IsCurrentOrCompleted}
use Rattle.rl_runs.specs.Moves.{block_id, branch, goto, last_hole, next_hole, stored_in}

module _ (x sm sr s5 : State) (test : Place) (span : Span) (last_kind : BlockKind) where
  abbrev n : ℕ
  n = x.env.next_block

  abbrev f : ℕ
  f = n + 1

  abbrev end_choice : Terminal
  end_choice = default_end n f span

  -- With the blocks numbered, and in the first branch.
  abbrev r : State
  r = reserved (reserved (reserved x))

  abbrev begun : State
  begun = entered r (new_block (n + 1 + 1) block.Value)

  abbrev open_ : State
  open_ = next_hole sm f gotos.Break span block.Value

  abbrev shut : State
  shut = last_hole sr f gotos.Break span x.current

  abbrev tested : State
  tested = completed_by shut end_choice (new_block n block.Value)

  abbrev end_branch : Terminal
  end_branch = branch test (n + 1 + 1) sm.env.next_block f span

  abbrev pub last : State
  last = completed_by s5 end_branch (new_block f last_kind)

  module _
      (b1 : PreservesBlocks (entered (reserved (reserved (reserved x))) (new_block (x.env.next_block + 1 + 1) block.Value)) sm)
      (b2 : PreservesBlocks (next_hole sm (x.env.next_block + 1) gotos.Break span block.Value) sr)
      (b3 : PreservesBlocks (completed_by (last_hole sr (x.env.next_block + 1) gotos.Break span x.current)
      (default_end x.env.next_block (x.env.next_block + 1) span) (new_block x.env.next_block block.Value)) s5) where
    opens : Extends sm open_
    opens =
        extends_then (extends_reserved sm)
        (extends_completed (reserved sm) (goto f gotos.Break span) (new_block sm.env.next_block block.Value) (λ none. refl))

    within : Extends begun sr
    within = extends_then b1.extends (extends_then opens b2.extends)

    reserves : Extends x r
    reserves =
        extends_then (extends_reserved x) (extends_then (extends_reserved (reserved x)) (extends_reserved (reserved (reserved x))))

    shuts : Extends x shut
    shuts =
        extends_then reserves
        (aside r sr (new_block (n + 1 + 1) block.Value) x.scopes sr.scopes x.handlers sr.handlers
        (goto f gotos.Break span) within.scopes within.handlers within)

    tests : Extends shut tested
    tests = extends_completed shut end_choice (new_block n block.Value) (λ none. refl)

    ends : Extends s5 last
    ends = extends_completed s5 end_branch (new_block f last_kind) (λ none. refl)

    all_extends : Extends x last
    all_extends = extends_then shuts (extends_then tests (extends_then b3.extends ends))

    -- Ids.

    inside : PreservesUniqueIds r.completed (n + 1 + 1) r.env.next_block sr.completed sr.current.id.0 sr.env.next_block
    inside = ids_then b1.ids (ids_then (ids_fresh sm (goto f gotos.Break span) block.Value) b2.ids)

    first : (id : ℕ) → n ≤ id → id < n + 1 + 1 + 1 → UniqueIds x.completed x.current.id.0 n
        → IsFree r.completed r.current.id.0 r.env.next_block id
    first id above below c = free_fresh x.completed x.current.id.0 n (n + 1 + 1 + 1) id c above below

    closed_ids : PreservesIds x shut
    closed_ids =
        ids_aside r sr (n + 1 + 1) (goto f gotos.Break span) (ids_counted x.completed x.current.id.0 n (n + 1 + 1 + 1) (omega arith))
        (inr (omega arith)) (first (n + 1 + 1) (omega arith) (omega arith)) inside

    free_shut : (id : ℕ) → n ≤ id → id < n + 1 + 1 → UniqueIds x.completed x.current.id.0 n
        → IsFree shut.completed shut.current.id.0 shut.env.next_block id
    free_shut id above below c =
        free_aside r sr (n + 1 + 1) id (goto f gotos.Break span) (first id above (omega (arith, below)) c)
        (λ e. omega (arith, e, below)) inside

    tested_ids : PreservesIds x tested
    tested_ids =
        ids_ended shut end_choice (new_block n block.Value) closed_ids (inr (omega arith))
        (free_shut n (omega arith) (omega arith))

    all_ids : PreservesIds x last
    all_ids =
        ids_ended s5 end_branch (new_block f last_kind) (ids_then tested_ids b3.ids) (inr (omega arith))
        (λ c. free_then f b3.ids
        (free_ended shut end_choice n f (free_shut f (omega arith) (omega arith) c) (λ e. omega (arith, e))))

    -- Each block is used.

    in_shut : (id : ℕ) → IsCurrentOrCompleted sr id → IsCompleted shut.completed id
    in_shut id h = ended_there sr (goto f gotos.Break span) x.current id h

    in_s5 : (id : ℕ) → IsCurrentOrCompleted sr id → IsCurrentOrCompleted s5 id
    in_s5 id h =
        still_there b3.extends id
        (inr (ended_there shut end_choice (new_block n block.Value) id (inr (in_shut id h))))

    used_open : AreUsed begun open_
    used_open = used_then begun opens b1.used (used_fresh sm (goto f gotos.Break span) block.Value)

    of_branches : (id : ℕ) → n + 1 + 1 ≤ id → id < sr.env.next_block → IsCurrentOrCompleted sr id
    of_branches id above under = elim (below_or id (n + 1 + 1 + 1)) [
      | inl two ↦ there_too sr (n + 1 + 1) id (omega (arith, above, two)) within.current
      | inr more ↦ used_then begun b2.extends used_open b2.used id more under
    ]

    all_used : AreUsed x last
    all_used id above below = elim (below_or id (n + 1)) [
      | inl one ↦ in_last id (there_too s5 n id (omega (arith, above, one)) b3.extends.current)
      | inr rest ↦ elim (below_or id (n + 1 + 1)) [
        | inl two ↦ (let same : f ≡ id = omega (arith, rest, two) in inl same)
        | inr more ↦ in_last id (elim (below_or id sr.env.next_block) [
          | inl under ↦ in_s5 id (of_branches id more under)
          | inr over ↦ b3.used id over below
        ])
      ]
    ]
      where
        in_last : (id1 : ℕ) → IsCurrentOrCompleted s5 id1 → IsCurrentOrCompleted last id1
        in_last id1 h = inr (ended_there s5 end_branch (new_block f last_kind) id1 h)

    -- Names.

    to_first : NamesSince x sm
    to_first = named_then x begun sm (omega arith) b1.extends.blocks (λ id target. inr target) (λ b one. inl one) b1.named

    to_open : NamesSince x open_
    to_open =
        named_ended x (reserved sm) (goto f gotos.Break span) (new_block sm.env.next_block block.Value)
        numbered
        (named_goto x f (sm.env.next_block + 1) gotos.Break span (omega arith) (omega (arith, b1.extends.blocks)))
      where
        numbered : NamesSince x (reserved sm)
        numbered b one = elim (to_first b one) [
          | inl old ↦ inl old
          | inr own ↦ inr (λ id is. named_more x sm.env.next_block (sm.env.next_block + 1) (omega arith) id (own id is))
        ]

    to_second : NamesSince x sr
    to_second =
        named_then x open_ sr (omega (arith, b1.extends.blocks)) b2.extends.blocks
        (same_targets x open_ sr.env.next_block b1.extends.handlers b1.extends.scopes) to_open b2.named

    to_shut : NamesSince x shut
    to_shut =
        named_ended x sr (goto f gotos.Break span) x.current to_second
        (named_goto x f sr.env.next_block gotos.Break span (omega arith) (omega (arith, b1.extends.blocks, b2.extends.blocks)))

    to_tested : NamesSince x tested
    to_tested =
        named_ended x shut end_choice (new_block n block.Value) to_shut
        (named_two x (block_id n) (block_id f) sr.env.next_block (omega arith) (omega (arith, b1.extends.blocks, b2.extends.blocks))
        (omega arith) (omega (arith, b1.extends.blocks, b2.extends.blocks)))

    to_test : NamesSince x s5
    to_test =
        named_then x tested s5 (omega (arith, b1.extends.blocks, b2.extends.blocks)) b3.extends.blocks
        (same_targets x tested s5.env.next_block within.handlers within.scopes) to_tested b3.named

    all_named : NamesSince x last
    all_named =
        named_ended x s5 end_branch (new_block f last_kind) to_test
        (named_three x (block_id (n + 1 + 1)) (block_id sm.env.next_block) (block_id f) s5.env.next_block (omega arith)
        (omega (arith, b1.extends.blocks, b2.extends.blocks, b3.extends.blocks)) (omega (arith, b1.extends.blocks))
        (omega (arith, b2.extends.blocks, b3.extends.blocks)) (omega arith)
        (omega (arith, b1.extends.blocks, b2.extends.blocks, b3.extends.blocks)))

    -- Straight notes.

    calm : (id : ℕ) → LeavesStraight (leaving end_choice.kind) id → ⊥
    calm id leaves = elim leaves [
      | inl one ↦ (let never : choice Chooses ≡ Straight = one.1 in absurd (cc))
      | inr rest ↦ elim rest [ inl two ↦ (let never : choice Chooses ≡ Straight = two.1 in absurd (cc)) | inr never ↦ never ]
    ]

    last_straight : StraightSince s5 last
    last_straight = straight_ended s5 end_branch (new_block f last_kind) (λ id never. never)

    tested_straight : StraightSince tested last
    tested_straight = straight_then tested s5 last b3.extends.blocks (omega arith) b3.straight last_straight

    to_tested_straight : StraightSince sr tested
    to_tested_straight =
        straight_then sr shut tested (omega arith) (omega arith)
        (straight_ended sr (goto f gotos.Break span) x.current (λ id never. never))
        (straight_ended shut end_choice (new_block n block.Value) calm)

    second_straight : StraightSince sr last
    second_straight = straight_then sr tested last (omega arith) (omega (arith, b3.extends.blocks)) to_tested_straight tested_straight

    open_straight : StraightSince sm last
    open_straight =
        straight_then sm open_ last (omega arith) (omega (arith, b2.extends.blocks, b3.extends.blocks))
        (straight_fresh sm (goto f gotos.Break span) block.Value (λ id never. never))
        (straight_then open_ sr last b2.extends.blocks (omega (arith, b3.extends.blocks)) b2.straight second_straight)

    begun_straight : StraightSince begun last
    begun_straight =
        straight_then begun sm last b1.extends.blocks (omega (arith, b2.extends.blocks, b3.extends.blocks)) b1.straight open_straight

    all_straight : StraightSince x last
    all_straight =
        straight_then x begun last (omega arith) (omega (arith, b1.extends.blocks, b2.extends.blocks, b3.extends.blocks))
        (λ id m. inl m) begun_straight

    -- Loops.

    cover5 : (c : Code) → IsContainedIn last c → IsContainedIn s5 c
    cover5 c cover = contained_before ends cover

    cover_tested : (c : Code) → IsContainedIn last c → IsContainedIn tested c
    cover_tested c cover = contained_before b3.extends (cover5 c cover)

    cover_shut : (c : Code) → IsContainedIn last c → IsContainedIn shut c
    cover_shut c cover = contained_before tests (cover_tested c cover)

    cover_second : (c : Code) → IsContainedIn last c → IsContainedIn sr c
    cover_second c cover = contained_hole sr f gotos.Break span x.current c (cover_shut c cover)

    cover_open : (c : Code) → IsContainedIn last c → IsContainedIn open_ c
    cover_open c cover = contained_before b2.extends (cover_second c cover)

    cover_first : (c : Code) → IsContainedIn last c → IsContainedIn sm c
    cover_first c cover = contained_before opens (cover_open c cover)

    pub choice_blocks : PreservesBlocks x last
    choice_blocks = record {
      extends = all_extends;
      ids = all_ids;
      used = all_used;
      named = all_named;
      ended = λ all. ends_more s5.completed (ended_by s5.current end_branch) refl
          (b3.ended (ends_more shut.completed (ended_by x.current end_choice) refl
          (ends_more sr.completed (ended_by sr.current (goto f gotos.Break span)) refl
          (b2.ended (ends_more sm.completed (ended_by sm.current (goto f gotos.Break span)) refl (b1.ended all))))));
      straight = all_straight;
      settle = settles;
      looped = λ c cover entry old.
          looped_ended (IsLedTo c entry) s5 end_branch (new_block f last_kind) (λ led. tt)
          (b3.looped c (cover5 c cover) entry
          (looped_ended (IsLedTo c entry) shut end_choice (new_block n block.Value)
          (λ led. tt)
          (looped_ended (IsLedTo c entry) sr (goto f gotos.Break span) x.current (λ led. tt)
          (b2.looped c (cover_second c cover) entry
          (looped_ended (IsLedTo c entry) (reserved sm) (goto f gotos.Break span) (new_block sm.env.next_block block.Value) (λ led. tt)
          (b1.looped c (cover_first c cover) entry old))))));
    }
      where
        settles : Settling x last
        settles c cover own below jumps old behind =
            settle_completed s5 end_branch (new_block f last_kind) c
            (settles_reads c s5.current.id.0 (length s5.current.instructions) end_branch test.identifier.0 (block_id (n + 1 + 1))
            (block_id sm.env.next_block) (block_id f) (terminal_met s5 end_branch (new_block f last_kind) c cover) refl
            (λ noted. absurd (not_noted noted)))
            (b3.settle c (cover5 c cover)
            (notes_back c x tested s5 last own (omega (arith, b1.extends.blocks, b2.extends.blocks))
            (omega arith) last_straight) below_tested (by_scopes tested within.scopes) in_tested)
            (empty_settles c f)
          where
            -- No straight note is left at the block behind.
            not_noted : IsNotedStraight c f → ⊥
            not_noted noted = elim
                (begun_straight f
                (own f (omega arith) (omega (arith, b1.extends.blocks, b2.extends.blocks, b3.extends.blocks)) noted)) [
                  | inl m ↦ (let small : f < x.env.next_block = below f m in absurd (omega (arith, small)))
                  | inr o ↦ absurd (omega (arith, o.0))
                ]

            by_scopes : (y : State) → y.scopes ≡ x.scopes → JumpsSettle c y.scopes
            by_scopes y same = subst (λ (l : List JumpScope). JumpsSettle c l) (sym same) jumps

            below_begun : StraightBelow begun
            below_begun id m = (let small : id < n = below id m in omega (arith, small))

            below_open : StraightBelow open_
            below_open =
                straight_below sm open_ (omega arith) (straight_fresh sm (goto f gotos.Break span) block.Value (λ id never. never))
                (straight_below begun sm b1.extends.blocks b1.straight below_begun)

            below_tested : StraightBelow tested
            below_tested =
                straight_below sr tested (omega arith) to_tested_straight
                (straight_below open_ sr b2.extends.blocks b2.straight below_open)

            branches : PointsSettle c begun → PointsSettle c sr
            branches start =
                b2.settle c (cover_second c cover)
                (notes_back c x open_ sr last own (omega (arith, b1.extends.blocks))
                (omega (arith, b3.extends.blocks)) second_straight) below_open
                (by_scopes open_ b1.extends.scopes)
                (λ here. settle_completed (reserved sm) (goto f gotos.Break span) (new_block sm.env.next_block block.Value) c
                (settle_goto (reserved sm) f gotos.Break span (new_block sm.env.next_block block.Value) c (cover_open c cover) behind)
                (b1.settle c (cover_first c cover)
                (notes_back c x begun sm last own (omega arith)
                (omega (arith, b2.extends.blocks, b3.extends.blocks)) open_straight) below_begun jumps start)
                (empty_settles c sm.env.next_block))

            in_tested : PointsSettle c tested
            in_tested here =
                settle_completed shut end_choice (new_block n block.Value) c
                (settles_goes c x.current.id.0 (length x.current.instructions) end_choice (block_id n)
                ((block_id n, Chooses) ∷ (block_id f, Chooses) ∷ [])
                (terminal_met shut end_choice (new_block n block.Value) c (cover_tested c cover)) refl here)
                (settle_aside r sr (new_block (n + 1 + 1) block.Value) (goto f gotos.Break span) c refl branches
                (settle_goto sr f gotos.Break span x.current c (cover_shut c cover) behind) old)
                (empty_settles c n)

-- The default as its frame builds it.
pub default_blocks : (s s2 : State) (default value : Place) (span : Span) → PreservesBlocks (default_begun s span) s2
    → PreservesBlocks s (default_finished s2 s.env.next_block (s.env.next_block + 1) (s.env.next_block + 1 + 1) s.current.kind
    (temporary s (Some span)) default value span s.current)
default_blocks s s2 default value span b =
    blocks_then s x _ (blocks_temporary s (Some span))
    (choice_blocks x (stored_in s2 place default span) (stored_in opened place value span) (compared tested value span)
    (comparison tested span) span s.current.kind
    (blocks_then (default_begun s span) s2 _ b (blocks_value s2 (values.StoreLocal variables.Const place default) (Some span)))
    (blocks_value opened (values.StoreLocal variables.Const place value) (Some span))
    (blocks_then tested (undefined_made tested span) _ (blocks_value tested (values.Primitive primitives.Undefined) (Some span))
    (blocks_value (undefined_made tested span)
    (values.BinaryExpression operator.StrictEquality value (temporary tested (Some span))) (Some span))))
  where
    x : State
    x = with_temporary s (Some span)

    place : Place
    place = temporary s (Some span)

    opened : State
    opened = default_given s2 (s.env.next_block + 1) place default span

    tested : State
    tested = default_test s2 s.env.next_block (s.env.next_block + 1) place default value span s.current
