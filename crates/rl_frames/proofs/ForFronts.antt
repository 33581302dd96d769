-- The holes in front of the body of a `for` loop, those of its init and of its update: all that they preserve.
use Rattle.std.proofs.Common.{◌≡◌, ℕ, zero, suc, ◌+◌, ◌<◌, ◌≤◌, inl, inr, false, List, length, refl, sym, subst, arith}
use Rattle.rl_builder.specs.Builder.{ended_by, new_block, reserved}
use Rattle.rl_builder.specs.declared.jumps.JumpScope.{JumpScope}
use Rattle.rl_frames.proofs.Common.{Code, Extends, IsContainedIn, IsLedTo, Span, State}
use Rattle.rl_frames.proofs.ForStates.{for_front, for_numbered, init_extends, update_extends}
use Rattle.rl_frames.specs.Parts.{for_begun, for_update}
use Rattle.rl_hir.specs.Blocks.{same_id}
use Rattle.rl_hir.specs.declared.function.BlockKind.TheVariants as block
use Rattle.rl_hir.specs.declared.terminal.GotoVariant.TheVariants as gotos
use Rattle.rl_machine.specs.Silence.{Settles}
use Rattle.rl_order.proofs.Ordering.{or_left, same_self}
use Rattle.rl_runs.proofs.BlockIds.{IsFree, free_aside, free_fresh, ids_aside, ids_counted, ids_then}
use Rattle.rl_runs.proofs.Holes.{contained_hole}
use Rattle.rl_runs.proofs.Moves.{contained_before, extends_then, terminal_met}
use Rattle.rl_runs.proofs.Naming.{named_ended, named_goto, named_more, named_then, same_targets}
use Rattle.rl_runs.proofs.Points.{settle_aside, settle_goto}
use Rattle.rl_runs.proofs.Used.{below_or, ended_there, ends_more, looped_ended, notes_back, straight_below, straight_ended, straight_then}
use Rattle.rl_runs.specs.Blocks.{AreEnds, AreLooped, HasPoint, JumpsSettle, Leads, NamesSince, NotesOwn, Passes, PointsSettle}
use Rattle.rl_runs.specs.Blocks.{PreservesBlocks, PreservesIds, StraightBelow, StraightSince, UniqueIds}
use Rattle.rl_runs.specs.Facts.{IsCompleted, IsCurrentOrCompleted}
use Rattle.rl_runs.specs.Moves.{block_id, goto}

-- The points up to `x` settle, and so do the blocks of the init and of `again`.
pub record FrontSettles (c : Code) (s x : State) (again : ℕ) : Type 0 where
  pub points : PointsSettle c x
  pub first : Settles c (s.env.next_block + 1 + 1) 0
  pub target : Settles c again 0

-- From `s` to `x`, where the block that was current goes on; a `continue` of the loop goes to block `again`.
pub record IsFront (s x : State) (again : ℕ) : Type 0 where
  pub extends : Extends (for_numbered s) x
  pub low : s.env.next_block ≤ again
  pub high : again < x.env.next_block
  pub ids : PreservesIds s x
  pub free : (id : ℕ) → s.env.next_block ≤ id → id < s.env.next_block + 1 + 1 → UniqueIds s.completed s.current.id.0 s.env.next_block
      → IsFree x.completed x.current.id.0 x.env.next_block id
  pub used : (id : ℕ) → s.env.next_block + 1 + 1 ≤ id → id < x.env.next_block → IsCompleted x.completed id
  pub named : NamesSince s x
  pub ended : AreEnds s.completed → AreEnds x.completed
  pub straight : StraightSince (for_numbered s) x
  pub settle : (c : Code) → IsContainedIn x c → NotesOwn c s x → StraightBelow s → JumpsSettle c s.scopes → Settles c s.env.next_block 0
      → (Settles c (s.env.next_block + 1 + 1) 0 → Settles c s.current.id.0 (length s.current.instructions)) → PointsSettle c s
      → FrontSettles c s x again
  pub looped : (c : Code) → IsContainedIn x c → (entry : ℕ) → AreLooped (IsLedTo c entry) s.completed
      → AreLooped (IsLedTo c entry) x.completed

-- The first point of a hole whose points settle.
first_point : (c : Code) (old new : State) → Extends old new → ((id place : ℕ) → HasPoint new id place → Settles c id place)
    → Settles c new.current.id.0 (length new.current.instructions) → Settles c old.current.id.0 0
first_point c old new g all end = elim g.current [
  | inl same ↦ by_length (length new.current.instructions) refl same
  | inr k ↦ all old.current.id.0 0 (inl (record { index = k.place; block = k.block; found = k.found; named = k.named; within = omega arith }))
]
  where
    by_length : (m : ℕ) → length new.current.instructions ≡ m → new.current.id.0 ≡ old.current.id.0 → Settles c old.current.id.0 0
    by_length zero is same = subst (λ (m : ℕ). Settles c m 0) same (subst (λ (m : ℕ). Settles c new.current.id.0 m) is end)
    by_length (suc m) is same = all old.current.id.0 0 (inr (record { named = same; within = omega (arith, is) }))

-- No point is before the first.
none_before : (place : ℕ) → place < 0 → ⊥
none_before place small = omega (arith, small)

-- An init that completes leads to the test.
pub init_comes : (s s2 : State) (part : Span) → Passes (for_begun s) s2 → (c : Code) → IsContainedIn (for_front s s2 part) c → (entry : ℕ)
    → IsLedTo c entry (s.env.next_block + 1 + 1) → IsLedTo c entry s.env.next_block
init_comes s s2 part passes c cover entry led =
    Leads s2.current.id.0 (length s2.current.instructions) (goto s.env.next_block gotos.Break part) (block_id s.env.next_block)
    (passes c (contained_hole s2 s.env.next_block gotos.Break part s.current c cover) entry led)
    (terminal_met s2 (goto s.env.next_block gotos.Break part) s.current c cover)
    (or_left (same_id (block_id s.env.next_block) (block_id s.env.next_block)) false (same_self (block_id s.env.next_block)))

-- The init.
module _ (s s2 : State) (part : Span) (bi : PreservesBlocks (for_begun s) s2) where
  abbrev h : ℕ
  h = s.env.next_block

  abbrev i : ℕ
  i = s.env.next_block + 1 + 1

  abbrev s1 : State
  s1 = for_numbered s

  abbrev begun : State
  begun = for_begun s

  abbrev xa : State
  xa = for_front s s2 part

  cover2 : (c : Code) → IsContainedIn xa c → IsContainedIn s2 c
  cover2 c cover = contained_hole s2 h gotos.Break part s.current c cover

  numbered_free : (id : ℕ) → h ≤ id → id < h + 1 + 1 + 1 → UniqueIds s.completed s.current.id.0 h
      → IsFree s1.completed s1.current.id.0 s1.env.next_block id
  numbered_free id above below q = free_fresh s.completed s.current.id.0 h (h + 1 + 1 + 1) id q above below

  init_ids : PreservesIds s xa
  init_ids =
      ids_aside s1 s2 i (goto h gotos.Break part) (ids_counted s.completed s.current.id.0 h (h + 1 + 1 + 1) (omega arith))
      (inr (omega arith)) (numbered_free i (omega arith) (omega arith)) bi.ids

  init_used : (id : ℕ) → i ≤ id → id < s2.env.next_block → IsCurrentOrCompleted s2 id
  init_used id above below = elim (below_or id (i + 1)) [
    | inl one ↦ (let same : i ≡ id = omega (arith, above, one) in subst (λ (m : ℕ). IsCurrentOrCompleted s2 m) same bi.extends.current)
    | inr more ↦ bi.used id more below
  ]

  init_named : NamesSince s xa
  init_named =
      named_ended s s2 (goto h gotos.Break part) s.current
      (named_then s begun s2 (omega arith) bi.extends.blocks (λ id to. inr to) (λ b one. inl one) bi.named)
      (named_goto s h s2.env.next_block gotos.Break part (omega arith) (omega (arith, bi.extends.blocks)))

  shut_straight : StraightSince s2 xa
  shut_straight = straight_ended s2 (goto h gotos.Break part) s.current (λ id never. never)

  init_straight : StraightSince s1 xa
  init_straight = straight_then s1 s2 xa bi.extends.blocks (omega arith) bi.straight shut_straight

  init_settles : (c : Code) → IsContainedIn xa c → NotesOwn c s xa → StraightBelow s → JumpsSettle c s.scopes → Settles c h 0
      → (Settles c i 0 → Settles c s.current.id.0 (length s.current.instructions)) → PointsSettle c s → FrontSettles c s xa h
  init_settles c cover own below jumps here leads old = record {
    points = settle_aside s1 s2 (new_block i block.Loop) (goto h gotos.Break part) c refl hole end old;
    first = start;
    target = here;
  }
    where
      end : Settles c s2.current.id.0 (length s2.current.instructions)
      end = settle_goto s2 h gotos.Break part s.current c cover here

      hole : PointsSettle c begun → PointsSettle c s2
      hole =
          bi.settle c (cover2 c cover) (notes_back c s begun s2 xa own (omega arith) (omega arith) shut_straight)
          (λ id m. (let small : id < h = below id m in omega (arith, small))) jumps

      begins : PointsSettle c begun
      begins there id index at = elim at [
        | inl d ↦ old (leads there) id index (inl (record { index = d.index; block = d.block; found = d.found; named = d.named; within = d.within }))
        | inr w ↦ absurd (none_before index w.within)
      ]

      start : Settles c i 0
      start = first_point c begun s2 bi.extends (hole begins end) end

  pub init_front : IsFront s (for_front s s2 part) s.env.next_block
  init_front = record {
    extends = init_extends s s2 part bi.extends;
    low = omega arith;
    high = omega (arith, bi.extends.blocks);
    ids = init_ids;
    free = λ id above below q.
        free_aside s1 s2 i id (goto h gotos.Break part) (numbered_free id above (omega (arith, below)) q) (λ e. omega (arith, e, below))
        bi.ids;
    used = λ id above below. ended_there s2 (goto h gotos.Break part) s.current id (init_used id above below);
    named = init_named;
    ended = λ all. ends_more s2.completed (ended_by s2.current (goto h gotos.Break part)) refl (bi.ended all);
    straight = init_straight;
    settle = init_settles;
    looped = λ c cover entry old. looped_ended (IsLedTo c entry) s2 (goto h gotos.Break part) s.current (λ r. tt)
        (bi.looped c (cover2 c cover) entry old);
  }

-- The update, behind the init.
module _ (s s2 s3 : State) (part other : Span) (fa : IsFront s (for_front s s2 part) s.env.next_block)
    (bu : PreservesBlocks (for_update s2 s.env.next_block part) s3) where
  abbrev n : ℕ
  n = s.env.next_block

  abbrev u : ℕ
  u = s2.env.next_block

  abbrev before : State
  before = for_front s s2 part

  abbrev opened : State
  opened = for_update s2 n part

  abbrev xb : State
  xb = for_front s s3 other

  grows : Extends before xb
  grows = update_extends s s2 s3 part other bu.extends

  cover3 : (c : Code) → IsContainedIn xb c → IsContainedIn s3 c
  cover3 c cover = contained_hole s3 n gotos.Break other s.current c cover

  update_ids : PreservesIds s xb
  update_ids =
      ids_aside (reserved before) s3 u (goto n gotos.Break other)
      (ids_then fa.ids (ids_counted before.completed before.current.id.0 u (u + 1) (omega arith))) (inr (omega (arith, fa.extends.blocks)))
      (λ q. free_fresh before.completed before.current.id.0 u (u + 1) u (fa.ids.distinct q) (omega arith) (omega arith)) bu.ids

  update_free : (id : ℕ) → n ≤ id → id < n + 1 + 1 → UniqueIds s.completed s.current.id.0 n
      → IsFree xb.completed xb.current.id.0 xb.env.next_block id
  update_free id above below q =
      let old : IsFree before.completed before.current.id.0 before.env.next_block id = fa.free id above below q in
      free_aside (reserved before) s3 u id (goto n gotos.Break other)
      (record { below = omega (arith, old.below); unused = old.unused; other = old.other })
      (λ e. omega (arith, e, below, fa.extends.blocks)) bu.ids

  update_used : (id : ℕ) → n + 1 + 1 ≤ id → id < xb.env.next_block → IsCompleted xb.completed id
  update_used id above below = elim (below_or id u) [
    | inl under ↦ grows.completed id (fa.used id above under)
    | inr over ↦ ended_there s3 (goto n gotos.Break other) s.current id (elim (below_or id (u + 1)) [
      | inl one ↦ (let same : u ≡ id = omega (arith, over, one) in subst (λ (m : ℕ). IsCurrentOrCompleted s3 m) same bu.extends.current)
      | inr more ↦ bu.used id more below
    ])
  ]

  update_named : NamesSince s xb
  update_named =
      named_ended s s3 (goto n gotos.Break other) s.current
      (named_then s opened s3 (omega (arith, fa.extends.blocks)) bu.extends.blocks
      (same_targets s opened s3.env.next_block fa.extends.handlers fa.extends.scopes) to_opened bu.named)
      (named_goto s n s3.env.next_block gotos.Break other (omega arith) (omega (arith, fa.extends.blocks, bu.extends.blocks)))
    where
      to_opened : NamesSince s opened
      to_opened b one = elim (fa.named b one) [
        | inl old ↦ inl old
        | inr own ↦ inr (λ id is. named_more s before.env.next_block opened.env.next_block (omega arith) id (own id is))
      ]

  opened_straight : StraightSince (for_numbered s) opened
  opened_straight = straight_then (for_numbered s) before opened fa.extends.blocks (omega arith) fa.straight (λ id m. inl m)

  ended_straight : StraightSince s3 xb
  ended_straight = straight_ended s3 (goto n gotos.Break other) s.current (λ id never. never)

  hole_straight : StraightSince opened xb
  hole_straight = straight_then opened s3 xb bu.extends.blocks (omega arith) bu.straight ended_straight

  before_straight : StraightSince before xb
  before_straight = straight_then before opened xb (omega arith) bu.extends.blocks (λ id m. inl m) hole_straight

  update_settles : (c : Code) → IsContainedIn xb c → NotesOwn c s xb → StraightBelow s → JumpsSettle c s.scopes → Settles c n 0
      → (Settles c (n + 1 + 1) 0 → Settles c s.current.id.0 (length s.current.instructions)) → PointsSettle c s → FrontSettles c s xb u
  update_settles c cover own below jumps here leads old = record {
    points = settle_aside (reserved before) s3 (new_block u block.Loop) (goto n gotos.Break other) c refl hole end fs.points;
    first = fs.first;
    target = first_point c opened s3 bu.extends (hole begins end) end;
  }
    where
      fs : FrontSettles c s before n
      fs =
          fa.settle c (contained_before grows cover)
          (notes_back c s s before xb own (omega arith) (omega (arith, bu.extends.blocks)) before_straight) below jumps here leads old

      below_opened : StraightBelow opened
      below_opened =
          straight_below (for_numbered s) opened (omega (arith, fa.extends.blocks)) opened_straight
          (λ id m. (let small : id < n = below id m in omega (arith, small)))

      end : Settles c s3.current.id.0 (length s3.current.instructions)
      end = settle_goto s3 n gotos.Break other s.current c cover here

      hole : PointsSettle c opened → PointsSettle c s3
      hole =
          bu.settle c (cover3 c cover)
          (notes_back c s opened s3 xb own (omega (arith, fa.extends.blocks)) (omega arith) ended_straight) below_opened
          (subst (λ (l : List JumpScope). JumpsSettle c l) (sym fa.extends.scopes) jumps)

      begins : PointsSettle c opened
      begins there id index at = elim at [
        | inl d ↦ fs.points (leads fs.first) id index (inl (record { index = d.index; block = d.block; found = d.found; named = d.named; within = d.within }))
        | inr w ↦ absurd (none_before index w.within)
      ]

  pub update_front : IsFront s (for_front s s3 other) s2.env.next_block
  update_front = record {
    extends = extends_then fa.extends grows;
    low = omega (arith, fa.extends.blocks);
    high = omega (arith, bu.extends.blocks);
    ids = update_ids;
    free = update_free;
    used = update_used;
    named = update_named;
    ended = λ all. ends_more s3.completed (ended_by s3.current (goto n gotos.Break other)) refl (bu.ended (fa.ended all));
    straight = straight_then (for_numbered s) before xb fa.extends.blocks (omega (arith, bu.extends.blocks)) fa.straight before_straight;
    settle = update_settles;
    looped = λ c cover entry before_it.
        looped_ended (IsLedTo c entry) s3 (goto n gotos.Break other) s.current (λ r. tt)
        (bu.looped c (cover3 c cover) entry (fa.looped c (contained_before grows cover) entry before_it));
  }
