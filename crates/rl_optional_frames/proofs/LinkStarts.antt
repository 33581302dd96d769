-- States in which the test of a link of an optional chain begins.
use Rattle.std.proofs.Common.{◌≡◌, ℕ, ◌+◌, ◌<◌, ◌≤◌, ◌⊎◌, inl, inr, Some, refl, arith}
use Rattle.rl_base.specs.declared.span.Span.{Span}
use Rattle.rl_builder.specs.Builder.{State, ended_by, entered, new_block, reserved, with_temporary}
use Rattle.rl_builder.specs.Temporaries.{temporary, unordered, with_value}
use Rattle.rl_frames.specs.Parts.{chain_begun, chain_ended, chain_reserved, chain_undefined}
use Rattle.rl_hir.specs.declared.function.BlockKind.TheVariants as block
use Rattle.rl_hir.specs.declared.instruction.InstructionKind.TheVariants as variables
use Rattle.rl_hir.specs.declared.instruction.InstructionValue.{InstructionValue}
use Rattle.rl_hir.specs.declared.instruction.InstructionValue.TheVariants as values
use Rattle.rl_hir.specs.declared.instruction.PrimitiveValue.TheVariants as primitives
use Rattle.rl_hir.specs.declared.terminal.GotoVariant.TheVariants as gotos
use Rattle.rl_hir.specs.declared.terminal.Terminal.{Terminal}
use Rattle.rl_machine.specs.Machine.{Code}
use Rattle.rl_machine.specs.Silence.{Settles}
use Rattle.rl_optional_frames.proofs.There.{there_too}
use Rattle.rl_runs.proofs.BlockIds.{IsFree, free_aside, free_fresh, ids_aside, ids_counted}
use Rattle.rl_runs.proofs.Holes.{aside, contained_hole}
use Rattle.rl_runs.proofs.Moves.{contained_before, extends_reserved, extends_temporary, extends_then, extends_value}
use Rattle.rl_runs.proofs.Naming.{named_ended, named_goto, named_then}
use Rattle.rl_runs.proofs.Points.{settle_aside, settle_goto, settle_pushed}
use Rattle.rl_runs.proofs.Preserving.{blocks_then, blocks_value}
use Rattle.rl_runs.proofs.Used.{below_or, ended_there, ends_more, looped_ended, straight_ended, straight_then}
use Rattle.rl_runs.specs.Blocks.{AreEnds, IsLedTo, Looping, NamesSince, PointsSettle, PreservesBlocks, PreservesIds, StraightSince}
use Rattle.rl_runs.specs.Blocks.{UniqueIds}
use Rattle.rl_runs.specs.Facts.{Extends, IsCompleted, IsContainedIn, IsCurrentOrCompleted}
use Rattle.rl_runs.specs.Moves.{goto}

-- From `s` to `x` the blocks behind a link and of the link were numbered; each other block that was numbered is complete.
pub record StartsLink (s x : State) (behind link : ℕ) : Type 0 where
  pub extends : Extends s x
  pub position : x.current ≡ s.current
  pub ids : PreservesIds s x
  pub free : (id : ℕ) → (id ≡ behind) ⊎ (id ≡ link) → UniqueIds s.completed s.current.id.0 s.env.next_block
      → IsFree x.completed x.current.id.0 x.env.next_block id
  pub used : (id : ℕ) → s.env.next_block ≤ id → id < x.env.next_block → (id ≡ behind) ⊎ (id ≡ link) ⊎ IsCompleted x.completed id
  pub named : NamesSince s x
  pub ended : AreEnds s.completed → AreEnds x.completed
  pub straight : StraightSince s x
  pub settle : (c : Code) → IsContainedIn x c → Settles c behind 0 → PointsSettle c s → PointsSettle c x
  pub looped : Looping s x
  pub behind_since : s.env.next_block ≤ behind
  pub behind_below : behind < x.env.next_block
  pub link_since : s.env.next_block ≤ link
  pub link_below : link < x.env.next_block
  pub apart : behind ≡ link → ⊥

reserves : (s : State) (span : Span) → Extends s (chain_reserved s span)
reserves s span =
    extends_then (extends_reserved s)
    (extends_then (extends_reserved (reserved s)) (extends_temporary (reserved (reserved s)) (Some span)))

-- A link inside a chain.
pub inner_starts : (s : State) (span : Span) → StartsLink s (chain_reserved s span) s.env.next_block (s.env.next_block + 1)
inner_starts s span = record {
  extends = reserves s span;
  position = refl;
  ids = ids_counted s.completed s.current.id.0 n (n + 1 + 1) (omega arith);
  free = λ id is c. elim is [
    | inl e ↦ free_fresh s.completed s.current.id.0 n (n + 1 + 1) id c (omega (arith, e)) (omega (arith, e))
    | inr e ↦ free_fresh s.completed s.current.id.0 n (n + 1 + 1) id c (omega (arith, e)) (omega (arith, e))
  ];
  used = λ id above below. elim (below_or id (n + 1)) [
    | inl one ↦ (let same : id ≡ n = omega (arith, above, one) in inl same)
    | inr two ↦ (let same : id ≡ n + 1 = omega (arith, below, two) in inr (inl same))
  ];
  named = λ b one. inl one;
  ended = λ all. all;
  straight = λ id m. inl m;
  settle = λ c cover behind old. old;
  looped = λ c cover entry old. old;
  behind_since = omega arith;
  behind_below = omega arith;
  link_since = omega arith;
  link_below = omega arith;
  apart = λ e. omega (arith, e);
}
  where
    n : ℕ
    n = s.env.next_block

settle_value : (s : State) (value : InstructionValue) (span : Span) (c : Code) → IsContainedIn (with_value s value (Some span)) c
    → PointsSettle c s → PointsSettle c (with_value s value (Some span))
settle_value s value span c cover old =
    settle_pushed (with_temporary s (Some span)) (unordered (temporary s (Some span)) value (Some span)) c cover old

-- The outermost link: the block is complete in which the chain ends early.
module _ (s : State) (span : Span) where
  abbrev n : ℕ
  n = s.env.next_block

  abbrev y : State
  y = chain_reserved s span

  abbrev sa : State
  sa = entered (reserved y) (new_block (n + 1 + 1) block.Value)

  abbrev v : State
  v = chain_undefined s span

  abbrev e : State
  e = chain_ended s span

  abbrev end : Terminal
  end = goto n gotos.Break span

  both : PreservesBlocks sa e
  both =
      blocks_then sa v e (blocks_value sa (values.Primitive primitives.Undefined) (Some span))
      (blocks_value v (values.StoreLocal variables.Const (temporary s (Some span)) (temporary y (Some span))) (Some span))

  pub early_extends : Extends (chain_reserved s span) (chain_begun s span)
  early_extends =
      extends_then (extends_reserved y)
      (aside (reserved y) e (new_block (n + 1 + 1) block.Value) s.scopes e.scopes s.handlers e.handlers end both.extends.scopes
      both.extends.handlers both.extends)

  pub early_below : s.env.next_block + 1 + 1 < (chain_begun s span).env.next_block
  early_below = omega (arith, both.extends.blocks)

  fresh : (id : ℕ) → n ≤ id → id < n + 1 + 1 + 1 → UniqueIds s.completed s.current.id.0 n
      → IsFree s.completed s.current.id.0 (n + 1 + 1 + 1) id
  fresh id above below c = free_fresh s.completed s.current.id.0 n (n + 1 + 1 + 1) id c above below

  still_free : (id : ℕ) → n ≤ id → id < n + 1 + 1 → UniqueIds s.completed s.current.id.0 n
      → IsFree (chain_begun s span).completed s.current.id.0 (chain_begun s span).env.next_block id
  still_free id above below c =
      free_aside (reserved y) e (n + 1 + 1) id end (fresh id above (omega (arith, below)) c) (λ is. omega (arith, is, below)) both.ids

  all_used : (id : ℕ) → n ≤ id → id < (chain_begun s span).env.next_block
      → (id ≡ n) ⊎ (id ≡ n + 1) ⊎ IsCompleted (chain_begun s span).completed id
  all_used id above below = elim (below_or id (n + 1)) [
    | inl one ↦ (let same : id ≡ n = omega (arith, above, one) in inl same)
    | inr rest ↦ elim (below_or id (n + 1 + 1)) [
      | inl two ↦ (let same : id ≡ n + 1 = omega (arith, rest, two) in inr (inl same))
      | inr more ↦ inr (inr (ended_there e end s.current id (in_early id more below)))
    ]
  ]
    where
      in_early : (id1 : ℕ) → n + 1 + 1 ≤ id1 → id1 < e.env.next_block → IsCurrentOrCompleted e id1
      in_early id1 more1 below1 = elim (below_or id1 (n + 1 + 1 + 1)) [
        | inl three ↦ there_too e (n + 1 + 1) id1 (omega (arith, more1, three)) both.extends.current
        | inr over ↦ both.used id1 over below1
      ]

  settles : (c : Code) → IsContainedIn (chain_begun s span) c → Settles c n 0 → PointsSettle c s → PointsSettle c (chain_begun s span)
  settles c cover behind old =
      settle_aside (reserved y) e (new_block (n + 1 + 1) block.Value) end c refl
      (λ first. settle_value v (values.StoreLocal variables.Const (temporary s (Some span)) (temporary y (Some span))) span c cover_ended
      (settle_value sa (values.Primitive primitives.Undefined) span c cover_value first))
      (settle_goto e n gotos.Break span s.current c cover behind) old
    where
      cover_ended : IsContainedIn e c
      cover_ended = contained_hole e n gotos.Break span s.current c cover

      cover_value : IsContainedIn v c
      cover_value =
          contained_before
          (extends_value v (values.StoreLocal variables.Const (temporary s (Some span)) (temporary y (Some span))) (Some span))
          cover_ended

  pub outer_starts : StartsLink s (chain_begun s span) s.env.next_block (s.env.next_block + 1)
  outer_starts = record {
    extends = extends_then (reserves s span) early_extends;
    position = refl;
    ids =
        ids_aside (reserved y) e (n + 1 + 1) end (ids_counted s.completed s.current.id.0 n (n + 1 + 1 + 1) (omega arith))
        (inr (omega arith)) (fresh (n + 1 + 1) (omega arith) (omega arith)) both.ids;
    free = λ id is c. elim is [
      | inl same ↦ still_free id (omega (arith, same)) (omega (arith, same)) c
      | inr same ↦ still_free id (omega (arith, same)) (omega (arith, same)) c
    ];
    used = all_used;
    named =
        named_ended s e end s.current
        (named_then s sa e (omega arith) both.extends.blocks (λ id target. inr target) (λ b one. inl one) both.named)
        (named_goto s n e.env.next_block gotos.Break span (omega arith) (omega (arith, both.extends.blocks)));
    ended = λ all. ends_more e.completed (ended_by e.current end) refl (both.ended all);
    straight =
        straight_then s sa (chain_begun s span) (omega arith) (omega (arith, both.extends.blocks)) (λ id m. inl m)
        (straight_then sa e (chain_begun s span) both.extends.blocks (omega arith) both.straight
        (straight_ended e end s.current (λ id never. never)));
    settle = settles;
    looped = λ c cover entry old.
        looped_ended (IsLedTo c entry) e end s.current (λ led. tt)
        (both.looped c (contained_hole e n gotos.Break span s.current c cover) entry old);
    behind_since = omega arith;
    behind_below = omega (arith, both.extends.blocks);
    link_since = omega arith;
    link_below = omega (arith, both.extends.blocks);
    apart = λ is. omega (arith, is);
  }
