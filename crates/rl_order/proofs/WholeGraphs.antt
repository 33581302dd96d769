-- The tests of a whole graph, and of the room for its orders.
use Rattle.std.proofs.Common.{◌≡◌, ℕ, zero, suc, ◌+◌, ◌<◌, ◌≤◌, ◌^◌, Bool, true, false, ◌&&◌, true≢false, List, [], ◌∷◌, Some, All, length, take, drop, slice_get, get_or, refl, ap, sym, ◌∙◌, subst, arith}
use Rattle.std.proofs.lemmas.List.Elements.{All-get_or, All-more}
use Rattle.std.proofs.lemmas.List.Folds.{list_all-append, list_all_more}
use Rattle.std.proofs.lemmas.List.{drop_all, take_all}
use Rattle.std.proofs.lemmas.Map.Entries.{place_from_lookup}
use Rattle.std.proofs.lemmas.Option.{get_or_from_slice_get, slice_get_within}
use Rattle.std.proofs.lemmas.Bool.{and_parts}
use Rattle.std.specs.List.{list_all}
use Rattle.rl_base.proofs.DistinctLists.{distinct_tail}
use Rattle.rl_base.specs.declared.ids.BlockId.{BlockId}
use Rattle.rl_base.specs.declared.ids.InstructionId.{InstructionId}
use Rattle.rl_hir.specs.Blocks.{Pair, HaveOwnIds, block_at, ids, same_id}
use Rattle.rl_hir.specs.Terminals.{fallthrough, listed_id, successor_ids}
use Rattle.rl_hir.specs.declared.function.BasicBlock.{BasicBlock}
use Rattle.rl_order.proofs.DeadTries.{drop_pair}
use Rattle.rl_order.proofs.Ordering.{same_self}
use Rattle.rl_order.proofs.SourceLists.{apart, id_at}
use Rattle.rl_order.specs.Numbering.{HaveOrders, orders_of}
use Rattle.rl_order.specs.Walk.{IsWhole, has_block, leads_to}

-- A look-up finds the block at an index under its id.
block_there : (graph : List Pair) (index : ℕ) (p : Pair) → HaveOwnIds graph → slice_get graph index ≡ Some p → block_at graph p.0 ≡ Some p.1
block_there [] index p own at = absurd (cc)
block_there (q ∷ graph) zero p own at =
    let same : q ≡ p = cc in
    subst (λ (r : Pair). block_at (q ∷ graph) r.0 ≡ Some r.1) same (let self = same_self q.0 in rw self refl)
block_there (q ∷ graph) (suc index) p own at =
    let other = apart q graph index p.0 own (id_at graph index p at) (same_id p.0 q.0) refl in
    rw other (block_there graph index p (distinct_tail q.0.0 (ids graph) own) at)

in_all : (test : Pair → Bool) (pairs : List Pair) (index : ℕ) (p : Pair) → list_all test pairs ≡ true → slice_get pairs index ≡ Some p → test p ≡ true
in_all test [] index p all at = absurd (cc)
in_all test (q ∷ pairs) zero p all at =
    let same : q ≡ p = cc in subst (λ (r : Pair). test r ≡ true) same (and_parts (test q) (list_all test pairs) all).0
in_all test (q ∷ pairs) (suc index) p all at = in_all test pairs index p (and_parts (test q) (list_all test pairs) all).1 at

-- The blocks to which a block leads are there if its fallthrough and its successors are.
pub both_parts : (graph : List Pair) (block : BasicBlock) (behind ahead : Bool) → behind ≡ list_all (has_block graph) (listed_id (fallthrough block.terminal))
    → ahead ≡ list_all (has_block graph) (successor_ids block.terminal) → (behind && ahead) ≡ list_all (has_block graph) (leads_to block)
both_parts graph block behind ahead b a =
    rw (b, a) (sym (list_all-append (has_block graph) (listed_id (fallthrough block.terminal)) (successor_ids block.terminal)))

-- True if each block to which the block leads is there.
abbrev pub inside : List Pair → Pair → Bool
inside graph p = list_all (has_block graph) (leads_to p.1)

pub one_more_inside : (graph : List Pair) (index : ℕ) (p : Pair) → slice_get graph index ≡ Some p → inside graph p ≡ true
    → list_all (inside graph) (take index graph) ≡ true → list_all (inside graph) (take (index + 1) graph) ≡ true
one_more_inside graph index p at this before =
    let read : get_or graph index p ≡ p = get_or_from_slice_get graph index p p at in
    list_all_more (inside graph) graph index p (slice_get_within graph index p at)
    ∙ ap (λ (b : Bool). b && inside graph (get_or graph index p)) before
    ∙ ap (inside graph) read ∙ this

-- A graph whose blocks all lead inside is whole if its entry is there.
pub all_inside : (graph : List Pair) (entry : BlockId) (index : ℕ) → length graph ≤ index
    → list_all (inside graph) (take index graph) ≡ true → has_block graph entry ≡ true → IsWhole graph entry
all_inside graph entry index end all there =
    record {
      entry_there = there;
      leads = λ id block at.
          let found = place_from_lookup (same_id id) graph block at in
          in_all (inside graph) graph found.0 (found.1, block) (ap (list_all (inside graph)) (sym (take_all index graph end)) ∙ all) found.2;
    }

-- A graph with a block that leads outside is not whole.
pub not_inside : (graph : List Pair) (entry : BlockId) (index : ℕ) (p : Pair) → HaveOwnIds graph → slice_get graph index ≡ Some p → inside graph p ≡ false → IsWhole graph entry → ⊥
not_inside graph entry index p own at outside whole =
    true≢false (sym (whole.leads p.0 p.1 (block_there graph index p own at)) ∙ outside)

-- Listed instructions lie in a table of this length.
abbrev pub Within : ℕ → Pair → Type 0
Within table p = All (λ (id : InstructionId). id.0 < table) p.1.instructions

module _ (table : ℕ) (graph : List Pair) (index : ℕ) (p : Pair) (at : slice_get graph index ≡ Some p) (listed : List InstructionId) (is : listed ≡ p.1.instructions) where
  within_index : Within table p → All (λ (id : InstructionId). id.0 < table) listed
  within_index h = subst (λ (ids : List InstructionId). All (λ (id : InstructionId). id.0 < table) ids) (sym is) h

  index_within : All (λ (id : InstructionId). id.0 < table) listed → Within table p
  index_within h = subst (λ (ids : List InstructionId). All (λ (id : InstructionId). id.0 < table) ids) is h

  orders_taken : orders_of (drop index graph) ≡ length listed + 1 + orders_of (drop (index + 1) graph)
  orders_taken = rw is (ap orders_of (drop_pair graph index p at))

  pub one_more_within : All (λ (id : InstructionId). id.0 < table) listed → All (Within table) (take index graph) → All (Within table) (take (index + 1) graph)
  one_more_within this before =
      All-more (Within table) graph index p (slice_get_within graph index p at) before
      (subst (Within table) (sym (get_or_from_slice_get graph index p p at)) (index_within this))

  pub one_more_order : (count : ℕ) → count + orders_of (drop index graph) ≡ orders_of graph → count + (length listed + 1) + orders_of (drop (index + 1) graph) ≡ orders_of graph
  one_more_order count sum = let taken = orders_taken in omega (arith, taken, sum)

  -- Instructions outside the table rule it out that all are within.
  pub not_within : (All (λ (id : InstructionId). id.0 < table) listed → ⊥) → HaveOrders table graph → ⊥
  not_within none have =
      none (within_index (subst (Within table) (get_or_from_slice_get graph index p p at) (All-get_or (Within table) graph index p (slice_get_within graph index p at) have.within)))

  -- Too many instructions rule it out that there is an order for each.
  pub no_room : (count : ℕ) → count + orders_of (drop index graph) ≡ orders_of graph → 2 ^ 32 ≤ count + (length listed + 1) → HaveOrders table graph → ⊥
  no_room count sum full have = let taken = orders_taken in let room = have.room in omega (arith, taken, sum, full, room)

-- At the end of the blocks all were looked at.
pub all_orders : (table : ℕ) (graph : List Pair) (index count : ℕ) → length graph ≤ index → All (Within table) (take index graph)
    → count + orders_of (drop index graph) ≡ orders_of graph → count < 2 ^ 32 → HaveOrders table graph
all_orders table graph index count end within sum room =
    let none : orders_of (drop index graph) ≡ 0 = ap orders_of (drop_all index graph end) in
    record {
      within = subst (All (Within table)) (take_all index graph end) within;
      room = omega (arith, none, sum, room);
    }
