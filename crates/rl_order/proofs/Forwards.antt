-- The edges of the blocks that are kept.
use Rattle.std.proofs.Common.{◌≡◌, ℕ, zero, suc, ◌<◌, Bool, true, false, ◌⊎◌, inl, inr, true≢false, Option, Some, None, List, [], ◌∷◌, ◌++◌, reverse, slice_get, refl, sym, ap, ◌∙◌, subst, arith, Result, Ok, Err, IfOk}
use Rattle.std.specs.List.{list_any}
use Rattle.rl_base.specs.declared.ids.BlockId.{BlockId}
use Rattle.rl_hir.specs.Blocks.{Pair, block_at, same_id}
use Rattle.rl_hir.specs.Terminals.{fallthrough, listed_id, successor_ids}
use Rattle.rl_hir.specs.declared.function.BasicBlock.{BasicBlock}
use Rattle.rl_order.proofs.Ordering.{Forward, any_append, walked_good, or_left, or_right, same_self}
use Rattle.rl_order.specs.Forward.{GoesForward, Leads, Leaves, OnCycle, Reaches, Stays}
use Rattle.rl_order.specs.Walk.{Walk, WalksFrom, emptied, is_noted, is_used, kept, kept_block}

-- All that is kept of a block, if that is one block.
record OneKept (graph : List Pair) (id : BlockId) (part : List Pair) : Type 0 where
  block : BasicBlock
  is : part ≡ (id, block) ∷ []
  leads : (to : BlockId) → list_any (same_id to) (successor_ids block.terminal) ≡ true → Leads graph id to

abbrev part_of : List Pair → Walk → BlockId → List Pair
part_of graph w id = elim (block_at graph id) [ Some block ↦ kept_block w id block | None ↦ [] ]

one_or_none : (graph : List Pair) (w : Walk) (id : BlockId) → (part_of graph w id ≡ []) ⊎ OneKept graph id (part_of graph w id)
one_or_none graph w id = by_found (block_at graph id) refl (is_used w id) refl (is_noted w id) refl
  where
    by_found : (found : Option BasicBlock) → block_at graph id ≡ found → (used : Bool) → is_used w id ≡ used
        → (noted : Bool) → is_noted w id ≡ noted
        → (elim found [ Some block ↦ kept_block w id block | None ↦ [] ] ≡ []) ⊎ OneKept graph id
        (elim found [ Some block ↦ kept_block w id block | None ↦ [] ])
    by_found None there used u noted n = inl refl
    by_found (Some block) there true u noted n =
        inr (record {
          block = block;
          is = rw u refl;
          leads =
              λ to h. record {
                block = block;
                there = there;
                leads = any_append (same_id to)
                    (listed_id (fallthrough block.terminal)) (successor_ids block.terminal) ∙ or_right
                    (list_any (same_id to) (listed_id (fallthrough block.terminal)))
                    (list_any (same_id to) (successor_ids block.terminal)) h;
              };
        })
    by_found (Some block) there false u true n =
        inr (record {
          block = emptied block;
          is = rw (u, n) refl;
          leads = λ to h. absurd (true≢false (sym h));
        })
    by_found (Some block) there false u false n = inl (rw (u, n) refl)

-- A kept block stands among the ids, and its successors are those of the graph.
record Entry (graph : List Pair) (ids : List BlockId) (p : Pair) : Type 0 where
  among : list_any (same_id p.0) ids ≡ true
  leads : (to : BlockId) → list_any (same_id to) (successor_ids p.1.terminal) ≡ true → Leads graph p.0 to

entry_more : (graph : List Pair) (id : BlockId) (ids : List BlockId) (p : Pair) → Entry graph ids p → Entry graph (id ∷ ids) p
entry_more graph id ids p e = record { among = or_right (same_id p.0 id) (list_any (same_id p.0) ids) e.among; leads = e.leads }

entry_first : (graph : List Pair) (id : BlockId) (ids : List BlockId) (part : List Pair) → OneKept graph id part
    → (block : BasicBlock) → part ≡ (id, block) ∷ [] → Entry graph (id ∷ ids) (id, block)
entry_first graph id ids part one block is =
    record {
      among = or_left (same_id id id) (list_any (same_id id) ids) (same_self id);
      leads = λ to h. one.leads to (ap (λ b. list_any (same_id to) (successor_ids b.terminal)) same ∙ h);
    }
  where
    heads : (a b : BasicBlock) → ◌≡◌ {A = List Pair} ((id, a) ∷ []) ((id, b) ∷ []) → a ≡ b
    heads a b e = ap (λ (ps : List Pair). elim ps [ [] ↦ a | q ∷ qs ↦ q.1 ]) e

    same : one.block ≡ block
    same = heads one.block block (sym one.is ∙ is)

kept_entry : (graph : List Pair) (w : Walk) (ids : List BlockId) (i : ℕ) (p : Pair)
    → slice_get (kept graph w ids) i ≡ Some p → Entry graph ids p
kept_entry graph w [] i p h = absurd (cc)
kept_entry graph w (id ∷ ids) i p h = by_part (one_or_none graph w id) (λ i h. kept_entry graph w ids i p h)
  where
    by_part : (part_of graph w id ≡ []) ⊎ OneKept graph id (part_of graph w id)
        → ((i : ℕ) → slice_get (kept graph w ids) i ≡ Some p → Entry graph ids p) → Entry graph (id ∷ ids) p
    by_part (inl none) rest =
        entry_more graph id ids p (rest i (ap (λ (t : List Pair). slice_get (t ++ kept graph w ids) i) (sym none) ∙ h))
    by_part (inr one) rest = by_index i (ap (λ (t : List Pair). slice_get (t ++ kept graph w ids) i) (sym one.is) ∙ h)
      where
        by_index : (i : ℕ) → slice_get ((id, one.block) ∷ kept graph w ids) i ≡ Some p → Entry graph (id ∷ ids) p
        by_index zero e =
            subst (λ q. Entry graph (id ∷ ids) q) (found (id, one.block) p e)
            (entry_first graph id ids (part_of graph w id) one one.block one.is)
          where
            found : (a b : Pair) → Some a ≡ Some b → a ≡ b
            found a b e = ap (λ (o : Option Pair). elim o [ Some x ↦ x | None ↦ a ]) e
        by_index (suc i) e = entry_more graph id ids p (rest i e)

-- The kept blocks of a list whose edges go forward go forward.
pub forward_kept : (graph : List Pair) (w : Walk) (ids : List BlockId) → Forward graph ids
    → GoesForward graph (kept graph w ids)
forward_kept graph w [] f i j from to hi hj h = absurd (cc)
forward_kept graph w (id ∷ ids) f i j from to hi hj h = by_part (one_or_none graph w id) (forward_kept graph w ids f.1)
  where
    some_pair : (a b : Pair) → Some a ≡ Some b → a ≡ b
    some_pair a b e = ap (λ (o : Option Pair). elim o [ Some x ↦ x | None ↦ a ]) e

    by_index : (block : BasicBlock) → (i j : ℕ) → slice_get ((id, block) ∷ kept graph w ids) i ≡ Some from
        → slice_get ((id, block) ∷ kept graph w ids) j ≡ Some to → GoesForward graph (kept graph w ids)
        → (i < j) ⊎ OnCycle graph from.0 to.0
    by_index block zero zero ei ej rest =
        let same : from ≡ to = sym (some_pair (id, block) from ei) ∙ some_pair (id, block) to ej in
        inr (subst (λ q. OnCycle graph from.0 q.0) same (Stays from.0, Stays from.0))
    by_index block zero (suc j) ei ej rest = inl (omega arith)
    by_index block (suc i) zero ei ej rest =
        let first : id ≡ to.0 = ap (λ q. q.0) (some_pair (id, block) to ej) in
        let entry = kept_entry graph w ids i from ei in
        let edge = entry.leads to.0 h in
        inr (
          Leaves from.0 to.0 to.0 edge (Stays to.0),
          subst (λ x. Reaches graph x from.0) first
              (f.0 from.0 entry.among (subst (λ x. Leads graph from.0 x) (sym first) edge)),
        )
    by_index block (suc i) (suc j) ei ej rest =
        elim (rest i j from to ei ej h) [ inl less ↦ inl (omega arith) | inr cycle ↦ inr cycle ]

    by_part : (part_of graph w id ≡ []) ⊎ OneKept graph id (part_of graph w id) → GoesForward graph (kept graph w ids)
        → (i < j) ⊎ OnCycle graph from.0 to.0
    by_part (inl none) rest =
        rest i j from to (ap (λ (t : List Pair). slice_get (t ++ kept graph w ids) i) (sym none) ∙ hi)
        (ap (λ (t : List Pair). slice_get (t ++ kept graph w ids) j) (sym none) ∙ hj) h
    by_part (inr one) rest =
        by_index one.block i j (ap (λ (t : List Pair). slice_get (t ++ kept graph w ids) i) (sym one.is) ∙ hi)
        (ap (λ (t : List Pair). slice_get (t ++ kept graph w ids) j) (sym one.is) ∙ hj) rest

pub if_ok : {T E : Type 0} (r : Result T E) (P Q : T → Type 0) → ((x : T) → P x → Q x) → IfOk r P → IfOk r Q
if_ok (Ok x) P Q f h = f x h
if_ok (Err e) P Q f h = tt

pub ends_forward : (graph : List Pair) (entry : BlockId) (end : Walk) (ordered : List Pair) → WalksFrom graph entry end
    → ordered ≡ kept graph end (reverse end.appended) → GoesForward graph ordered
ends_forward graph entry end ordered walk is =
    subst (λ pairs. GoesForward graph pairs) (sym is)
    (forward_kept graph end (reverse end.appended) (walked_good graph entry end walk).forward)
