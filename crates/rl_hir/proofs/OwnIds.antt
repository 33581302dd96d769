-- Every move of blocks keeps their ids distinct.
use Rattle.std.proofs.Common.{◌≡◌, ℕ, zero, suc, Bool, true, false, ◌⊎◌, inl, inr, List, [], ◌∷◌, slice_get, Some, refl, sym, ap, subst, eq-eqb}
use Rattle.rl_base.proofs.DistinctLists.{IsIn, in_tail, distinct_none, distinct_cons, distinct_tail, distinct_head}
use Rattle.rl_base.specs.Distinct.{AreDistinct}
use Rattle.rl_base.specs.declared.ids.BlockId.{BlockId}
use Rattle.rl_hir.specs.Blocks.{Pair, HaveOwnIds, ids, same_id, with_block, with_block_at, without_block}
use Rattle.rl_hir.specs.declared.function.BasicBlock.{BasicBlock}

pub none : HaveOwnIds []
none = distinct_none

-- An id among those with one block more is the new one or one of the old ones.
in_more : (pairs : List Pair) (id : BlockId) (block : BasicBlock) (other : ℕ) → IsIn (ids (with_block pairs id block)) other → (other ≡ id.0) ⊎ IsIn (ids pairs) other
in_more [] id block other h = inl (only h.index h.found)
  where
    only : (index : ℕ) → slice_get (id.0 ∷ []) index ≡ Some other → other ≡ id.0
    only zero e = cc
    only (suc index) e = absurd (cc)
in_more (p ∷ pairs) id block other h = by_head (same_id id p.0) refl (λ r. in_more pairs id block other r) h
  where
    tails : (other ≡ id.0) ⊎ IsIn (ids pairs) other → (other ≡ id.0) ⊎ IsIn (ids (p ∷ pairs)) other
    tails e = elim e [ inl l ↦ inl l | inr r ↦ inr (in_tail p.0.0 (ids pairs) other r) ]

    by_index : (index : ℕ) → slice_get (p.0.0 ∷ ids (with_block pairs id block)) index ≡ Some other → (IsIn (ids (with_block pairs id block)) other → (other ≡ id.0) ⊎ IsIn (ids pairs) other)
        → (other ≡ id.0) ⊎ IsIn (ids (p ∷ pairs)) other
    by_index zero e rest = inr (record { index = 0; found = e })
    by_index (suc index) e rest = tails (rest (record { index = index; found = e }))

    by_head : (b : Bool) → same_id id p.0 ≡ b → (IsIn (ids (with_block pairs id block)) other → (other ≡ id.0) ⊎ IsIn (ids pairs) other)
        → IsIn (ids (with_block (p ∷ pairs) id block)) other → (other ≡ id.0) ⊎ IsIn (ids (p ∷ pairs)) other
    by_head true e rest i = inr (let i1 = rw e at i in i1)
    by_head false e rest i = let i1 = rw e at i in by_index i1.index i1.found rest

pub put : (pairs : List Pair) (id : BlockId) (block : BasicBlock) → HaveOwnIds pairs → HaveOwnIds (with_block pairs id block)
put [] id block own = distinct_cons id.0 [] (λ h. absurd (let never : slice_get {X = ℕ} [] h.index ≡ Some id.0 = h.found in cc)) distinct_none
put (p ∷ pairs) id block own = by_head (same_id id p.0) refl (put pairs id block (distinct_tail p.0.0 (ids pairs) own))
  where
    by_head : (b : Bool) → same_id id p.0 ≡ b → HaveOwnIds (with_block pairs id block) → HaveOwnIds (with_block (p ∷ pairs) id block)
    by_head true e rest = rw e own
    by_head false e rest = rw e (distinct_cons p.0.0 (ids (with_block pairs id block)) fresh rest)
      where
        fresh : IsIn (ids (with_block pairs id block)) p.0.0 → ⊥
        fresh h = elim (in_more pairs id block p.0.0 h) [
          | inl same ↦ (let bad : same_id id p.0 ≡ true = eq-eqb id.0 p.0.0 (sym same) in cc)
          | inr there ↦ distinct_head p.0.0 (ids pairs) own there
        ]

-- An id among those without a block is one of the old ones.
pub in_fewer : (pairs : List Pair) (id : BlockId) (other : ℕ) → IsIn (ids (without_block pairs id)) other → IsIn (ids pairs) other
in_fewer [] id other h = h
in_fewer (p ∷ pairs) id other h = by_head (same_id id p.0) refl (λ r. in_fewer pairs id other r) h
  where
    by_index : (index : ℕ) → slice_get (p.0.0 ∷ ids (without_block pairs id)) index ≡ Some other → (IsIn (ids (without_block pairs id)) other → IsIn (ids pairs) other) → IsIn (ids (p ∷ pairs)) other
    by_index zero e rest = record { index = 0; found = e }
    by_index (suc index) e rest = in_tail p.0.0 (ids pairs) other (rest (record { index = index; found = e }))

    by_head : (b : Bool) → same_id id p.0 ≡ b → (IsIn (ids (without_block pairs id)) other → IsIn (ids pairs) other)
        → IsIn (ids (without_block (p ∷ pairs) id)) other → IsIn (ids (p ∷ pairs)) other
    by_head true e rest i = let i1 = rw e at i in in_tail p.0.0 (ids pairs) other i1
    by_head false e rest i = let i1 = rw e at i in by_index i1.index i1.found rest

pub removed : (pairs : List Pair) (id : BlockId) → HaveOwnIds pairs → HaveOwnIds (without_block pairs id)
removed [] id own = own
removed (p ∷ pairs) id own = by_head (same_id id p.0) refl (removed pairs id (distinct_tail p.0.0 (ids pairs) own))
  where
    by_head : (b : Bool) → same_id id p.0 ≡ b → HaveOwnIds (without_block pairs id) → HaveOwnIds (without_block (p ∷ pairs) id)
    by_head true e rest = rw e (distinct_tail p.0.0 (ids pairs) own)
    by_head false e rest = rw e (distinct_cons p.0.0 (ids (without_block pairs id)) (λ h. distinct_head p.0.0 (ids pairs) own (in_fewer pairs id p.0.0 h)) rest)

pub same_ids : (pairs : List Pair) (index : ℕ) (block : BasicBlock) → ids (with_block_at pairs index block) ≡ ids pairs
same_ids [] index block = refl
same_ids (p ∷ pairs) zero block = refl
same_ids (p ∷ pairs) (suc index) block = ap (λ (t : List ℕ). p.0.0 ∷ t) (same_ids pairs index block)

pub replaced : (pairs : List Pair) (index : ℕ) (block : BasicBlock) → HaveOwnIds pairs → HaveOwnIds (with_block_at pairs index block)
replaced pairs index block own = subst AreDistinct (sym (same_ids pairs index block)) own
