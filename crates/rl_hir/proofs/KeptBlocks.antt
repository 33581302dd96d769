-- Blocks that stay when those with listed ids are taken out.
use Rattle.std.proofs.Common.{◌≡◌, ℕ, zero, suc, Bool, true, false, List, [], ◌∷◌, slice_get, Some, refl, sym, ap, ◌∙◌, subst, eqb-true, eq-eqb}
use Rattle.std.specs.List.{list_any}
use Rattle.rl_base.proofs.DistinctLists.{IsIn, in_head, in_tail, distinct_none, distinct_cons, distinct_tail, distinct_head}
use Rattle.rl_base.specs.declared.ids.BlockId.{BlockId}
use Rattle.rl_hir.specs.Blocks.{Pair, HaveOwnIds, ids, kept, same_id, without_block}

-- All blocks stay where no ids are listed.
pub kept_all : (pairs : List Pair) → kept [] pairs ≡ pairs
kept_all [] = refl
kept_all (p ∷ pairs) = ap (λ (t : List Pair). p ∷ t) (kept_all pairs)

-- An id that no block has takes out no block.
absent : (lost : List BlockId) (id : BlockId) (pairs : List Pair) → (IsIn (ids pairs) id.0 → ⊥) → kept (id ∷ lost) pairs ≡ kept lost pairs
absent lost id [] none = refl
absent lost id (p ∷ pairs) none = by_id (same_id p.0 id) refl (absent lost id pairs (λ h. none (in_tail p.0.0 (ids pairs) id.0 h)))
  where
    by_lost : (b : Bool) → list_any (same_id p.0) lost ≡ b → same_id p.0 id ≡ false → kept (id ∷ lost) pairs ≡ kept lost pairs → kept (id ∷ lost) (p ∷ pairs) ≡ kept lost (p ∷ pairs)
    by_lost true h e rest = rw (e, h) rest
    by_lost false h e rest = rw (e, h) (ap (λ (t : List Pair). p ∷ t) rest)

    by_id : (b : Bool) → same_id p.0 id ≡ b → kept (id ∷ lost) pairs ≡ kept lost pairs → kept (id ∷ lost) (p ∷ pairs) ≡ kept lost (p ∷ pairs)
    by_id true e rest = absurd (none (subst (λ (n : ℕ). IsIn (p.0.0 ∷ ids pairs) n) (eqb-true p.0.0 id.0 e) (in_head p.0.0 (ids pairs))))
    by_id false e rest = by_lost (list_any (same_id p.0) lost) refl e rest

-- The block with `id` taken out first, and those with the ids `lost` after it: all blocks with the ids `id ∷ lost` are out.
pub first_out : (lost : List BlockId) (id : BlockId) (pairs : List Pair) → HaveOwnIds pairs → kept lost (without_block pairs id) ≡ kept (id ∷ lost) pairs
first_out lost id [] own = refl
first_out lost id (p ∷ pairs) own = by_id (same_id id p.0) refl (first_out lost id pairs (distinct_tail p.0.0 (ids pairs) own))
  where
    flipped : same_id id p.0 ≡ false → (b : Bool) → same_id p.0 id ≡ b → same_id p.0 id ≡ false
    flipped e true h = absurd (let hit : same_id id p.0 ≡ true = eq-eqb id.0 p.0.0 (sym (eqb-true p.0.0 id.0 h)) in let never : true ≡ false = sym hit ∙ e in cc)
    flipped e false h = h

    by_lost : (b : Bool) → list_any (same_id p.0) lost ≡ b → same_id id p.0 ≡ false → same_id p.0 id ≡ false → kept lost (without_block pairs id) ≡ kept (id ∷ lost) pairs
        → kept lost (without_block (p ∷ pairs) id) ≡ kept (id ∷ lost) (p ∷ pairs)
    by_lost true h e other rest = rw (e, other, h) rest
    by_lost false h e other rest = rw (e, other, h) (ap (λ (t : List Pair). p ∷ t) rest)

    by_id : (b : Bool) → same_id id p.0 ≡ b → kept lost (without_block pairs id) ≡ kept (id ∷ lost) pairs → kept lost (without_block (p ∷ pairs) id) ≡ kept (id ∷ lost) (p ∷ pairs)
    by_id true e rest =
        let same : id.0 ≡ p.0.0 = eqb-true id.0 p.0.0 e in
        let back : same_id p.0 id ≡ true = eq-eqb p.0.0 id.0 (sym same) in
        rw (e, back) (sym (absent lost id pairs (λ h. distinct_head p.0.0 (ids pairs) own (subst (λ (n : ℕ). IsIn (ids pairs) n) same h))))
    by_id false e rest = by_lost (list_any (same_id p.0) lost) refl e (flipped e (same_id p.0 id) refl) rest

-- An id of a block that stays is an id of the old blocks.
pub in_kept : (lost : List BlockId) (pairs : List Pair) (other : ℕ) → IsIn (ids (kept lost pairs)) other → IsIn (ids pairs) other
in_kept lost [] other h = h
in_kept lost (p ∷ pairs) other h = by_lost (list_any (same_id p.0) lost) refl (in_kept lost pairs other) h
  where
    by_index : (index : ℕ) → slice_get (p.0.0 ∷ ids (kept lost pairs)) index ≡ Some other → (IsIn (ids (kept lost pairs)) other → IsIn (ids pairs) other) → IsIn (ids (p ∷ pairs)) other
    by_index zero e rest = record { index = 0; found = e }
    by_index (suc index) e rest = in_tail p.0.0 (ids pairs) other (rest (record { index = index; found = e }))

    by_lost : (b : Bool) → list_any (same_id p.0) lost ≡ b → (IsIn (ids (kept lost pairs)) other → IsIn (ids pairs) other) → IsIn (ids (kept lost (p ∷ pairs))) other → IsIn (ids (p ∷ pairs)) other
    by_lost true e rest i = let i1 = rw e at i in in_tail p.0.0 (ids pairs) other (rest i1)
    by_lost false e rest i = let i1 = rw e at i in by_index i1.index i1.found rest

-- Blocks that stay have ids of their own.
pub kept_own : (lost : List BlockId) (pairs : List Pair) → HaveOwnIds pairs → HaveOwnIds (kept lost pairs)
kept_own lost [] own = distinct_none
kept_own lost (p ∷ pairs) own = by_lost (list_any (same_id p.0) lost) refl (kept_own lost pairs (distinct_tail p.0.0 (ids pairs) own))
  where
    by_lost : (b : Bool) → list_any (same_id p.0) lost ≡ b → HaveOwnIds (kept lost pairs) → HaveOwnIds (kept lost (p ∷ pairs))
    by_lost true e rest = rw e rest
    by_lost false e rest = rw e (distinct_cons p.0.0 (ids (kept lost pairs)) (λ h. distinct_head p.0.0 (ids pairs) own (in_kept lost pairs p.0.0 h)) rest)
