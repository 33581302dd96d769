-- Blocks with distinct ids are their own table.
use Rattle.std.proofs.Common.{◌≡◌, ℕ, zero, suc, Some, slice_get, ◌++◌, inl, inr, Bool, true, false, List, [], ◌∷◌, fold, refl, sym, ap, ◌∙◌, subst, append-nil}
use Rattle.std.proofs.Common.{append_assoc}
use Rattle.rl_base.proofs.DistinctLists.{IsIn, distinct_head, distinct_tail, in_either, in_head, in_none, in_tail}
use Rattle.rl_base.specs.declared.ids.BlockId.{BlockId}
use Rattle.rl_builder.specs.Build.{table_of}
use Rattle.rl_hir.specs.Blocks.{HaveOwnIds, Pair, ids, same_id, with_block}
use Rattle.rl_hir.specs.declared.function.BasicBlock.{BasicBlock}
use Rattle.rl_order.proofs.Follows.{one_id}

-- A list of one element has no other.
in_one : (a b : ℕ) → IsIn (a ∷ []) b → b ≡ a
in_one a b h = by_index h.index h.found
  where
    by_index : (index : ℕ) → slice_get (a ∷ []) index ≡ Some b → b ≡ a
    by_index zero found = cc
    by_index (suc index) found = absurd (cc)

put_last : (pairs : List Pair) (id : BlockId) (block : BasicBlock) → (IsIn (ids pairs) id.0 → ⊥)
    → with_block pairs id block ≡ pairs ++ (id, block) ∷ []
put_last [] id block none = refl
put_last (p ∷ pairs) id block none =
    by_test (same_id id p.0) refl (put_last pairs id block (λ h. none (in_tail p.0.0 (ids pairs) id.0 h)))
  where
    by_test : (b : Bool) → same_id id p.0 ≡ b → with_block pairs id block ≡ pairs ++ (id, block) ∷ []
        → with_block (p ∷ pairs) id block ≡ p ∷ pairs ++ (id, block) ∷ []
    by_test true is rest =
        absurd (none (subst (λ (x : BlockId). IsIn (p.0.0 ∷ ids pairs) x.0) (sym (one_id id p.0 is)) (in_head p.0.0 (ids pairs))))
    by_test false is rest = rw is (ap (λ (t : List Pair). p ∷ t) rest)

table_more : (done pairs : List Pair) → HaveOwnIds (done ++ pairs)
    → fold (λ table p. with_block table p.0 p.1) done pairs ≡ done ++ pairs
table_more done [] own = sym (append-nil done)
table_more done (p ∷ pairs) own =
    ap (λ (t : List Pair). fold (λ table q. with_block table q.0 q.1) t pairs) (put_last done p.0 p.1 (apart done own))
    ∙ table_more (done ++ p ∷ []) pairs (subst HaveOwnIds (sym (append_assoc done (p ∷ []) pairs)) own)
    ∙ append_assoc done (p ∷ []) pairs
  where
    apart : (first : List Pair) → HaveOwnIds (first ++ p ∷ pairs) → IsIn (ids first) p.0.0 → ⊥
    apart [] own h = absurd (in_none p.0.0 h)
    apart (q ∷ first) own h = elim (in_either (q.0.0 ∷ []) (ids first) p.0.0 h) [
      | inl here ↦ distinct_head q.0.0 (ids (first ++ p ∷ pairs)) own (subst (λ (n : ℕ). IsIn (ids (first ++ p ∷ pairs)) n) (in_one q.0.0 p.0.0 here) (there first))
      | inr later ↦ apart first (distinct_tail q.0.0 (ids (first ++ p ∷ pairs)) own) later
    ]
      where
        there : (front : List Pair) → IsIn (ids (front ++ p ∷ pairs)) p.0.0
        there [] = in_head p.0.0 (ids pairs)
        there (x ∷ front) = in_tail x.0.0 (ids (front ++ p ∷ pairs)) p.0.0 (there front)

pub table_same : (pairs : List Pair) → HaveOwnIds pairs → table_of pairs ≡ pairs
table_same pairs own = table_more [] pairs own
