-- Look-ups by id after a block was visited.
use Rattle.std.proofs.Common.{◌≡◌, Bool, true, false, cond, nat_eq, true≢false, Some, List, [], ◌∷◌, refl, sym, ap, ◌∙◌, eq-eqb, eqb-true}
use Rattle.std.specs.Map.{lookup}
use Rattle.indexmap.specs.IndexMap.{insert_entry}
use Rattle.rl_base.specs.declared.ids.BlockId.{BlockId}
use Rattle.rl_hir.specs.Blocks.{same_id}

-- An id is the same as one of two that are the same exactly if it is the same as the other.
pub same_as : (other a b : BlockId) → same_id a b ≡ true → same_id other b ≡ same_id other a
same_as other a b h = ap (λ n. nat_eq other.0 n) (sym (eqb-true a.0 b.0 h))

pub lookup_inserted : (other id : BlockId) (used : Bool) (seen : List (BlockId × Bool))
    → lookup (same_id other) (insert_entry same_id seen id used) ≡ cond (same_id other id) (Some used)
    (lookup (same_id other) seen)
lookup_inserted other id used [] = refl
lookup_inserted other id used (e ∷ seen) = by_head (same_id id e.0) refl (lookup_inserted other id used seen)
  where
    replaced : (b : Bool)
        → cond b (Some used) (lookup (same_id other) seen) ≡ cond b (Some used) (cond b (Some e.1) (lookup (same_id other) seen))
    replaced true = refl
    replaced false = refl

    passed : (b c : Bool) → same_id other e.0 ≡ b → same_id other id ≡ c → same_id id e.0 ≡ false
        → cond b (Some e.1) (cond c (Some used) (lookup (same_id other) seen)) ≡ cond c (Some used)
        (cond b (Some e.1) (lookup (same_id other) seen))
    passed true true at is differ =
        absurd (true≢false (sym (eq-eqb id.0 e.0.0 (sym (eqb-true other.0 id.0 is) ∙ eqb-true other.0 e.0.0 at)) ∙ differ))
    passed true false at is differ = refl
    passed false c at is differ = refl

    by_head : (b : Bool) → same_id id e.0 ≡ b
        → lookup (same_id other) (insert_entry same_id seen id used) ≡ cond (same_id other id) (Some used)
        (lookup (same_id other) seen)
        → lookup (same_id other) (insert_entry same_id (e ∷ seen) id used) ≡ cond (same_id other id) (Some used)
        (lookup (same_id other) (e ∷ seen))
    by_head true h rest = let same = same_as other id e.0 h in rw (h, same) (replaced (same_id other id))
    by_head false h rest = rw (h, rest) (passed (same_id other e.0) (same_id other id) refl refl h)
