-- The listings of blocks in a row.
use Rattle.std.proofs.Common.{◌≡◌, ℕ, zero, suc, ◌+◌, Bool, true, List, [], ◌∷◌, ◌++◌, drop, map, slice_get, Some, refl, sym, ap, ◌∙◌, append_assoc, subst, arith}
use Rattle.rl_hir.specs.Blocks.{Pair}
use Rattle.rl_hir.specs.Listing.{block}
use Rattle.rl_text.specs.Notation.{Parts, End, Then, AreWritable, IsWritable, spelling}
use Rattle.rl_text.specs.Raw.{parts_of}
use Rattle.rl_text.specs.Spaced.{gap, separated, spaced}

-- The pair at an index stands in front of those behind it.
drop_at : (pairs : List Pair) (index : ℕ) (p : Pair) → slice_get pairs index ≡ Some p → drop index pairs ≡ p ∷ drop (index + 1) pairs
drop_at [] index p at = absurd (cc)
drop_at (x ∷ pairs) zero p at = let same : x ≡ p = cc in ap (λ (y : Pair). y ∷ pairs) same
drop_at (x ∷ pairs) (suc index) p at =
    let next : suc (index + 1) ≡ suc index + 1 = omega arith in
    drop_at pairs index p at ∙ ap (λ (n : ℕ). p ∷ drop n (x ∷ pairs)) next

separated_true : (parts : Parts) → separated true parts ≡ spaced parts
separated_true End = refl
separated_true (Then first rest) = refl

abbrev trees : List Pair → Parts
trees pairs = parts_of (map block pairs)

-- A further block is written, with the gap in front of it.
pub block_written : (old gapped new all : List ℕ) (apart : Bool) (pairs : List Pair) (index : ℕ) (p : Pair) → slice_get pairs index ≡ Some p
    → gapped ≡ old ++ gap apart → new ≡ gapped ++ spelling (block p) → old ++ separated apart (trees (drop index pairs)) ≡ all
    → new ++ separated true (trees (drop (index + 1) pairs)) ≡ all
block_written old gapped new all apart pairs index p at is_gapped is_new before =
    let rest : List ℕ = spaced (trees (drop (index + 1) pairs)) in
    ap (λ (l : List ℕ). new ++ l) (separated_true (trees (drop (index + 1) pairs)))
    ∙ ap (λ (l : List ℕ). l ++ rest) (is_new ∙ ap (λ (l : List ℕ). l ++ spelling (block p)) is_gapped)
    ∙ append_assoc (old ++ gap apart) (spelling (block p)) rest
    ∙ append_assoc old (gap apart) (spelling (block p) ++ rest)
    ∙ ap (λ (l : List Pair). old ++ separated apart (trees l)) (sym (drop_at pairs index p at))
    ∙ before

pub block_writable : (pairs : List Pair) (index : ℕ) (p : Pair) → slice_get pairs index ≡ Some p → IsWritable (block p)
    → AreWritable (trees (drop (index + 1) pairs)) → AreWritable (trees (drop index pairs))
block_writable pairs index p at first rest = subst (λ (l : List Pair). AreWritable (trees l)) (sym (drop_at pairs index p at)) (first, rest)
