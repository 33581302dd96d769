-- The expansions that a walk may still make, and the tasks that they add.
use Rattle.std.proofs.Common.{◌≡◌, ℕ, ◌+◌, ◌*◌, ◌≤◌, eq-eqb, eqb-true, Bool, true, false, cond, not, ◌||◌, true≢false, Option, Some, None, List, [], ◌∷◌, length, refl, sym, ap, ◌∙◌, arith}
use Rattle.std.specs.Map.{lookup}
use Rattle.indexmap.specs.IndexMap.{insert_entry}
use Rattle.rl_base.specs.declared.ids.BlockId.{BlockId}
use Rattle.rl_hir.specs.Blocks.{Pair, block_at, same_id}
use Rattle.rl_hir.specs.declared.function.BasicBlock.{BasicBlock}
use Rattle.rl_order.proofs.Lookups.{lookup_inserted}

-- `weight n seen`: `n` for each expansion that a block may still have.
abbrev pub weight : ℕ → Option Bool → ℕ
weight n None = n + n
weight n (Some false) = n
weight n (Some true) = 0

-- `total price graph seen`: the sum of the prices of blocks, for each expansion that each may still have.
abbrev pub total : (BasicBlock → ℕ) → List Pair → List (BlockId × Bool) → ℕ
total price [] seen = 0
total price (p ∷ graph) seen = weight (price p.1) (lookup (same_id p.0) seen) + total price graph seen

-- True of a visit, as used or not, that is passed over.
abbrev pub passes : Bool → Option Bool → Bool
passes used (Some before) = before || not used
passes used None = false

-- A visit that is not passed over takes an expansion of its block.
weight_falls : (n : ℕ) (used : Bool) (before : Option Bool) → passes used before ≡ false
    → weight n (Some used) + n ≤ weight n before
weight_falls n used (Some true) h = absurd (true≢false h)
weight_falls n true (Some false) h = omega arith
weight_falls n false (Some false) h = absurd (true≢false h)
weight_falls n true None h = omega arith
weight_falls n false None h = omega arith

weight_stays : (n : ℕ) (b used : Bool) (before : Option Bool) → (b ≡ true → passes used before ≡ false)
    → weight n (cond b (Some used) before) ≤ weight n before
weight_stays n false used before h = omega arith
weight_stays n true used before h = let falls = weight_falls n used before (h refl) in omega arith

-- A look-up of the id of a pair finds what one of the same id does.
at_same : (id other : BlockId) (seen : List (BlockId × Bool)) → same_id other id ≡ true
    → lookup (same_id other) seen ≡ lookup (same_id id) seen
at_same id other seen h = ap (λ n. lookup (same_id (record { 0 = n })) seen) (eqb-true other.0 id.0 h)

pub total_stays : (price : BasicBlock → ℕ) (graph : List Pair) (seen : List (BlockId × Bool)) (id : BlockId) (used : Bool)
    → passes used (lookup (same_id id) seen) ≡ false
    → total price graph (insert_entry same_id seen id used) ≤ total price graph seen
total_stays price [] seen id used h = omega arith
total_stays price (p ∷ graph) seen id used h =
    let rest = total_stays price graph seen id used h in
    let here = weight_stays (price p.1) (same_id p.0 id) used (lookup (same_id p.0) seen)
    (λ s. ap (λ o. passes used o) (at_same id p.0 seen s) ∙ h) in
    let now = ap (weight (price p.1)) (lookup_inserted p.0 id used seen) in
    omega (arith, rest, here, now)

pub total_falls : (price : BasicBlock → ℕ) (graph : List Pair) (seen : List (BlockId × Bool)) (id : BlockId) (used : Bool)
    (block : BasicBlock)
    → passes used (lookup (same_id id) seen) ≡ false → block_at graph id ≡ Some block
    → total price graph (insert_entry same_id seen id used) + price block ≤ total price graph seen
total_falls price [] seen id used block h at = absurd (cc)
total_falls price (p ∷ graph) seen id used block h at =
    by_head (same_id id p.0) refl (total_falls price graph seen id used block h)
  where
    by_head : (b : Bool) → same_id id p.0 ≡ b
        → (block_at graph id ≡ Some block → total price graph
        (insert_entry same_id seen id used) + price block ≤ total price graph seen)
        → total price (p ∷ graph) (insert_entry same_id seen id used) + price block ≤ total price (p ∷ graph) seen
    by_head true is rest =
        let at' = rw is at at in
        let same : p.1 ≡ block = cc in
        let price_same = ap price same in
        let back = eq-eqb p.0.0 id.0 (sym (eqb-true id.0 p.0.0 is)) in
        let now = ap (weight (price p.1))
        (lookup_inserted p.0 id used seen ∙ ap (λ b. cond b (Some used) (lookup (same_id p.0) seen)) back) in
        let before = at_same id p.0 seen back in
        let falls = weight_falls (price p.1) used (lookup (same_id p.0) seen) (ap (λ o. passes used o) before ∙ h) in
        let others = total_stays price graph seen id used h in
        omega (arith, price_same, now, falls, others)
    by_head false is rest =
        let at' = rw is at at in
        let others = rest at' in
        let here = weight_stays (price p.1) (same_id p.0 id) used (lookup (same_id p.0) seen)
        (λ s. ap (λ o. passes used o) (at_same id p.0 seen s) ∙ h) in
        let now = ap (weight (price p.1)) (lookup_inserted p.0 id used seen) in
        omega (arith, others, here, now)

-- At the begin each block may have two expansions.
pub total_none : (graph : List Pair) → total (λ block. 1) graph [] ≡ 2 * length graph
total_none [] = refl
total_none (p ∷ graph) = let rest = total_none graph in omega (arith, rest)
