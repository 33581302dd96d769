-- Reached blocks are kept whole.
use Rattle.std.proofs.Common.{◌≡◌, Bool, true, false, ◌||◌, ◌⊎◌, true≢false, Option, Some, None, is_some, unwrap_or, List, [], ◌∷◌, ◌++◌, reverse, refl, append-nil, sym, ap, ◌∙◌, subst}
use Rattle.std.specs.List.{list_any}
use Rattle.std.specs.Map.{lookup}
use Rattle.rl_base.specs.declared.ids.BlockId.{BlockId}
use Rattle.rl_hir.specs.Blocks.{Pair, block_at, same_id}
use Rattle.rl_hir.specs.declared.function.BasicBlock.{BasicBlock}
use Rattle.rl_order.proofs.KeptBlocks.{kept_apart}
use Rattle.rl_order.proofs.Ordering.{is_done, same_ids, same_self, walked_opened}
use Rattle.rl_order.proofs.IsUsed.{reached_used}
use Rattle.rl_order.specs.Walk.{KeepsReached, Walk, Walks, WalksFrom, is_used, kept, kept_block}

-- A block that no pair of the first list has is looked up in the second.
block_at_skip : (xs ys : List Pair) (id : BlockId) → block_at xs id ≡ None → block_at (xs ++ ys) id ≡ block_at ys id
block_at_skip [] ys id h = refl
block_at_skip (p ∷ xs) ys id h = by_head (same_id id p.0) refl (λ none. block_at_skip xs ys id none)
  where
    by_head : (b : Bool) → same_id id p.0 ≡ b → (block_at xs id ≡ None → block_at (xs ++ ys) id ≡ block_at ys id)
        → block_at (p ∷ xs ++ ys) id ≡ block_at ys id
    by_head true e rest = let h' = rw e at h in absurd (cc)
    by_head false e rest = let h' = rw e at h in rw e (rest h')

-- A look-up passes over what is kept of another block.
pub kept_skip : (graph : List Pair) (w : Walk) (other : BlockId) (ids : List BlockId) (id : BlockId)
    → same_id id other ≡ false → block_at (kept graph w (other ∷ ids)) id ≡ block_at (kept graph w ids) id
kept_skip graph w other ids id differ =
    block_at_skip (elim (block_at graph other) [ Some block ↦ kept_block w other block | None ↦ [] ]) (kept graph w ids) id
    (ap (λ (t : List Pair). block_at t id)
    (sym (append-nil (elim (block_at graph other) [ Some block ↦ kept_block w other block | None ↦ [] ])))
    ∙ kept_apart graph w other id differ)

-- No block is kept under an id that the graph does not have.
kept_missing : (graph : List Pair) (w : Walk) (ids : List BlockId) (id : BlockId) → block_at graph id ≡ None
    → block_at (kept graph w ids) id ≡ None
kept_missing graph w [] id none = refl
kept_missing graph w (x ∷ ids) id none = by_head (same_id id x) refl (kept_missing graph w ids id none)
  where
    here : block_at (kept graph w ids) id ≡ None → block_at (kept graph w (id ∷ ids)) id ≡ None
    here rest = rw none rest

    by_head : (b : Bool) → same_id id x ≡ b → block_at (kept graph w ids) id ≡ None
        → block_at (kept graph w (x ∷ ids)) id ≡ None
    by_head true e rest = subst (λ y. block_at (kept graph w (y ∷ ids)) id ≡ None) (same_ids id x e) (here rest)
    by_head false e rest = kept_skip graph w x ids id e ∙ rest

-- A used block among the ids is kept as it is.
kept_whole : (graph : List Pair) (w : Walk) (ids : List BlockId) (id : BlockId) → list_any (same_id id) ids ≡ true
    → is_used w id ≡ true → block_at (kept graph w ids) id ≡ block_at graph id
kept_whole graph w [] id among used = absurd (true≢false (sym among))
kept_whole graph w (x ∷ ids) id among used = by_head (same_id id x) refl (λ there. kept_whole graph w ids id there used)
  where
    here : (found : Option BasicBlock) → block_at graph id ≡ found → block_at (kept graph w (id ∷ ids)) id ≡ found
    here None none = kept_missing graph w (id ∷ ids) id none
    here (Some block) there = let self = same_self id in rw (there, used, self) refl

    by_head : (b : Bool) → same_id id x ≡ b
        → (list_any (same_id id) ids ≡ true → block_at (kept graph w ids) id ≡ block_at graph id)
        → block_at (kept graph w (x ∷ ids)) id ≡ block_at graph id
    by_head true e rest =
        subst (λ y. block_at (kept graph w (y ∷ ids)) id ≡ block_at graph id) (same_ids id x e) (here (block_at graph id) refl)
    by_head false e rest = kept_skip graph w x ids id e ∙ rest (sym (ap (λ b. b || list_any (same_id id) ids) e) ∙ among)

-- A used block was appended when the walk has ended.
pub used_done : (graph : List Pair) (entry : BlockId) (end : Walk) → WalksFrom graph entry end → (id : BlockId)
    → is_used end id ≡ true → is_done end id ≡ true
used_done graph entry end walk id used = by_done (is_done end id) refl
  where
    seen_by : (found : Option Bool) → unwrap_or found false ≡ true → is_some found ≡ true
    seen_by (Some u) h = refl
    seen_by None h = h

    by_done : (b : Bool) → is_done end id ≡ b → is_done end id ≡ true
    by_done true e = e
    by_done false e =
        absurd (true≢false (sym (walked_opened graph entry end walk id
        (record { seen = seen_by (lookup (same_id id) end.seen) used; undone = e })).seen))

pub keeps_reached : (graph : List Pair) (entry : BlockId) (end : Walk) → WalksFrom graph entry end
    → KeepsReached graph entry (kept graph end (reverse end.appended))
keeps_reached graph entry end walk id reached =
    let used = reached_used graph entry end walk id reached in
    kept_whole graph end (reverse end.appended) id (used_done graph entry end walk id used) used

pub ends_reached : (graph : List Pair) (entry : BlockId) (end : Walk) (ordered : List Pair) → WalksFrom graph entry end
    → ordered ≡ kept graph end (reverse end.appended) → KeepsReached graph entry ordered
ends_reached graph entry end ordered walk is =
    subst (λ pairs. KeepsReached graph entry pairs) (sym is) (keeps_reached graph entry end walk)
