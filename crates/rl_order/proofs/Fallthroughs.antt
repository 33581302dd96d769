-- The fallthrough of a reached block is among the ordered blocks.
use Rattle.std.proofs.Common.{◌≡◌, Bool, true, false, cond, ◌||◌, if◌then◌else◌, ◌⊎◌, inl, inr, true≢false, Option, Some, None, is_some, List, [], ◌∷◌, ◌++◌, map, reverse, refl, sym, ap, ◌∙◌, subst}
use Rattle.std.proofs.lemmas.List.Folds.{list_any-append}
use Rattle.std.specs.List.{list_any}
use Rattle.std.specs.Map.{lookup}
use Rattle.indexmap.specs.IndexSet.{insert_key}
use Rattle.rl_base.proofs.Bools.{or_true}
use Rattle.rl_base.specs.declared.ids.BlockId.{BlockId}
use Rattle.rl_hir.specs.Blocks.{Pair, block_at, same_id}
use Rattle.rl_hir.specs.Terminals.{fallthrough, listed_id, successor_ids}
use Rattle.rl_hir.specs.declared.function.BasicBlock.{BasicBlock}
use Rattle.rl_order.proofs.Ordering.{is_done, is_seen, or_left, same_ids, same_self, walked_opened}
use Rattle.rl_order.proofs.Lookups.{lookup_inserted}
use Rattle.rl_order.proofs.IsUsed.{reached_used, used_before, used_left}
use Rattle.rl_order.proofs.KeepsReached.{kept_skip}
use Rattle.rl_order.specs.Reached.{IsReached}
use Rattle.rl_order.specs.Walk.{Ends, Expands, IsOrdered, Passes, Walk, Walks, WalksFrom, entered, has_block, is_first, is_noted, is_passed, is_used, kept, left, nothing, visit, visits_from, with_noted}
use Rattle.rl_order.specs.declared.tasks.Visit.{Visit}

some_after : (b used : Bool) (o : Option Bool) → is_some o ≡ true → is_some (cond b (Some used) o) ≡ true
some_after true used o h = refl
some_after false used o h = h

seen_entered : (w : Walk) (v : Visit) (behind : Option BlockId) (id : BlockId) → is_seen w id ≡ true → is_seen (entered w v behind) id ≡ true
seen_entered w v behind id h =
    ap (λ o. is_some o) (lookup_inserted id v.id v.used w.seen) ∙ some_after (same_id id v.id) v.used (lookup (same_id id) w.seen) h

seen_self : (w : Walk) (v : Visit) (behind : Option BlockId) → is_seen (entered w v behind) v.id ≡ true
seen_self w v behind =
    ap (λ o. is_some o) (lookup_inserted v.id v.id v.used w.seen) ∙ ap (λ b. is_some (cond b (Some v.used) (lookup (same_id v.id) w.seen))) (same_self v.id)

seen_left : (first : Bool) (w : Walk) (id other : BlockId) → is_seen w other ≡ true → is_seen (left first w id) other ≡ true
seen_left true w id other h = h
seen_left false w id other h = h

seen_more : (graph : List Pair) (vs : List Visit) (w end : Walk) → Walks graph vs w end → (id : BlockId) → is_seen w id ≡ true → is_seen end id ≡ true
seen_more graph _ _ _ (Ends w) id h = h
seen_more graph _ _ _ (Passes v vs w end passed rest) id h = seen_more graph vs w end rest id h
seen_more graph _ _ _ (Expands v vs block w inner end passed at within rest) id h =
    seen_more graph vs (left (is_first w v.id) inner v.id) end rest id
    (seen_left (is_first w v.id) inner v.id id
    (seen_more graph (visits_from v.used block) (entered w v (fallthrough block.terminal)) inner within id (seen_entered w v (fallthrough block.terminal) id h)))

passed_seen : (w : Walk) (v : Visit) → is_passed w v ≡ true → is_seen w v.id ≡ true
passed_seen w v h = by_found (lookup (same_id v.id) w.seen) h
  where
    by_found : (found : Option Bool) → elim found [ Some used ↦ used || Rattle.std.specs.Prelude.not v.used | None ↦ false ] ≡ true → is_some found ≡ true
    by_found (Some used) e = refl
    by_found None e = e

-- The first of some visits is seen at their end.
first_seen : (graph : List Pair) (v : Visit) (vs all : List Visit) (w end : Walk) → all ≡ v ∷ vs → Walks graph all w end → is_seen end v.id ≡ true
first_seen graph v vs _ _ _ is (Ends w) = absurd (cc)
first_seen graph v vs _ _ _ is (Passes u us w end passed rest) =
    let same : u ≡ v = cc in seen_more graph us w end rest v.id (subst (λ (q : Visit). is_seen w q.id ≡ true) same (passed_seen w u passed))
first_seen graph v vs _ _ _ is (Expands u us block w inner end passed at within rest) =
    let same : u ≡ v = cc in
    seen_more graph us (left (is_first w u.id) inner u.id) end rest v.id
    (seen_left (is_first w u.id) inner u.id v.id
    (seen_more graph (visits_from u.used block) (entered w u (fallthrough block.terminal)) inner within v.id
    (subst (λ (q : Visit). is_seen (entered w u (fallthrough block.terminal)) q.id ≡ true) same (seen_self w u (fallthrough block.terminal)))))

any_more : (id : BlockId) (ids more : List BlockId) → list_any (same_id id) ids ≡ true → list_any (same_id id) (ids ++ more) ≡ true
any_more id ids more h = list_any-append (same_id id) ids more ∙ or_left (list_any (same_id id) ids) (list_any (same_id id) more) h

key_more : (id key : BlockId) (ids : List BlockId) → list_any (same_id id) ids ≡ true → list_any (same_id id) (insert_key same_id ids key) ≡ true
key_more id key ids h = by_any (list_any (same_id key) ids)
  where
    by_any : (b : Bool) → list_any (same_id id) (if b then ids else ids ++ key ∷ []) ≡ true
    by_any true = h
    by_any false = any_more id ids (key ∷ []) h

key_there : (key : BlockId) (ids : List BlockId) → list_any (same_id key) (insert_key same_id ids key) ≡ true
key_there key ids = by_any (list_any (same_id key) ids) refl
  where
    by_any : (b : Bool) → list_any (same_id key) ids ≡ b → list_any (same_id key) (if b then ids else ids ++ key ∷ []) ≡ true
    by_any true e = e
    by_any false e = list_any-append (same_id key) ids (key ∷ []) ∙ rw (same_self key) (or_true (list_any (same_id key) ids))

noted_entered : (w : Walk) (v : Visit) (behind : Option BlockId) (id : BlockId) → is_noted w id ≡ true → is_noted (entered w v behind) id ≡ true
noted_entered w v behind id h = by_behind v.used behind
  where
    by_behind : (used : Bool) (o : Option BlockId) → list_any (same_id id) (with_noted used o w.noted) ≡ true
    by_behind used None = h
    by_behind true (Some key) = key_more id key w.noted h
    by_behind false (Some key) = h

noted_left : (first : Bool) (w : Walk) (id other : BlockId) → is_noted w other ≡ true → is_noted (left first w id) other ≡ true
noted_left true w id other h = h
noted_left false w id other h = h

noted_more : (graph : List Pair) (vs : List Visit) (w end : Walk) → Walks graph vs w end → (id : BlockId) → is_noted w id ≡ true → is_noted end id ≡ true
noted_more graph _ _ _ (Ends w) id h = h
noted_more graph _ _ _ (Passes v vs w end passed rest) id h = noted_more graph vs w end rest id h
noted_more graph _ _ _ (Expands v vs block w inner end passed at within rest) id h =
    noted_more graph vs (left (is_first w v.id) inner v.id) end rest id
    (noted_left (is_first w v.id) inner v.id id
    (noted_more graph (visits_from v.used block) (entered w v (fallthrough block.terminal)) inner within id (noted_entered w v (fallthrough block.terminal) id h)))

module _ (graph : List Pair) (id behind : BlockId) (block : BasicBlock) (there : block_at graph id ≡ Some block) (falls : fallthrough block.terminal ≡ Some behind) where
  behind_later : (vs : List Visit) (w end : Walk) → Walks graph vs w end → (is_noted w behind ≡ true) × (is_seen w behind ≡ true)
      → (is_noted end behind ≡ true) × (is_seen end behind ≡ true)
  behind_later vs w end walk h = (noted_more graph vs w end walk behind h.0, seen_more graph vs w end walk behind h.1)

  -- A block that was not used before has its fallthrough noted and visited behind the walk that uses it.
  used_behind : (vs : List Visit) (w end : Walk) → Walks graph vs w end → is_used end id ≡ true
      → (is_used w id ≡ true) ⊎ ((is_noted end behind ≡ true) × (is_seen end behind ≡ true))
  used_behind _ _ _ (Ends w) used = inl used
  used_behind _ _ _ (Passes v vs w end passed rest) used = used_behind vs w end rest used
  used_behind _ _ _ (Expands v vs other w inner end passed at within rest) used =
      by_rest (used_behind vs (left (is_first w v.id) inner v.id) end rest used)
      (λ h. used_behind (visits_from v.used other) (entered w v (fallthrough other.terminal)) inner within h)
    where
      onward : (is_noted inner behind ≡ true) × (is_seen inner behind ≡ true) → (is_noted end behind ≡ true) × (is_seen end behind ≡ true)
      onward h =
          behind_later vs (left (is_first w v.id) inner v.id) end rest
          (noted_left (is_first w v.id) inner v.id behind h.0, seen_left (is_first w v.id) inner v.id behind h.1)

      -- The block itself is expanded, as used.
      here : same_id id v.id ≡ true → v.used ≡ true → (is_noted inner behind ≡ true) × (is_seen inner behind ≡ true)
      here same u =
          let key : id ≡ v.id = same_ids id v.id same in
          let found : Some block ≡ Some other = sym there ∙ ap (λ (k : BlockId). block_at graph k) key ∙ at in
          let one : block ≡ other = cc in
          let falls1 : fallthrough other.terminal ≡ Some behind = ap (λ (q : BasicBlock). fallthrough q.terminal) (sym one) ∙ falls in
          let noted : is_noted (entered w v (fallthrough other.terminal)) behind ≡ true =
          ap (λ o. list_any (same_id behind) (with_noted v.used o w.noted)) falls1 ∙ ap (λ b. list_any (same_id behind) (with_noted b (Some behind) w.noted)) u ∙ key_there behind w.noted in
          let first : visits_from v.used other ≡ visit false behind ∷ map (visit v.used) (reverse (successor_ids other.terminal)) =
          ap (λ o. map (visit false) (listed_id o) ++ map (visit v.used) (reverse (successor_ids other.terminal))) falls1 in (
            noted_more graph (visits_from v.used other) (entered w v (fallthrough other.terminal)) inner within behind noted,
            first_seen graph (visit false behind) (map (visit v.used) (reverse (successor_ids other.terminal))) (visits_from v.used other) (entered w v (fallthrough other.terminal)) inner first within,
          )

      by_entered : (is_used w id ≡ true) ⊎ ((same_id id v.id ≡ true) × (v.used ≡ true)) → (is_used w id ≡ true) ⊎ ((is_noted end behind ≡ true) × (is_seen end behind ≡ true))
      by_entered (inl before) = inl before
      by_entered (inr self) = inr (onward (here self.0 self.1))

      by_inner : (is_used (entered w v (fallthrough other.terminal)) id ≡ true) ⊎ ((is_noted inner behind ≡ true) × (is_seen inner behind ≡ true))
          → (is_used w id ≡ true) ⊎ ((is_noted end behind ≡ true) × (is_seen end behind ≡ true))
      by_inner (inl h) = by_entered (used_before w v (fallthrough other.terminal) id h)
      by_inner (inr h) = inr (onward h)

      by_rest : (is_used (left (is_first w v.id) inner v.id) id ≡ true) ⊎ ((is_noted end behind ≡ true) × (is_seen end behind ≡ true))
          → (is_used inner id ≡ true → (is_used (entered w v (fallthrough other.terminal)) id ≡ true) ⊎ ((is_noted inner behind ≡ true) × (is_seen inner behind ≡ true)))
          → (is_used w id ≡ true) ⊎ ((is_noted end behind ≡ true) × (is_seen end behind ≡ true))
      by_rest (inl h) inside = by_inner (inside (sym (used_left (is_first w v.id) inner v.id id) ∙ h))
      by_rest (inr h) inside = inr h

-- A visited block was appended when the walk has ended.
seen_done : (graph : List Pair) (entry : BlockId) (end : Walk) → WalksFrom graph entry end → (id : BlockId) → is_seen end id ≡ true → is_done end id ≡ true
seen_done graph entry end walk id seen = by_done (is_done end id) refl
  where
    by_done : (b : Bool) → is_done end id ≡ b → is_done end id ≡ true
    by_done true e = e
    by_done false e = absurd (true≢false (sym (walked_opened graph entry end walk id (record { seen = seen; undone = e })).seen))

-- A noted block of the graph is among those that are kept.
noted_there : (graph : List Pair) (w : Walk) (ids : List BlockId) (id : BlockId) → list_any (same_id id) ids ≡ true → is_noted w id ≡ true → has_block graph id ≡ true
    → has_block (kept graph w ids) id ≡ true
noted_there graph w [] id among noted there = absurd (true≢false (sym among))
noted_there graph w (x ∷ ids) id among noted there = by_head (same_id id x) refl (λ later. noted_there graph w ids id later noted there)
  where
    by_use : (used : Bool) (block : BasicBlock) → is_used w id ≡ used → block_at graph id ≡ Some block → has_block (kept graph w (id ∷ ids)) id ≡ true
    by_use true block u at = let self = same_self id in rw (at, u, self) refl
    by_use false block u at = let self = same_self id in rw (at, u, noted, self) refl

    here : (found : Option BasicBlock) → block_at graph id ≡ found → is_some found ≡ true → has_block (kept graph w (id ∷ ids)) id ≡ true
    here None at is = absurd (true≢false (sym is))
    here (Some block) at is = by_use (is_used w id) block refl at

    by_head : (b : Bool) → same_id id x ≡ b → (list_any (same_id id) ids ≡ true → has_block (kept graph w ids) id ≡ true) → has_block (kept graph w (x ∷ ids)) id ≡ true
    by_head true e rest = subst (λ y. has_block (kept graph w (y ∷ ids)) id ≡ true) (same_ids id x e) (here (block_at graph id) refl there)
    by_head false e rest = ap (λ o. is_some o) (kept_skip graph w x ids id e) ∙ rest (sym (ap (λ b. b || list_any (same_id id) ids) e) ∙ among)

-- The fallthrough of a reached block is among the ordered blocks, if it is one of the graph.
pub fallthrough_there : (graph : List Pair) (entry : BlockId) (ordered : List Pair) → IsOrdered graph entry ordered → (id behind : BlockId) (block : BasicBlock)
    → IsReached graph entry id → block_at graph id ≡ Some block → fallthrough block.terminal ≡ Some behind → has_block graph behind ≡ true
    → has_block ordered behind ≡ true
fallthrough_there graph entry ordered o id behind block reached at falls there =
    subst (λ (pairs : List Pair). has_block pairs behind ≡ true) (sym o.blocks)
    (by_use (used_behind graph id behind block at falls (visit true entry ∷ []) nothing o.end o.walk (reached_used graph entry o.end o.walk id reached)))
  where
    by_use : (is_used nothing id ≡ true) ⊎ ((is_noted o.end behind ≡ true) × (is_seen o.end behind ≡ true)) → has_block (kept graph o.end (reverse o.end.appended)) behind ≡ true
    by_use (inl never) = absurd (true≢false (sym never))
    by_use (inr h) = noted_there graph o.end (reverse o.end.appended) behind (seen_done graph entry o.end o.walk behind h.1) h.0 there
