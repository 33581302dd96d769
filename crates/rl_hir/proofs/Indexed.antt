-- Tables that have the index of each pair, after each move of the pairs.
use Rattle.std.proofs.Common.{◌≡◌, ℕ, zero, suc, ◌+◌, ◌<◌, ◌≤◌, Bool, true, false, ◌⊎◌, inl, inr, nat_eq, if◌then◌else◌, List, [], ◌∷◌, ◌++◌, length, slice_get, slice_set, remove, Option, Some, None}
use Rattle.std.proofs.Common.{refl, sym, ap, subst, ◌∙◌, arith, eqb-true, eq-eqb}
use Rattle.std.specs.Map.{values_of}
use Rattle.rl_base.proofs.DistinctLists.{IsIn, distinct_tail, distinct_head}
use Rattle.rl_base.specs.declared.ids.BlockId.{BlockId}
use Rattle.rl_hir.proofs.IndexEntries.{entry_of}
use Rattle.rl_hir.proofs.KeptBlocks.{in_kept, kept_own}
use Rattle.rl_hir.proofs.OwnIds.{in_fewer, removed, same_ids}
use Rattle.rl_hir.specs.Blocks.{Pair, HaveOwnIds, block_at, ids, kept, same_id, with_block, with_block_at, without_block}
use Rattle.rl_hir.specs.Indexed.{HasEntry, IsIndexed, IsIndexedBelow, index_of}
use Rattle.rl_hir.specs.declared.dense_blocks.PairIndices.{PairIndices}
use Rattle.rl_hir.specs.declared.function.BasicBlock.{BasicBlock}

-- An id that stands behind a pair is not the pair's.
apart : (p : Pair) (pairs : List Pair) (index : ℕ) (id : BlockId) → HaveOwnIds (p ∷ pairs) → slice_get (ids pairs) index ≡ Some id.0 → same_id id p.0 ≡ false
apart p pairs index id own e = by_id (same_id id p.0) refl
  where
    by_id : (b : Bool) → same_id id p.0 ≡ b → same_id id p.0 ≡ false
    by_id true h = absurd (distinct_head p.0.0 (ids pairs) own (record { index = index; found = e ∙ ap Some (eqb-true id.0 p.0.0 h) }))
    by_id false h = h

-- The block of an id whose pair stands at `index`.
pub block_found : (pairs : List Pair) (index : ℕ) (id : BlockId) (q : Pair) → HaveOwnIds pairs → slice_get (ids pairs) index ≡ Some id.0 → slice_get pairs index ≡ Some q
    → block_at pairs id ≡ Some q.1
block_found [] index id q own e is = absurd (cc)
block_found (p ∷ pairs) zero id q own e is =
    let hit : same_id id p.0 ≡ true = eq-eqb id.0 p.0.0 (cc) in
    let same : p ≡ q = cc in
    rw hit (ap (λ (t : Pair). Some t.1) same)
block_found (p ∷ pairs) (suc index) id q own e is =
    rw (apart p pairs index id own e) (block_found pairs index id q (distinct_tail p.0.0 (ids pairs) own) e is)

pub put_found : (pairs : List Pair) (index : ℕ) (id : BlockId) (block : BasicBlock) → HaveOwnIds pairs → slice_get (ids pairs) index ≡ Some id.0
    → with_block pairs id block ≡ with_block_at pairs index block
put_found [] index id block own e = absurd (cc)
put_found (p ∷ pairs) zero id block own e = let hit : same_id id p.0 ≡ true = eq-eqb id.0 p.0.0 (cc) in rw hit refl
put_found (p ∷ pairs) (suc index) id block own e =
    rw (apart p pairs index id own e) (ap (λ (t : List Pair). p ∷ t) (put_found pairs index id block (distinct_tail p.0.0 (ids pairs) own) e))

pub remove_found : (pairs : List Pair) (index : ℕ) (id : BlockId) → HaveOwnIds pairs → slice_get (ids pairs) index ≡ Some id.0 → without_block pairs id ≡ remove pairs index
remove_found [] index id own e = absurd (cc)
remove_found (p ∷ pairs) zero id own e = let hit : same_id id p.0 ≡ true = eq-eqb id.0 p.0.0 (cc) in rw hit refl
remove_found (p ∷ pairs) (suc index) id own e =
    rw (apart p pairs index id own e) (ap (λ (t : List Pair). p ∷ t) (remove_found pairs index id (distinct_tail p.0.0 (ids pairs) own) e))

-- An id that no pair has is neither that of the first one nor that of one behind it.
not_head : (p : Pair) (pairs : List Pair) (id : BlockId) → (IsIn (ids (p ∷ pairs)) id.0 → ⊥) → same_id id p.0 ≡ false
not_head p pairs id out = by_id (same_id id p.0) refl
  where
    by_id : (b : Bool) → same_id id p.0 ≡ b → same_id id p.0 ≡ false
    by_id true h = absurd (out (record { index = 0; found = ap Some (sym (eqb-true id.0 p.0.0 h)) }))
    by_id false h = h

not_behind : (p : Pair) (pairs : List Pair) (id : BlockId) → (IsIn (ids (p ∷ pairs)) id.0 → ⊥) → IsIn (ids pairs) id.0 → ⊥
not_behind p pairs id out i = out (record { index = suc i.index; found = i.found })

block_missing : (pairs : List Pair) (id : BlockId) → (IsIn (ids pairs) id.0 → ⊥) → block_at pairs id ≡ None
block_missing [] id out = refl
block_missing (p ∷ pairs) id out = rw (not_head p pairs id out) (block_missing pairs id (not_behind p pairs id out))

put_missing : (pairs : List Pair) (id : BlockId) (block : BasicBlock) → (IsIn (ids pairs) id.0 → ⊥) → with_block pairs id block ≡ pairs ++ (id, block) ∷ []
put_missing [] id block out = refl
put_missing (p ∷ pairs) id block out = rw (not_head p pairs id out) (ap (λ (t : List Pair). p ∷ t) (put_missing pairs id block (not_behind p pairs id out)))

remove_missing : (pairs : List Pair) (id : BlockId) → (IsIn (ids pairs) id.0 → ⊥) → without_block pairs id ≡ pairs
remove_missing [] id out = refl
remove_missing (p ∷ pairs) id out = rw (not_head p pairs id out) (ap (λ (t : List Pair). p ∷ t) (remove_missing pairs id (not_behind p pairs id out)))

-- The parts of a pair, and the pair with another block.
pub id_at : (pairs : List Pair) (index : ℕ) (q : Pair) → slice_get pairs index ≡ Some q → slice_get (ids pairs) index ≡ Some q.0.0
id_at [] index q e = absurd (cc)
id_at (p ∷ pairs) zero q e = let same : p ≡ q = cc in ap (λ (t : Pair). Some t.0.0) same
id_at (p ∷ pairs) (suc index) q e = id_at pairs index q e

pub value_at : (pairs : List Pair) (index : ℕ) (q : Pair) → slice_get pairs index ≡ Some q → slice_get (values_of pairs) index ≡ Some q.1
value_at [] index q e = absurd (cc)
value_at (p ∷ pairs) zero q e = let same : p ≡ q = cc in ap (λ (t : Pair). Some t.1) same
value_at (p ∷ pairs) (suc index) q e = value_at pairs index q e

pub pair_set : (pairs : List Pair) (index : ℕ) (q : Pair) (block : BasicBlock) → slice_get pairs index ≡ Some q → slice_set pairs index (q.0, block) ≡ with_block_at pairs index block
pair_set [] index q block e = absurd (cc)
pair_set (p ∷ pairs) zero q block e = let same : p ≡ q = cc in ap (λ (t : Pair). (t.0, block) ∷ pairs) (sym same)
pair_set (p ∷ pairs) (suc index) q block e = ap (λ (t : List Pair). p ∷ t) (pair_set pairs index q block e)

module _ (table : PairIndices) (pairs : List Pair) (h : IsIndexed table pairs) where
  -- No two pairs have one id.
  pub own_ids : HaveOwnIds pairs
  own_ids i j id a b =
      let first : index_of table id ≡ Some i = h.placed i id a in
      let second : index_of table id ≡ Some j = h.placed j id b in
      cc

  pub index_within : (index id : ℕ) → index_of table id ≡ Some index → index < length pairs
  index_within index id e = within pairs index (h.found index id e)
    where
      within : (ps : List Pair) (i : ℕ) → slice_get (ids ps) i ≡ Some id → i < length ps
      within [] i f = absurd (cc)
      within (p ∷ ps) zero f = omega arith
      within (p ∷ ps) (suc i) f = omega (arith, within ps i f)

  -- No pair has an id for which the table has no index.
  out : (id : ℕ) → index_of table id ≡ None → IsIn (ids pairs) id → ⊥
  out id none i = let some : index_of table id ≡ Some i.index = h.placed i.index id i.found in absurd (cc)

  pub no_block : (id : BlockId) → index_of table id.0 ≡ None → block_at pairs id ≡ None
  no_block id none = block_missing pairs id (out id.0 none)

  pub put_last : (id : BlockId) (block : BasicBlock) → index_of table id.0 ≡ None → with_block pairs id block ≡ pairs ++ (id, block) ∷ []
  put_last id block none = put_missing pairs id block (out id.0 none)

  pub none_removed : (id : BlockId) → index_of table id.0 ≡ None → without_block pairs id ≡ pairs
  none_removed id none = remove_missing pairs id (out id.0 none)

  pub block_is : (index : ℕ) (id : BlockId) (q : Pair) → index_of table id.0 ≡ Some index → slice_get pairs index ≡ Some q → block_at pairs id ≡ Some q.1
  block_is index id q e is = block_found pairs index id q own_ids (h.found index id.0 e) is

  pub put_there : (index : ℕ) (id : BlockId) (block : BasicBlock) → index_of table id.0 ≡ Some index → with_block pairs id block ≡ with_block_at pairs index block
  put_there index id block e = put_found pairs index id block own_ids (h.found index id.0 e)

  pub removed_there : (index : ℕ) (id : BlockId) → index_of table id.0 ≡ Some index → without_block pairs id ≡ remove pairs index
  removed_there index id e = remove_found pairs index id own_ids (h.found index id.0 e)

  -- The table has no index for an id that has no block.
  pub no_index : (id : BlockId) → block_at pairs id ≡ None → index_of table id.0 ≡ None
  no_index id none = by_index (index_of table id.0) refl
    where
      at : (ps : List Pair) (i : ℕ) → slice_get (ids ps) i ≡ Some id.0 → (q : Pair) × (slice_get ps i ≡ Some q)
      at [] i e = absurd (cc)
      at (p ∷ ps) zero e = (p, refl)
      at (p ∷ ps) (suc i) e = at ps i e

      by_index : (o : Option ℕ) → index_of table id.0 ≡ o → index_of table id.0 ≡ None
      by_index None e = e
      by_index (Some i) e =
          absurd (
          let pair = at pairs i (h.found i id.0 e) in
          let there : block_at pairs id ≡ Some pair.0.1 = block_is i id pair.0 e pair.1 in
          cc)

  -- A table with the same indices.
  pub same_indices : (after : PairIndices) → ((id : ℕ) → index_of after id ≡ index_of table id) → IsIndexed after pairs
  same_indices after same =
      record { placed = λ index id e. same id ∙ h.placed index id e; found = λ index id e. h.found index id (sym (same id) ∙ e) }

  -- Another block in a pair.
  pub exchanged : (index : ℕ) (block : BasicBlock) → IsIndexed table (with_block_at pairs index block)
  exchanged index block =
      let same : ids (with_block_at pairs index block) ≡ ids pairs = same_ids pairs index block in
      record {
        placed = λ i id e. h.placed i id (ap (λ (t : List ℕ). slice_get t i) (sym same) ∙ e);
        found = λ i id e. ap (λ (t : List ℕ). slice_get t i) same ∙ h.found i id e;
      }

-- A table without indices has those of no pairs.
pub none_indexed : (table : PairIndices) → ((id : ℕ) → index_of table id ≡ None) → IsIndexed table []
none_indexed table none =
    record {
      placed = λ index id e. absurd (let never : slice_get {X = ℕ} [] index ≡ Some id = e in cc);
      found = λ index id e. absurd (let never : index_of table id ≡ None = none id in cc);
    }

-- A table that has the index of each pair in front of the end has them all.
pub all_below : (table : PairIndices) (pairs : List Pair) (end : ℕ) → length pairs ≤ end → IsIndexedBelow table end pairs → IsIndexed table pairs
all_below table pairs end all h = record { placed = placed; found = found }
  where
    within : (ps : List Pair) (i id : ℕ) → slice_get (ids ps) i ≡ Some id → i < length ps
    within [] i id f = absurd (cc)
    within (p ∷ ps) zero id f = omega arith
    within (p ∷ ps) (suc i) id f = omega (arith, within ps i id f)

    placed : (index id : ℕ) → slice_get (ids pairs) index ≡ Some id → index_of table id ≡ Some index
    placed index id e = let low = within pairs index id e in h.placed index id (omega arith) e

    found : (index id : ℕ) → index_of table id ≡ Some index → slice_get (ids pairs) index ≡ Some id
    found index id e =
        let there = h.known index id e in
        let is : index_of table id ≡ Some there.0 = placed there.0 id there.1 in
        let same : there.0 ≡ index = cc in
        subst (λ (k : ℕ). slice_get (ids pairs) k ≡ Some id) same there.1

-- The pair at `end` has its index in the table too.
pub one_more : (table after : PairIndices) (pairs : List Pair) (end id : ℕ) → IsIndexedBelow table end pairs → slice_get (ids pairs) end ≡ Some id
    → ((other : ℕ) → index_of after other ≡ (if nat_eq other id then Some end else index_of table other)) → ((other : ℕ) → HasEntry table other → HasEntry after other)
    → IsIndexedBelow after (end + 1) pairs
one_more table after pairs end id h here indices entries =
    record { own = h.own; entries = λ index other e. entries other (h.entries index other e); placed = placed; known = known }
  where
    placed : (index other : ℕ) → index < end + 1 → slice_get (ids pairs) index ≡ Some other → index_of after other ≡ Some index
    placed index other small e = by_id (nat_eq other id) refl
      where
        lower : nat_eq other id ≡ false → index ≡ end → ⊥
        lower s q =
            let there : slice_get (ids pairs) end ≡ Some other = subst (λ (k : ℕ). slice_get (ids pairs) k ≡ Some other) q e in
            let same : other ≡ id = cc in
            let hit : nat_eq other id ≡ true = eq-eqb other id same in
            absurd (cc)

        by_id : (b : Bool) → nat_eq other id ≡ b → index_of after other ≡ Some index
        by_id true s =
            let there : slice_get (ids pairs) index ≡ Some id = e ∙ ap Some (eqb-true other id s) in
            let same : end ≡ index = h.own end index id here there in
            indices other ∙ rw s (ap Some same)
        by_id false s = let not_here = lower s in indices other ∙ rw s (h.placed index other (omega (arith, not_here)) e)

    known : (index other : ℕ) → index_of after other ≡ Some index → (pair_index : ℕ) × (slice_get (ids pairs) pair_index ≡ Some other)
    known index other e = by_id (nat_eq other id) refl
      where
        by_id : (b : Bool) → nat_eq other id ≡ b → (pair_index : ℕ) × (slice_get (ids pairs) pair_index ≡ Some other)
        by_id true s = (end, here ∙ ap Some (sym (eqb-true other id s)))
        by_id false s = h.known index other (sym (indices other ∙ rw s refl) ∙ e)

id_before : (pairs : List Pair) (p : Pair) (index id : ℕ) → slice_get (ids pairs) index ≡ Some id → slice_get (ids (pairs ++ p ∷ [])) index ≡ Some id
id_before [] p index id e = absurd (cc)
id_before (q ∷ pairs) p zero id e = e
id_before (q ∷ pairs) p (suc index) id e = id_before pairs p index id e

id_last : (pairs : List Pair) (p : Pair) → slice_get (ids (pairs ++ p ∷ [])) (length pairs) ≡ Some p.0.0
id_last [] p = refl
id_last (q ∷ pairs) p = id_last pairs p

id_either : (pairs : List Pair) (p : Pair) (index id : ℕ) → slice_get (ids (pairs ++ p ∷ [])) index ≡ Some id
    → (slice_get (ids pairs) index ≡ Some id) ⊎ ((index ≡ length pairs) × (id ≡ p.0.0))
id_either [] p zero id e = inr (refl, cc)
id_either [] p (suc index) id e = absurd (cc)
id_either (q ∷ pairs) p zero id e = inl e
id_either (q ∷ pairs) p (suc index) id e = elim (id_either pairs p index id e) [ inl l ↦ inl l | inr r ↦ inr (ap suc r.0, r.1) ]

-- Another pair, of an id for which the table had no index.
pub appended : (table after : PairIndices) (pairs : List Pair) (id : BlockId) (block : BasicBlock) → IsIndexed table pairs → index_of table id.0 ≡ None
    → ((other : ℕ) → index_of after other ≡ (if nat_eq other id.0 then Some (length pairs) else index_of table other)) → IsIndexed after (pairs ++ (id, block) ∷ [])
appended table after pairs id block h fresh indices = record { placed = placed; found = found }
  where
    old : (index other : ℕ) → index_of table other ≡ Some index → index_of after other ≡ Some index
    old index other e = by_id (nat_eq other id.0) refl
      where
        by_id : (b : Bool) → nat_eq other id.0 ≡ b → index_of after other ≡ Some index
        by_id true s = absurd (let same : index_of table other ≡ None = ap (index_of table) (eqb-true other id.0 s) ∙ fresh in cc)
        by_id false s = indices other ∙ rw s e

    placed : (index other : ℕ) → slice_get (ids (pairs ++ (id, block) ∷ [])) index ≡ Some other → index_of after other ≡ Some index
    placed index other e =
        elim (id_either pairs (id, block) index other e) [
          | inl l ↦ old index other (h.placed index other l)
          | inr r ↦ (let hit : nat_eq other id.0 ≡ true = eq-eqb other id.0 r.1 in indices other ∙ rw hit (ap Some (sym r.0)))
        ]

    found : (index other : ℕ) → index_of after other ≡ Some index → slice_get (ids (pairs ++ (id, block) ∷ [])) index ≡ Some other
    found index other e = by_id (nat_eq other id.0) refl
      where
        by_id : (b : Bool) → nat_eq other id.0 ≡ b → slice_get (ids (pairs ++ (id, block) ∷ [])) index ≡ Some other
        by_id true s =
            let here : index_of after other ≡ Some (length pairs) = indices other ∙ rw s refl in
            let same : length pairs ≡ index = cc in
            let id_is : id.0 ≡ other = sym (eqb-true other id.0 s) in
            subst (λ (k : ℕ). slice_get (ids (pairs ++ (id, block) ∷ [])) k ≡ Some other) same (id_last pairs (id, block) ∙ ap Some id_is)
        by_id false s = id_before pairs (id, block) index other (h.found index other (sym (indices other ∙ rw s refl) ∙ e))

front_ids : (pairs : List Pair) (index pair_index id : ℕ) → pair_index < index → slice_get (ids (remove pairs index)) pair_index ≡ Some id → slice_get (ids pairs) pair_index ≡ Some id
front_ids [] zero pair_index id low e = absurd (omega arith)
front_ids [] (suc index) pair_index id low e = e
front_ids (p ∷ pairs) zero pair_index id low e = absurd (omega arith)
front_ids (p ∷ pairs) (suc index) zero id low e = e
front_ids (p ∷ pairs) (suc index) (suc pair_index) id low e = front_ids pairs index pair_index id (omega arith) e

stays : (pairs : List Pair) (index pair_index id : ℕ) → (pair_index ≡ index → ⊥) → slice_get (ids pairs) pair_index ≡ Some id → (rest : ℕ) × (slice_get (ids (remove pairs index)) rest ≡ Some id)
stays [] index pair_index id not_it e = absurd (cc)
stays (p ∷ pairs) zero zero id not_it e = absurd (not_it refl)
stays (p ∷ pairs) zero (suc pair_index) id not_it e = (pair_index, e)
stays (p ∷ pairs) (suc index) zero id not_it e = (0, e)
stays (p ∷ pairs) (suc index) (suc pair_index) id not_it e = let rest = stays pairs index pair_index id (λ h. not_it (ap suc h)) e in (suc rest.0, rest.1)

-- The pair at `index` was taken out, and its id's index: the indices in front of it stay.
pub taken_out : (table after : PairIndices) (pairs : List Pair) (index : ℕ) (id : BlockId) → IsIndexed table pairs → index_of table id.0 ≡ Some index
    → ((other : ℕ) → index_of after other ≡ (if nat_eq other id.0 then None else index_of table other)) → ((other : ℕ) → HasEntry table other → HasEntry after other)
    → IsIndexedBelow after index (remove pairs index)
taken_out table after pairs index id h is indices entries = record { own = own; entries = entry; placed = placed; known = known }
  where
    less : without_block pairs id ≡ remove pairs index
    less = removed_there table pairs h index id is

    own : HaveOwnIds (remove pairs index)
    own = subst (λ (l : List Pair). HaveOwnIds l) less (removed pairs id (own_ids table pairs h))

    entry : (pair_index other : ℕ) → slice_get (ids (remove pairs index)) pair_index ≡ Some other → HasEntry after other
    entry pair_index other e =
        let there = in_fewer pairs id other (subst (λ (l : List Pair). IsIn (ids l) other) (sym less) (record { index = pair_index; found = e })) in
        entries other (entry_of table other there.index (h.placed there.index other there.found))

    placed : (pair_index other : ℕ) → pair_index < index → slice_get (ids (remove pairs index)) pair_index ≡ Some other → index_of after other ≡ Some pair_index
    placed pair_index other low e = by_id (nat_eq other id.0) refl
      where
        old : index_of table other ≡ Some pair_index
        old = h.placed pair_index other (front_ids pairs index pair_index other low e)

        by_id : (b : Bool) → nat_eq other id.0 ≡ b → index_of after other ≡ Some pair_index
        by_id true s =
            absurd (
            let both : index_of table other ≡ Some index = ap (index_of table) (eqb-true other id.0 s) ∙ is in
            let before = old in
            let never : pair_index ≡ index = cc in
            omega arith)
        by_id false s = indices other ∙ rw s old

    known : (pair_index other : ℕ) → index_of after other ≡ Some pair_index → (rest : ℕ) × (slice_get (ids (remove pairs index)) rest ≡ Some other)
    known pair_index other e = by_id (nat_eq other id.0) refl
      where
        by_id : (b : Bool) → nat_eq other id.0 ≡ b → (rest : ℕ) × (slice_get (ids (remove pairs index)) rest ≡ Some other)
        by_id true s = absurd (let none : index_of after other ≡ None = indices other ∙ rw s refl in cc)
        by_id false s = stays pairs index pair_index other not_it there
          where
            there : slice_get (ids pairs) pair_index ≡ Some other
            there = h.found pair_index other (sym (indices other ∙ rw s refl) ∙ e)

            not_it : pair_index ≡ index → ⊥
            not_it same =
                let mine : slice_get (ids pairs) index ≡ Some id.0 = h.found index id.0 is in
                let here : slice_get (ids pairs) index ≡ Some other = subst (λ (k : ℕ). slice_get (ids pairs) k ≡ Some other) same there in
                let equal : other ≡ id.0 = cc in
                let hit : nat_eq other id.0 ≡ true = eq-eqb other id.0 equal in
                absurd (cc)

-- The pairs that stay where those with listed ids were taken out, with a table without indices.
pub kept_start : (table after : PairIndices) (lost : List BlockId) (pairs : List Pair) → IsIndexed table pairs → ((id : ℕ) → index_of after id ≡ None)
    → ((id : ℕ) → HasEntry table id → HasEntry after id) → IsIndexedBelow after 0 (kept lost pairs)
kept_start table after lost pairs h none entries =
    record {
      own = kept_own lost pairs (own_ids table pairs h);
      entries = entry;
      placed = λ index id low e. absurd (omega arith);
      known = λ index id e. absurd (let never : index_of after id ≡ None = none id in cc);
    }
  where
    entry : (index id : ℕ) → slice_get (ids (kept lost pairs)) index ≡ Some id → HasEntry after id
    entry index id e =
        let there = in_kept lost pairs id (record { index = index; found = e }) in
        entries id (entry_of table id there.index (h.placed there.index id there.found))
