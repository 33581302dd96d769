-- The indices that a table has after each move of its entries.
use Rattle.std.proofs.Common.{◌≡◌, ℕ, zero, suc, ◌+◌, ◌-◌, ◌<◌, ◌≤◌, Bool, true, false, nat_lt, nat_eq, if◌then◌else◌, List, [], ◌∷◌, ◌++◌, length, replicate, take, slice_get, slice_set, Option, Some, None}
use Rattle.std.proofs.Common.{refl, sym, ap, ◌∙◌, arith, eqb-true, eq-eqb, ltb-true, ltb-false}
use Rattle.std.proofs.lemmas.List.{take_all}
use Rattle.std.proofs.lemmas.Option.{slice_get_within}
use Rattle.std.specs.Option.{option_flatten}
use Rattle.rl_hir.specs.Indexed.{HasEntry, index_of}
use Rattle.rl_hir.specs.declared.dense_blocks.PairIndices.{PairIndices}

-- The index in the entry at `entry_index`.
abbrev entry : List (Option ℕ) → (entry_index : ℕ) → Option ℕ
entry entries entry_index = option_flatten (slice_get entries entry_index)

-- The index of an id, where the entries begin with that of the id `first`.
abbrev pub index_from : (first : ℕ) → List (Option ℕ) → (id : ℕ) → Option ℕ
index_from first entries id = if nat_lt id first then None else entry entries (id - first)

entry_of_nones : (count entry_index : ℕ) → entry (replicate count None) entry_index ≡ None
entry_of_nones zero entry_index = refl
entry_of_nones (suc count) zero = refl
entry_of_nones (suc count) (suc entry_index) = entry_of_nones count entry_index

entry_in_front : (entries : List (Option ℕ)) (count entry_index : ℕ) → entry (entries ++ replicate count None) entry_index ≡ entry entries entry_index
entry_in_front [] count entry_index = entry_of_nones count entry_index
entry_in_front (e ∷ entries) count zero = refl
entry_in_front (e ∷ entries) count (suc entry_index) = entry_in_front entries count entry_index

entry_behind : (entries : List (Option ℕ)) (count entry_index at : ℕ) → at ≡ count + entry_index → entry (replicate count None ++ entries) at ≡ entry entries entry_index
entry_behind entries zero entry_index at is = ap (entry entries) (omega arith)
entry_behind entries (suc count) entry_index zero is = absurd (omega arith)
entry_behind entries (suc count) entry_index (suc at) is = entry_behind entries count entry_index at (omega arith)

entry_among_nones : (entries : List (Option ℕ)) (count entry_index : ℕ) → entry_index < count → entry (replicate count None ++ entries) entry_index ≡ None
entry_among_nones entries zero entry_index h = absurd (omega arith)
entry_among_nones entries (suc count) zero h = refl
entry_among_nones entries (suc count) (suc entry_index) h = entry_among_nones entries count entry_index (omega arith)

entry_set : (entries : List (Option ℕ)) (entry_index : ℕ) (index : Option ℕ) → entry_index < length entries → entry (slice_set entries entry_index index) entry_index ≡ index
entry_set [] entry_index index h = absurd (omega arith)
entry_set (e ∷ entries) zero index h = refl
entry_set (e ∷ entries) (suc entry_index) index h = entry_set entries entry_index index (omega arith)

entry_other : (entries : List (Option ℕ)) (entry_index other : ℕ) (index : Option ℕ) → (other ≡ entry_index → ⊥) → entry (slice_set entries entry_index index) other ≡ entry entries other
entry_other [] entry_index other index h = refl
entry_other (e ∷ entries) zero zero index h = absurd (h refl)
entry_other (e ∷ entries) zero (suc other) index h = refl
entry_other (e ∷ entries) (suc entry_index) zero index h = refl
entry_other (e ∷ entries) (suc entry_index) (suc other) index h = entry_other entries entry_index other index (λ same. h (ap suc same))

-- Entries without an index, of ids in front of the first one, change no index.
pub more_in_front : (first more : ℕ) (entries : List (Option ℕ)) (id : ℕ) → more ≤ first → index_from (first - more) (replicate more None ++ entries) id ≡ index_from first entries id
more_in_front first more entries id few = by_first (nat_lt id first) refl (nat_lt id (first - more)) refl
  where
    by_first : (b : Bool) → nat_lt id first ≡ b → (d : Bool) → nat_lt id (first - more) ≡ d → index_from (first - more) (replicate more None ++ entries) id ≡ index_from first entries id
    by_first true e true f = rw (e, f) refl
    by_first true e false f =
        let below : id < first = ltb-true id first e in
        let above : first - more ≤ id = ltb-false id (first - more) f in
        rw (e, f) (entry_among_nones entries more (id - (first - more)) (omega arith))
    by_first false e true f =
        let above : first ≤ id = ltb-false id first e in
        let below : id < first - more = ltb-true id (first - more) f in
        absurd (omega arith)
    by_first false e false f =
        let above : first ≤ id = ltb-false id first e in
        rw (e, f) (entry_behind entries more (id - first) (id - (first - more)) (omega arith))

-- Entries without an index, of ids behind the last one, change no index.
pub more_behind : (first more : ℕ) (entries : List (Option ℕ)) (id : ℕ) → index_from first (entries ++ replicate more None) id ≡ index_from first entries id
more_behind first more entries id = by_first (nat_lt id first) refl
  where
    by_first : (b : Bool) → nat_lt id first ≡ b → index_from first (entries ++ replicate more None) id ≡ index_from first entries id
    by_first true e = rw e refl
    by_first false e = rw e (entry_in_front entries more (id - first))

-- Entries without an index give no id one.
pub none_indexed : (first count id : ℕ) → index_from first (replicate count None) id ≡ None
none_indexed first count id = by_first (nat_lt id first) refl
  where
    by_first : (b : Bool) → nat_lt id first ≡ b → index_from first (replicate count None) id ≡ None
    by_first true e = rw e refl
    by_first false e = rw e (entry_of_nones count (id - first))

-- The first entry, without an index.
pub first_entry : (first at : ℕ) (entries : List (Option ℕ)) (id : ℕ) → length entries ≡ 0 → index_from at (entries ++ None ∷ []) id ≡ index_from first entries id
first_entry first at [] id empty = none_indexed at 1 id ∙ sym (none_indexed first 0 id)
first_entry first at (e ∷ entries) id empty = absurd (omega arith)

-- Entries that are filled up to `count`.
pub resized : (first count len : ℕ) (entries : List (Option ℕ)) (id : ℕ) → length entries ≤ count
    → index_from first (take count entries ++ replicate (count - len) None) id ≡ index_from first entries id
resized first count len entries id few =
    ap (λ (t : List (Option ℕ)). index_from first (t ++ replicate (count - len) None) id) (take_all count entries few) ∙ more_behind first (count - len) entries id

-- The index of each id once the entry of `id` holds `index`.
pub index_set : (first : ℕ) (entries : List (Option ℕ)) (id : ℕ) (index : Option ℕ) (other : ℕ) → first ≤ id → id < first + length entries
    → index_from first (slice_set entries (id - first) index) other ≡ (if nat_eq other id then index else index_from first entries other)
index_set first entries id index other low high = by_id (nat_eq other id) refl (nat_lt other first) refl
  where
    by_id : (b : Bool) → nat_eq other id ≡ b → (d : Bool) → nat_lt other first ≡ d
        → index_from first (slice_set entries (id - first) index) other ≡ (if nat_eq other id then index else index_from first entries other)
    by_id true e true f =
        let same : other ≡ id = eqb-true other id e in
        let below : other < first = ltb-true other first f in
        absurd (omega arith)
    by_id true e false f =
        let same : other ≡ id = eqb-true other id e in
        rw (e, f) (rw same (entry_set entries (id - first) index (omega arith)))
    by_id false e true f = rw (e, f) refl
    by_id false e false f =
        let above : first ≤ other = ltb-false other first f in
        rw (e, f) (entry_other entries (id - first) (other - first) index (λ h. let same : other ≡ id = omega arith in let hit : nat_eq other id ≡ true = eq-eqb other id same in cc))

-- An id with an index has an entry.
pub entry_of : (table : PairIndices) (id index : ℕ) → index_of table id ≡ Some index → HasEntry table id
entry_of table id index h = by_first (nat_lt id table.first) refl (slice_get table.entries.items (id - table.first)) refl
  where
    by_first : (b : Bool) → nat_lt id table.first ≡ b → (e : Option (Option ℕ)) → slice_get table.entries.items (id - table.first) ≡ e → HasEntry table id
    by_first true f e g = absurd (let h1 = rw f at h in cc)
    by_first false f None g = absurd (let h1 = rw (f, g) at h in cc)
    by_first false f (Some x) g =
        let above : table.first ≤ id = ltb-false id table.first f in
        let within : id - table.first < length table.entries.items = slice_get_within table.entries.items (id - table.first) x g in
        (above, omega arith)
