-- Indices of pairs by block id.
use Rattle.std.specs.Prelude.{◌≡◌, ℕ, ◌+◌, ◌-◌, ◌<◌, ◌≤◌, Option, None, Some, List, nat_lt, if◌then◌else◌, length, slice_get}
use Rattle.std.specs.Option.{option_flatten}
use Rattle.rl_hir.specs.Blocks.{Pair, HaveOwnIds, ids}
use Rattle.rl_hir.specs.declared.dense_blocks.PairIndices.{PairIndices}

-- The index that the table has for an id.
abbrev pub index_of : PairIndices → (id : ℕ) → Option ℕ
index_of table id = if nat_lt id table.first then None else option_flatten (slice_get table.entries.items (id - table.first))

-- The table has an entry for an id.
abbrev pub HasEntry : PairIndices → (id : ℕ) → Type 0
HasEntry table id = (table.first ≤ id) × (id < table.first + length table.entries.items)

-- The table has for each id the index of its pair, and none for an id without a pair. So no two pairs have one id.
pub record IsIndexed (table : PairIndices) (pairs : List Pair) : Type 0 where
  pub placed : (index id : ℕ) → slice_get (ids pairs) index ≡ Some id → index_of table id ≡ Some index
  pub found : (index id : ℕ) → index_of table id ≡ Some index → slice_get (ids pairs) index ≡ Some id

-- As `IsIndexed`, for the pairs in front of the index `end` alone. The table may have any index for the others.
pub record IsIndexedBelow (table : PairIndices) (end : ℕ) (pairs : List Pair) : Type 0 where
  pub own : HaveOwnIds pairs
  pub entries : (index id : ℕ) → slice_get (ids pairs) index ≡ Some id → HasEntry table id
  pub placed : (index id : ℕ) → index < end → slice_get (ids pairs) index ≡ Some id → index_of table id ≡ Some index
  pub known : (index id : ℕ) → index_of table id ≡ Some index → (pair_index : ℕ) × (slice_get (ids pairs) pair_index ≡ Some id)
