-- Blocks as a list of pairs, each of an id and a block.
use Rattle.std.specs.Prelude.{ℕ, Bool, not, nat_eq, Option, List, filter, map}
use Rattle.std.specs.List.{list_any}
use Rattle.std.specs.Map.{lookup, remove_entry}
use Rattle.indexmap.specs.IndexMap.{insert_entry, set_value_at}
use Rattle.rl_base.specs.Distinct.{AreDistinct}
use Rattle.rl_base.specs.declared.ids.BlockId.{BlockId}
use Rattle.rl_hir.specs.declared.function.BasicBlock.{BasicBlock}

-- A block and its id.
abbrev pub Pair : Type 0
Pair = BlockId × BasicBlock

abbrev pub same_id : BlockId → BlockId → Bool
same_id a b = nat_eq a.0 b.0

-- The ids, in order.
abbrev pub ids : List Pair → List ℕ
ids pairs = map (λ p. p.0.0) pairs

-- No two pairs have one id.
abbrev pub HaveOwnIds : List Pair → Type 0
HaveOwnIds pairs = AreDistinct (ids pairs)

-- The block with an id.
abbrev pub block_at : List Pair → BlockId → Option BasicBlock
block_at pairs id = lookup (same_id id) pairs

-- With this block under an id: in the place of the block that has it, else last.
abbrev pub with_block : List Pair → BlockId → BasicBlock → List Pair
with_block pairs id block = insert_entry same_id pairs id block

-- Without the pair of an id; the pairs behind it move up.
abbrev pub without_block : List Pair → BlockId → List Pair
without_block pairs id = remove_entry (same_id id) pairs

-- With another block in the pair at an index; past the end nothing changes.
abbrev pub with_block_at : List Pair → (index : ℕ) → BasicBlock → List Pair
with_block_at pairs index block = set_value_at pairs index block

-- The blocks whose ids are not listed.
abbrev pub kept : (lost : List BlockId) → List Pair → List Pair
kept lost pairs = filter (λ p. not (list_any (same_id p.0) lost)) pairs
