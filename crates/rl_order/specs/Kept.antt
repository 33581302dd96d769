-- Changes of blocks by their indices.
use Rattle.std.specs.Prelude.{ℕ, Option, Some, None, List, slice_get}
use Rattle.std.specs.Map.{values_of}
use Rattle.rl_hir.specs.Blocks.{Pair, with_block_at}
use Rattle.rl_hir.specs.declared.function.BasicBlock.{BasicBlock}

-- The blocks with a change of that at an index, if there is one.
abbrev pub changed_at : (index : Option ℕ) → (BasicBlock → BasicBlock) → List Pair → List Pair
changed_at None change pairs = pairs
changed_at (Some index) change pairs = elim (slice_get (values_of pairs) index) [ Some block ↦ with_block_at pairs index (change block) | None ↦ pairs ]
