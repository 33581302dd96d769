-- The blocks to which successors lead from the entry.
use Rattle.std.specs.Prelude.{◌≡◌, true, Some, List}
use Rattle.std.specs.List.{list_any}
use Rattle.rl_base.specs.declared.ids.BlockId.{BlockId}
use Rattle.rl_hir.specs.Blocks.{Pair, block_at, same_id}
use Rattle.rl_hir.specs.Terminals.{successor_ids}
use Rattle.rl_hir.specs.declared.function.BasicBlock.{BasicBlock}

-- Successors lead from the entry to a block.
pub data IsReached (graph : List Pair) (entry : BlockId) : BlockId → Type 0 where
  Begins : IsReached graph entry entry
  Goes : (a b : BlockId) (block : BasicBlock) → IsReached graph entry a → block_at graph a ≡ Some block
      → list_any (same_id b) (successor_ids block.terminal) ≡ true → IsReached graph entry b
