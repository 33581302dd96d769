-- The predecessors of blocks.
use Rattle.std.specs.Prelude.{◌≡◌, true, Some, List, Contains, ◌↔◌}
use Rattle.std.specs.List.{list_any}
use Rattle.rl_base.specs.declared.ids.BlockId.{BlockId}
use Rattle.rl_hir.specs.Blocks.{Pair, block_at, same_id}
use Rattle.rl_hir.specs.Terminals.{successor_ids}
use Rattle.rl_hir.specs.declared.function.BasicBlock.{BasicBlock}
use Rattle.rl_order.specs.Reached.{IsReached}

-- `successor` is one of the blocks to which block `id` of the graph may lead.
pub record LeadsTo (graph : List Pair) (id successor : BlockId) : Type 0 where
  pub block : BasicBlock
  pub found : block_at graph id ≡ Some block
  pub leads : list_any (same_id successor) (successor_ids block.terminal) ≡ true

-- At each block, the predecessors are exactly the blocks that the entry reaches and that lead to it.
abbrev pub PredecessorsReached : List Pair → BlockId → List Pair → Type 0
PredecessorsReached graph entry marked = (id : BlockId) (block : BasicBlock) → block_at marked id ≡ Some block
    → (from : BlockId) → Contains block.preds from ↔ (IsReached graph entry from × LeadsTo graph from id)
