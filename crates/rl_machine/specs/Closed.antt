-- Closed graphs: every block that a reached block names is there.
use Rattle.std.specs.Prelude.{◌≡◌, Some, List, Contains}
use Rattle.rl_base.specs.declared.ids.BlockId.{BlockId}
use Rattle.rl_hir.specs.Blocks.{Pair, block_at}
use Rattle.rl_hir.specs.Terminals.{named_ids}
use Rattle.rl_hir.specs.declared.terminal.TerminalKind.TheVariants as kinds
use Rattle.rl_hir.specs.declared.function.BasicBlock.{BasicBlock}
use Rattle.rl_hir.specs.declared.function.Hir.{Hir}
use Rattle.rl_order.specs.Reached.{IsReached}

abbrev pub IsBlock : List Pair → BlockId → Type 0
IsBlock graph id = (block : BasicBlock) × (block_at graph id ≡ Some block)

-- The entry is a block of the graph, each block that a reached block names is one, and no reached block ends as unreachable.
pub record IsClosed (hir : Hir (List Pair)) : Type 0 where
  pub entry_block : IsBlock hir.blocks hir.entry
  pub names : (id other : BlockId) (block : BasicBlock) → IsReached hir.blocks hir.entry id → block_at hir.blocks id ≡ Some block
      → Contains (named_ids block.terminal) other → IsBlock hir.blocks other
  pub ends : (id : BlockId) (block : BasicBlock) → IsReached hir.blocks hir.entry id → block_at hir.blocks id ≡ Some block
      → block.terminal.kind ≡ kinds.Unreachable → ⊥
