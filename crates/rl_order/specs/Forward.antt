-- The direction of the edges of an ordered graph.
use Rattle.std.specs.Prelude.{◌≡◌, ℕ, ◌<◌, true, ◌⊎◌, Some, List, slice_get}
use Rattle.std.specs.List.{list_any}
use Rattle.rl_base.specs.declared.ids.BlockId.{BlockId}
use Rattle.rl_hir.specs.Blocks.{Pair, block_at, same_id}
use Rattle.rl_hir.specs.Terminals.{successor_ids}
use Rattle.rl_hir.specs.declared.function.BasicBlock.{BasicBlock}
use Rattle.rl_order.specs.Walk.{leads_to}

-- An edge of the graph: `to` is a successor or the fallthrough of the block `from`.
pub record Leads (graph : List Pair) (from to : BlockId) : Type 0 where
  pub block : BasicBlock
  pub there : block_at graph from ≡ Some block
  pub leads : list_any (same_id to) (leads_to block) ≡ true

-- A path of edges, from one block to another.
pub data Reaches (graph : List Pair) : BlockId → BlockId → Type 0 where
  Stays : (a : BlockId) → Reaches graph a a
  Leaves : (a b c : BlockId) → Leads graph a b → Reaches graph b c → Reaches graph a c

-- Two blocks lie on a cycle of edges.
abbrev pub OnCycle : List Pair → BlockId → BlockId → Type 0
OnCycle graph a b = Reaches graph a b × Reaches graph b a

-- A successor of an ordered block that is among the ordered blocks stands behind the block, or lies on a cycle of the graph
-- with it.
abbrev pub GoesForward : (graph ordered : List Pair) → Type 0
GoesForward graph ordered =
    (i j : ℕ) (from to : Pair) → slice_get ordered i ≡ Some from → slice_get ordered j ≡ Some to
    → list_any (same_id to.0) (successor_ids from.1.terminal) ≡ true
    → (i < j) ⊎ OnCycle graph from.0 to.0
