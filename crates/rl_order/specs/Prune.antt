-- Graphs in their order, without what names dropped blocks, numbered, and with their predecessors.
use Rattle.std.specs.Prelude.{◌≡◌, List, [], ◌∷◌}
use Rattle.rl_base.specs.declared.ids.BlockId.{BlockId}
use Rattle.rl_hir.specs.Blocks.{Pair}
use Rattle.rl_hir.specs.declared.instruction.Instruction.{Instruction}
use Rattle.rl_order.specs.Numbering.{ordered_blocks, ordered_table}
use Rattle.rl_order.specs.PredecessorWalk.{IsMarked}
use Rattle.rl_order.specs.Removals.{without_dead_do_whiles, without_dead_tries, without_unreachable_updates}
use Rattle.rl_order.specs.Walk.{IsOrdered}

-- The blocks after the three removals, in their order.
abbrev pub cleaned : List Pair → List Pair
cleaned pairs = without_dead_tries (without_dead_do_whiles (without_unreachable_updates pairs))

-- `part` is `all` without some of its items, in order.
pub data IsPart : (part all : List BlockId) → Type 0 where
  Ends : IsPart [] []
  Keeps : (id : BlockId) (part all : List BlockId) → IsPart part all → IsPart (id ∷ part) (id ∷ all)
  Drops : (id : BlockId) (part all : List BlockId) → IsPart part all → IsPart part (id ∷ all)

-- `pruned` is the graph in its order after the removals, with orders from 1 and with predecessors; `numbered` is the instruction table
-- `table` with the orders that its blocks give.
pub record IsPruned (graph : List Pair) (entry : BlockId) (table : List Instruction) (pruned : List Pair) (numbered : List Instruction) : Type 0 where
  pub ordered : List Pair
  pub order : IsOrdered graph entry ordered
  pub marked : IsMarked (ordered_blocks 1 (cleaned ordered)) entry pruned
  pub orders : numbered ≡ ordered_table 1 (cleaned ordered) table
