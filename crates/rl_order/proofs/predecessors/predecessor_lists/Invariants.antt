use Rattle.std.proofs.Common.{◌≡◌, take}
use Rattle.rl_order.specs.PredecessorWalk.{source_lists}
use Rattle.rl_order.proofs.predecessors.predecessor_lists.Given as goal

abbrev pub invariant-loop-edge : goal.invariant-loop-edge
invariant-loop-edge g l = l.lists.items ≡ source_lists (take l.edge-index l.edges) (g.B.Blocks.pairs l.blocks)
