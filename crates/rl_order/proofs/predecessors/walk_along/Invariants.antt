use Rattle.std.proofs.Common.{[], ◌∷◌}
use Rattle.rl_order.specs.PredecessorWalk.{entry_edges}
use Rattle.rl_order.specs.Walked.{Goes, left_of, trail_of, worklist}
use Rattle.rl_order.proofs.predecessors.walk_along.Given as goal

abbrev pub invariant-loop-edge : goal.invariant-loop-edge
invariant-loop-edge g l = Goes (g.B.Blocks.pairs l.blocks) (entry_edges (g.B.Blocks.pairs l.blocks) l.fn.entry) (record { seen = l.fn.entry ∷ []; edges = [] }) (worklist l.walk) (trail_of l.walk)

abbrev pub decreases-loop-edge : goal.decreases-loop-edge
decreases-loop-edge g l = left_of (g.B.Blocks.pairs l.blocks) l.walk
