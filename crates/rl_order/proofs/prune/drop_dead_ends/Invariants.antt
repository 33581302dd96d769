use Rattle.rl_order.proofs.DeadEnds.{Ending}
use Rattle.rl_order.proofs.prune.drop_dead_ends.Given as goal

abbrev pub invariant-loop-index : goal.invariant-loop-index
invariant-loop-index g l = Ending (g.B.Blocks.pairs l.fn.blocks) (g.B.Blocks.pairs l.blocks) l.tries.items l.index
