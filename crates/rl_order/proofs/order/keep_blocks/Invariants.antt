use Rattle.std.proofs.Common.{length}
use Rattle.rl_order.proofs.KeptBlocks.{Keeps}
use Rattle.rl_order.proofs.order.keep_blocks.Given as goal

abbrev pub invariant-loop-id : goal.invariant-loop-id
invariant-loop-id g l = Keeps (g.B.Blocks.pairs l.fn.blocks) l.fn.walked (g.B.Blocks.pairs l.ordered) l.walked

abbrev pub decreases-loop-id : goal.decreases-loop-id
decreases-loop-id g l = length l.walked.appended
