use Rattle.std.proofs.Common.{◌+◌, length}
use Rattle.rl_order.proofs.Loop.{Holds}
use Rattle.rl_order.proofs.Measure.{total}
use Rattle.rl_order.proofs.Stack.{price}
use Rattle.rl_order.proofs.order.walk.Given as goal

abbrev pub invariant-loop-task : goal.invariant-loop-task
invariant-loop-task g l = Holds (g.B.Blocks.pairs l.fn.blocks) l.fn.entry l.tasks.items l.walked l.fn.steps l.steps

abbrev pub decreases-loop-task : goal.decreases-loop-task
decreases-loop-task g l = length l.tasks.items + total price (g.B.Blocks.pairs l.fn.blocks) l.walked.seen
