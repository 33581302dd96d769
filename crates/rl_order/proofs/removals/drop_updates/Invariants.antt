use Rattle.rl_order.specs.Removals.{is_there, live_for}
use Rattle.rl_order.proofs.RemovalSteps.{Changing}
use Rattle.rl_order.proofs.removals.drop_updates.Given as goal

abbrev pub invariant-loop-index : goal.invariant-loop-index
invariant-loop-index g l = Changing (live_for (is_there (g.B.Blocks.pairs l.fn.blocks))) (g.B.Blocks.pairs l.fn.blocks) (g.B.Blocks.pairs l.blocks) l.index
