use Rattle.std.proofs.Common.{◌≡◌, [], take}
use Rattle.rl_order.specs.PredecessorWalk.{source_lists}
use Rattle.rl_order.proofs.predecessors.empty_lists.Given as goal

abbrev pub invariant-loop : goal.invariant-loop
invariant-loop g l = l.lists.items ≡ take l.counter (source_lists [] (g.B.Blocks.pairs l.blocks))
