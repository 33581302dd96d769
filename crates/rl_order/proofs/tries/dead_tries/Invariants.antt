use Rattle.std.proofs.Common.{◌≡◌, ◌++◌, drop}
use Rattle.rl_order.specs.Removals.{dead_tries, is_there}
use Rattle.rl_order.proofs.tries.dead_tries.Given as goal

abbrev pub invariant-loop-index : goal.invariant-loop-index
invariant-loop-index g l =
    l.tries.items ++ dead_tries (is_there (g.B.Blocks.pairs l.blocks)) (drop l.index (g.B.Blocks.pairs l.blocks)) ≡ dead_tries (is_there (g.B.Blocks.pairs l.blocks)) (g.B.Blocks.pairs l.blocks)
