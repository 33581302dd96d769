use Rattle.std.proofs.Common.{◌≡◌, true, take}
use Rattle.std.specs.List.{list_all}
use Rattle.rl_order.proofs.WholeGraphs.{inside}
use Rattle.rl_order.proofs.checks.is_whole.Given as goal

abbrev pub invariant-loop-index : goal.invariant-loop-index
invariant-loop-index g l = list_all (inside (g.B.Blocks.pairs l.hir.blocks)) (take l.index (g.B.Blocks.pairs l.hir.blocks)) ≡ true
