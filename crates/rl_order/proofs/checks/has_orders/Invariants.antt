use Rattle.std.proofs.Common.{◌≡◌, ◌+◌, All, drop, take}
use Rattle.rl_order.proofs.WholeGraphs.{Within}
use Rattle.rl_order.specs.Numbering.{orders_of}
use Rattle.rl_order.proofs.checks.has_orders.Given as goal

abbrev pub invariant-loop-index : goal.invariant-loop-index
invariant-loop-index g l =
    record {
      within : All (Within l.table) (take l.index (g.B.Blocks.pairs l.hir.blocks));
      room : l.count + orders_of (drop l.index (g.B.Blocks.pairs l.hir.blocks)) ≡ orders_of (g.B.Blocks.pairs l.hir.blocks);
    }
