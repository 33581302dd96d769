use Rattle.std.proofs.Common.{arith}
use Rattle.rl_order.proofs.Pruning.{ordered_once, ordered_orders, ordered_within}
use Rattle.rl_order.proofs.prune.prune.Goals as goal

pub clean-requires-clause-within : goal.clean-requires-clause-within
clean-requires-clause-within g c =
    ordered_within _ (g.B.Blocks.pairs c.args.hir.now.blocks) c.args.hir.now.entry (g.B.Blocks.pairs c.in_ok-blocks.blocks) c.in_ok-blocks.ensures.ordered c.requires.within

pub clean-requires-clause-room : goal.clean-requires-clause-room
clean-requires-clause-room g c =
    let fewer = ordered_orders (g.B.Blocks.pairs c.args.hir.now.blocks) c.args.hir.now.entry (g.B.Blocks.pairs c.in_ok-blocks.blocks) c.in_ok-blocks.ensures.ordered in
    omega (arith, fewer, c.requires.room)

pub returns-clause-pruned : goal.returns-clause-pruned
returns-clause-pruned g c = record {
  ordered = g.B.Blocks.pairs c.in_ok-blocks.blocks;
  order = c.in_ok-blocks.ensures.ordered;
  marked = c.in_ok-clean.ensures.marked;
  orders = c.in_ok-clean.ensures.orders;
}

pub returns-clause-numbered : goal.returns-clause-numbered
returns-clause-numbered g c once none =
    c.in_ok-clean.ensures.numbered (ordered_once (g.B.Blocks.pairs c.args.hir.now.blocks) c.args.hir.now.entry (g.B.Blocks.pairs c.in_ok-blocks.blocks) c.in_ok-blocks.ensures.ordered once) none

pub returns-clause-steps : goal.returns-clause-steps
returns-clause-steps g c =
    let counted = c.in_ok-blocks.ensures.steps in (
      record { ordered = g.B.Blocks.pairs c.in_ok-blocks.blocks; order = counted.0; marked = c.in_ok-clean.ensures.marked; orders = c.in_ok-clean.ensures.orders },
      counted.1,
    )
