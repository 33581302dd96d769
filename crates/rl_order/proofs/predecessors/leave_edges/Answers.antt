use Rattle.std.proofs.Common.{reverse}
use Rattle.rl_order.proofs.Follows.{back_step}
use Rattle.rl_order.proofs.predecessors.leave_edges.Goals as goal

pub loop-back-preserved : goal.loop-back-preserved
loop-back-preserved c =
    back_step c.args.from c.as_slice-successors.result.now c.loop-back.back (record { 0 = 0 }) c.loop-back.left.items c.push.new.self.items (reverse c.args.left.now.items)
    c.loop-back-test.true c.in_ok-push.ensures.items c.loop-back.invariant
