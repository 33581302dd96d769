use Rattle.std.proofs.Common.{◌+◌, drop, length}
use Rattle.rl_machine.specs.Machine.{positions}
use Rattle.rl_graph_steps.proofs.Functions.{one_more, room_on, sum_on}
use Rattle.rl_graph_steps.proofs.graph.positions.Goals as goal

pub loop-index-preserved : goal.loop-index-preserved
loop-index-preserved c = record {
  sum = sum_on c.loop-index.count (positions c.args.blocks.now) c.positions_in-more.result (length c.at.result.1.now.instructions)
      (positions (drop (c.loop-index.index + 1) c.args.blocks.now)) (positions (drop c.loop-index.index c.args.blocks.now))
      c.loop-index.invariant.sum
      (one_more c.args.blocks.now c.loop-index.index (c.at.result.0, c.at.result.1.now) c.at.ensures) c.positions_in-more.ensures.count;
  room = room_on c.loop-index.count c.loop-index.index c.positions_in-more.result c.loop-index.invariant.room
      c.positions_in-more.ensures.fits;
}
