use Rattle.rl_order.proofs.SourceLists.{one_more_key}
use Rattle.rl_order.proofs.indices.index_by_id.Goals as goal

pub loop-index-preserved : goal.loop-index-preserved
loop-index-preserved g c =
    one_more_key (g.B.Blocks.pairs c.args.blocks.now) c.loop-index.index (c.at.result.0, c.at.result.1.now) c.loop-index.indices.keys c.insert.new.self.keys
    c.len-index-end.ensures.distinct c.at.ensures c.in_ok-insert.ensures.keys c.loop-index.invariant
