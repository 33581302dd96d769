use Rattle.std.proofs.Common.{List, ◌∙◌}
use Rattle.rl_hir.specs.Blocks.{Pair}
use Rattle.rl_order.proofs.DeadTries.{drop_pair, next_try}
use Rattle.rl_order.specs.Removals.{is_there}
use Rattle.rl_order.proofs.tries.dead_tries.Goals as goal

pub loop-index-preserved : goal.loop-index-preserved
loop-index-preserved g c =
    let graph : List Pair = g.B.Blocks.pairs c.args.blocks.now in
    let index = c.loop-index.index in
    let p : Pair = (c.at.result.0, c.at.result.1.now) in
    next_try (is_there graph) graph index p (drop_pair graph index p c.at.ensures) c.dead_try-dead.result c.dead_try-dead.ensures c.loop-index.tries.items c.note_dead.new.tries.items
    c.in_ok-note_dead.ensures
    ∙ c.loop-index.invariant
