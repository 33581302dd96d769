use Rattle.std.proofs.Common.{◌≡◌, List, length, unwrap_or, arith}
use Rattle.rl_hir.specs.Blocks.{Pair}
use Rattle.rl_order.proofs.DeadEnds.{ending_kinds, ending_step, ending_tries}
use Rattle.rl_order.proofs.RemovalSteps.{value_at}
use Rattle.rl_order.proofs.prune.drop_dead_ends.Goals as goal

pub loop-index-preserved : goal.loop-index-preserved
loop-index-preserved g c =
    let now : List Pair = g.B.Blocks.pairs c.loop-index.blocks in
    let index = c.loop-index.index in
    let p : Pair = (c.at.result.0, c.at.result.1.now) in
    ending_step (g.B.Blocks.pairs c.args.blocks.now) now _ c.loop-index.tries.items _ index p c.dead_try-dead.result (unwrap_or c.live_kind-kind.result p.1.terminal.kind)
    c.loop-index.invariant c.at.ensures c.dead_try-dead.ensures c.in_ok-note_dead.ensures c.live_kind-kind.ensures
    (c.change_kind.ensures p.1 (value_at now index p c.at.ensures))

pub returns-clause-blocks : goal.returns-clause-blocks
returns-clause-blocks g c =
    let all : length (g.B.Blocks.pairs c.args.blocks.now) ≡ c.loop-index.index = omega (arith, c.loop-index-test.false, c.loop-index.auto.index-end, c.len-index-end.ensures.count) in
    ending_kinds _ _ _ c.loop-index.index c.loop-index.invariant all

pub returns-clause-tries : goal.returns-clause-tries
returns-clause-tries g c =
    let all : length (g.B.Blocks.pairs c.args.blocks.now) ≡ c.loop-index.index = omega (arith, c.loop-index-test.false, c.loop-index.auto.index-end, c.len-index-end.ensures.count) in
    ending_tries _ _ _ c.loop-index.index c.loop-index.invariant all
