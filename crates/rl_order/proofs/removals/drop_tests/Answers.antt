use Rattle.std.proofs.Common.{◌≡◌, List, unwrap_or, slice_get, Some, ◌∙◌}
use Rattle.std.specs.Map.{values_of}
use Rattle.rl_hir.specs.Blocks.{Pair}
use Rattle.rl_hir.specs.declared.function.BasicBlock.{BasicBlock}
use Rattle.rl_order.specs.Removals.{is_there, live_do_while}
use Rattle.rl_order.proofs.RemovalSteps.{changing_step, same_kind, value_at}
use Rattle.rl_order.proofs.removals.drop_tests.Goals as goal

pub loop-index-preserved : goal.loop-index-preserved
loop-index-preserved g c =
    let pairs : List Pair = g.B.Blocks.pairs c.args.blocks.now in
    let now : List Pair = g.B.Blocks.pairs c.loop-index.blocks in
    let index = c.loop-index.index in
    let block : BasicBlock = c.at.result.1.now in
    let at : slice_get (values_of now) index ≡ Some block = value_at now index (c.at.result.0, block) c.at.ensures in
    changing_step (live_do_while (is_there pairs)) pairs now _ index block (unwrap_or c.without_test-kind.result block.terminal.kind)
    c.loop-index.invariant at (c.without_test-kind.ensures ∙ same_kind live_do_while pairs now c.loop-index.invariant.there block.terminal.kind) (c.change_kind.ensures block at)
