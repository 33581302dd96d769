use Rattle.std.proofs.Common.{◌≡◌, List, Some, ap, filter, not, sym, ◌∙◌}
use Rattle.rl_base.specs.declared.ids.BlockId.{BlockId}
use Rattle.rl_hir.specs.Blocks.{Pair, same_id}
use Rattle.rl_hir.specs.declared.function.BasicBlock.{BasicBlock}
use Rattle.rl_order.proofs.DeadTries.{preds_changed}
use Rattle.rl_order.proofs.RemovalSteps.{value_at}
use Rattle.rl_order.proofs.tries.drop_predecessor.Goals as goal

pub returns-clause-ok : goal.returns-clause-ok
returns-clause-ok g c =
    let graph : List Pair = g.B.Blocks.pairs c.args.blocks.now in
    let index = c.in-Some.index in
    let block : BasicBlock = c.take_block-block.result in
    let same : c.at.result.1.now ≡ block =
    (let both : Some c.at.result.1.now ≡ Some block = sym (value_at graph index (c.at.result.0, c.at.result.1.now) c.at.ensures) ∙ c.take_block-block.ensures.value in cc) in
    let rest : List BlockId → List BlockId = filter (λ (other : BlockId). not (same_id c.args.id other)) in
    let preds : c.in_ok-preds.preds ≡ rest block.preds = c.in_ok-preds.ensures ∙ ap rest c.as_slice.ensures ∙ ap (λ (b : BasicBlock). rest b.preds) same in
    rw c.in-Some.is
    (preds_changed graph (g.B.Blocks.pairs c.set_at.new.self) index c.args.id block c.in_ok-preds.preds c.take_block-block.ensures.value preds (c.set_at.ensures.new ∙ c.take_block-block.ensures.free _))
