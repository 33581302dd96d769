use Rattle.std.proofs.Common.{◌≡◌, ◌++◌, ◌∷◌, List, [], length, slice_get, Some, ap, sym, ◌∙◌, subst, arith}
use Rattle.std.specs.Map.{values_of}
use Rattle.rl_base.specs.declared.ids.BlockId.{BlockId}
use Rattle.rl_hir.specs.Blocks.{Pair, with_block_at}
use Rattle.rl_hir.specs.declared.function.BasicBlock.{BasicBlock}
use Rattle.rl_order.proofs.Follows.{empty_list}
use Rattle.rl_order.proofs.TakenBlocks.{same_count}
use Rattle.rl_order.proofs.SourceLists.{last_list, no_lists}
use Rattle.rl_order.specs.Walked.{with_lists}
use Rattle.rl_order.proofs.predecessors.set_predecessors.Goals as goal

pub loop-list-preserved : goal.loop-list-preserved
loop-list-preserved g c =
    let now : List Pair = g.B.Blocks.pairs c.loop-list.blocks in
    let after : List Pair = g.B.Blocks.pairs c.set_at.new.self in
    let rest : List (List BlockId) = c.pop.new.self.items in
    let list : List BlockId = c.in-Some.list in
    let block : BasicBlock = c.take_block-block.result in
    let index : c.len-index.result ≡ length rest = omega arith in
    let put : after ≡ with_block_at now c.len-index.result (record block { preds = list }) = c.set_at.ensures.new ∙ c.take_block-block.ensures.free (record block { preds = list }) in
    let at : slice_get (values_of now) (length rest) ≡ Some block = subst (λ n. slice_get (values_of now) n ≡ Some block) index c.take_block-block.ensures.value in
    let put1 : after ≡ with_block_at now (length rest) (record block { preds = list }) = subst (λ n. after ≡ with_block_at now n (record block { preds = list })) index put in
    let items : c.loop-list.lists.items ≡ rest ++ list ∷ [] = c.in-Some.ensures.items in
    let count : length after ≡ length now = same_count now after c.len-index.result (record block { preds = list }) put in
    record {
      blocks = last_list now after rest list block at put1 ∙ ap (λ (t : List (List BlockId)). with_lists now t) (sym items) ∙ c.loop-list.invariant.blocks;
      within = omega (arith, count, c.loop-list.invariant.within);
    }

pub returns : goal.returns
returns g c =
    let none : c.loop-list.lists.items ≡ [] = empty_list c.loop-list.lists.items (omega (arith, c.in_default.ensures.cases.0)) in
    sym (no_lists (g.B.Blocks.pairs c.loop-list.blocks) c.loop-list.lists.items none) ∙ c.loop-list.invariant.blocks
