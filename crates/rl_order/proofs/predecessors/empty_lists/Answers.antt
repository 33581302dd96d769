use Rattle.std.proofs.Common.{◌++◌, ◌∷◌, List, [], ap, sym, ◌∙◌, arith, take}
use Rattle.rl_base.specs.declared.ids.BlockId.{BlockId}
use Rattle.rl_hir.specs.Blocks.{Pair}
use Rattle.rl_order.proofs.SourceLists.{one_more_list}
use Rattle.rl_order.specs.PredecessorWalk.{source_lists}
use Rattle.rl_order.proofs.predecessors.empty_lists.Goals as goal

pub loop-preserved : goal.loop-preserved
loop-preserved g c =
    let graph : List Pair = g.B.Blocks.pairs c.args.blocks.now in
    c.in_ok-push.ensures.items
    ∙ ap (λ (t : List (List BlockId)). t ++ c.new.result ∷ []) c.loop.invariant
    ∙ ap (λ (l : List BlockId). take c.loop.counter (source_lists [] graph) ++ l ∷ []) c.new.ensures
    ∙ sym (one_more_list graph c.loop.counter (omega arith))
