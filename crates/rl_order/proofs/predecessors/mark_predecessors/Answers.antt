use Rattle.std.proofs.Common.{ap, ◌∙◌}
use Rattle.rl_order.proofs.PredecessorsReached.{predecessors_reached}
use Rattle.rl_order.proofs.SourceLists.{is_marked}
use Rattle.rl_order.specs.PredecessorWalk.{source_lists}
use Rattle.rl_order.proofs.predecessors.mark_predecessors.Goals as goal

pub returns-clause-walked : goal.returns-clause-walked
returns-clause-walked g c =
    is_marked (g.B.Blocks.pairs c.args.hir.now.blocks) _ c.args.hir.now.entry c.in_ok-edges.edges.items c.in_ok-lists.lists.items c.in_ok-edges.ensures
    (c.in_ok-lists.ensures ∙ ap (λ e. source_lists e (g.B.Blocks.pairs c.args.hir.now.blocks)) c.as_slice.ensures.value) c.set_predecessors.ensures

pub returns-clause-reached : goal.returns-clause-reached
returns-clause-reached g c = predecessors_reached (g.B.Blocks.pairs c.args.hir.now.blocks) _ c.args.hir.now.entry (returns-clause-walked g c)
