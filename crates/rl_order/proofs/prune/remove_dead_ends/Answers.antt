use Rattle.std.proofs.Common.{◌∙◌}
use Rattle.rl_order.proofs.DeadEnds.{cleaned_by}
use Rattle.rl_order.proofs.prune.remove_dead_ends.Goals as goal

pub returns-clause-blocks : goal.returns-clause-blocks
returns-clause-blocks g c =
    cleaned_by (g.B.Blocks.pairs c.args.hir.now.blocks) _ _ _ c.in_ok-tries.ensures.blocks (c.as_slice.ensures.value ∙ c.in_ok-tries.ensures.tries) c.in_ok-drop_tries.ensures.ok
