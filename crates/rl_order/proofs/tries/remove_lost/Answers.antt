use Rattle.std.proofs.Common.{List, ap, sym, ◌∙◌}
use Rattle.rl_base.specs.declared.ids.BlockId.{BlockId}
use Rattle.rl_hir.proofs.KeptBlocks.{kept_all}
use Rattle.rl_hir.specs.Blocks.{Pair, kept}
use Rattle.rl_order.proofs.Follows.{empty_list}
use Rattle.rl_order.proofs.tries.remove_lost.Goals as goal

-- All blocks stay if none is lost.
pub returns-then-is_empty : goal.returns-then-is_empty
returns-then-is_empty g c =
    let graph : List Pair = g.B.Blocks.pairs c.args.blocks.now in
    sym (ap (λ (l : List BlockId). kept l graph) (empty_list c.args.lost.now.keys (c.is_empty.ensures.0 c.if-is_empty.true)) ∙ kept_all graph)
