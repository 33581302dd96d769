use Rattle.std.proofs.Common.{sym, subst}
use Rattle.rl_hir.proofs.OwnIds.{put}
use Rattle.rl_hir.proofs.blocks.MapBlocksBlocks.put.Goals as goal
use Rattle.rl_hir.specs.Blocks.{HaveOwnIds}

pub invariant_of-self-2 : goal.invariant_of-self-2
invariant_of-self-2 c = subst (λ pairs. HaveOwnIds pairs) (sym c.in_ok-insert.ensures.entries) (put c.self.inside.map.entries c.args.id c.args.block c.self.invariant)
