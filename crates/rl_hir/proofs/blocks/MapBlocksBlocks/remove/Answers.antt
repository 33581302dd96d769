use Rattle.std.proofs.Common.{sym, subst}
use Rattle.rl_hir.proofs.OwnIds.{removed}
use Rattle.rl_hir.proofs.blocks.MapBlocksBlocks.remove.Goals as goal
use Rattle.rl_hir.specs.Blocks.{HaveOwnIds}

pub invariant_of-self : goal.invariant_of-self
invariant_of-self c = subst (λ pairs. HaveOwnIds pairs) (sym c.shift_remove.ensures.entries) (removed c.self.inside.map.entries c.args.id c.self.invariant)
