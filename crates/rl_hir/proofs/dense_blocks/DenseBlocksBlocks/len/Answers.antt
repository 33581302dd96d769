use Rattle.std.proofs.Common.{List, subst}
use Rattle.rl_hir.proofs.Indexed.{own_ids}
use Rattle.rl_hir.specs.Blocks.{HaveOwnIds, Pair}
use Rattle.rl_hir.proofs.dense_blocks.DenseBlocksBlocks.len.Goals as goal

pub returns-clause-distinct : goal.returns-clause-distinct
returns-clause-distinct c =
    subst (λ (l : List Pair). HaveOwnIds l) c.self.view_is (own_ids c.self.inside.indices c.self.inside.pairs.items c.self.invariant)
