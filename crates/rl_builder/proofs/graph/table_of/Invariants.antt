use Rattle.std.proofs.Common.{◌≡◌, fold}
use Rattle.rl_builder.specs.Build.{table_of}
use Rattle.rl_hir.specs.Blocks.{with_block}
use Rattle.rl_builder.proofs.graph.table_of.Given as goal

-- The table so far, with the blocks that are left.
abbrev pub invariant-loop-id : goal.invariant-loop-id
invariant-loop-id g l = fold (λ table p. with_block table p.0 p.1) (g.B.Blocks.pairs l.blocks) l.id-iterator.rest.items ≡ table_of l.fn.completed.items
