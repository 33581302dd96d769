use Rattle.std.proofs.Common.{◌≡◌, drop}
use Rattle.rl_builder.specs.Dropped.{refused_blocks}
use Rattle.rl_builder.proofs.Refusals.{with_more}
use Rattle.rl_builder.proofs.graph.refuse_dropped.Given as goal

-- The refusals so far, with those of the blocks that are left.
abbrev pub invariant-loop-place : goal.invariant-loop-place
invariant-loop-place g l =
    with_more l.env (refused_blocks l.table (g.B.Blocks.pairs l.ordered) (drop l.place (g.B.Blocks.pairs l.blocks)))
    ≡ with_more l.fn.env (refused_blocks l.table (g.B.Blocks.pairs l.ordered) (g.B.Blocks.pairs l.blocks))
