use Rattle.std.proofs.Common.{◌≡◌, drop, fold}
use Rattle.std.specs.Map.{keys_of}
use Rattle.rl_hir.specs.Blocks.{kept}
use Rattle.rl_order.specs.Removals.{without_try}
use Rattle.rl_order.proofs.tries.drop_tries.Given as goal

-- The `try`s that are left are dropped from the blocks that are kept
abbrev pub invariant-loop-dead : goal.invariant-loop-dead
invariant-loop-dead g l =
    record {
      rest : fold (λ now dead. without_try dead now) (kept l.lost.keys (g.B.Blocks.pairs l.blocks)) (drop l.dead-index l.fn.tries) ≡ fold (λ now dead. without_try dead now) (g.B.Blocks.pairs l.fn.blocks) l.fn.tries;
      keys : keys_of (g.B.Blocks.pairs l.blocks) ≡ keys_of (g.B.Blocks.pairs l.fn.blocks);
    }
