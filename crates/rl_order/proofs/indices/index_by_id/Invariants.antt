use Rattle.std.proofs.Common.{◌≡◌, take}
use Rattle.std.specs.Map.{keys_of}
use Rattle.rl_order.proofs.indices.index_by_id.Given as goal

abbrev pub invariant-loop-index : goal.invariant-loop-index
invariant-loop-index g l = l.indices.keys ≡ take l.index (keys_of (g.B.Blocks.pairs l.blocks))
