use Rattle.rl_hir.specs.Indexed.{IsIndexedBelow}
use Rattle.rl_hir.proofs.dense_blocks.PairIndices.renumber.Given as goal

abbrev pub invariant-loop-index : goal.invariant-loop-index
invariant-loop-index l = IsIndexedBelow l.self l.index l.pairs
