use Rattle.std.proofs.Common.{◌≡◌, fold, take}
use Rattle.rl_hir.specs.IdHashes.{shifted}
use Rattle.rl_hir.proofs.block_sets.IdHasherHasher.write.Given as goal

abbrev pub invariant-loop-byte : goal.invariant-loop-byte
invariant-loop-byte l = l.self.state ≡ fold shifted l.initial.self.state (take l.byte-index l.bytes)
