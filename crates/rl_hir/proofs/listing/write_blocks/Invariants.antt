use Rattle.std.proofs.Common.{◌≡◌, ◌++◌, false, drop, map}
use Rattle.rl_text.specs.Notation.{AreWritable}
use Rattle.rl_text.specs.Raw.{parts_of}
use Rattle.rl_text.specs.Spaced.{separated}
use Rattle.rl_hir.specs.Listing as spec
use Rattle.rl_hir.proofs.listing.write_blocks.Given as goal

abbrev pub invariant-loop-index : goal.invariant-loop-index
invariant-loop-index g l = record {
  written :
      l.out.items ++ separated l.spaced (parts_of (map spec.block (drop l.index (g.B.Blocks.pairs l.blocks))))
      ≡ l.initial.out.items ++ separated false (parts_of (map spec.block (g.B.Blocks.pairs l.blocks)));
  writable : AreWritable (parts_of (map spec.block (drop l.index (g.B.Blocks.pairs l.blocks)))) → AreWritable (parts_of (map spec.block (g.B.Blocks.pairs l.blocks)));
}
