use Rattle.std.proofs.Common.{◌≡◌, ◌++◌, false, map, rules}
use Rattle.rl_hir.specs.Listing as spec
use Rattle.rl_hir.proofs.Listings.{block_written, block_writable}
use Rattle.rl_text.specs.Raw.{parts_of}
use Rattle.rl_text.specs.Spaced.{gap, separated}
use Rattle.rl_hir.proofs.listing.write_blocks.Goals as goal
use Rattle.rl_hir.proofs.listing.write_blocks.Goals.{then-spaced+in_ok-push, else-spaced}

pub loop-index-preserved : goal.loop-index-preserved
loop-index-preserved g c =
    let pairs = g.B.Blocks.pairs c.args.blocks.now in
    let gapped : c.if-spaced.out.items ≡ c.loop-index.out.items ++ gap c.loop-index.spaced = elim c.if-spaced.branch [ then-spaced+in_ok-push w ↦ search rules | else-spaced w ↦ search rules ] in
    record {
      written =
          block_written c.loop-index.out.items c.if-spaced.out.items c.write_block.new.out.items (c.args.out.now.items ++ separated false (parts_of (map spec.block pairs))) c.loop-index.spaced pairs c.loop-index.index (c.at.result.0, c.at.result.1.now)
          c.at.ensures gapped c.in_ok-write_block.ensures.written c.loop-index.invariant.written;
      writable = λ rest. c.loop-index.invariant.writable (block_writable pairs c.loop-index.index (c.at.result.0, c.at.result.1.now) c.at.ensures c.in_ok-write_block.ensures.writable rest);
    }
