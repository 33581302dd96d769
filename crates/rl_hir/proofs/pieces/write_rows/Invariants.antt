use Rattle.std.proofs.Common.{◌≡◌, ◌++◌, drop}
use Rattle.rl_text.specs.Notation.{AreWritable}
use Rattle.rl_text.specs.Spaced.{spaced}
use Rattle.rl_hir.specs.Pieces.{row_parts, gathered}
use Rattle.rl_hir.proofs.pieces.write_rows.Given as goal

abbrev pub invariant-items : goal.invariant-items
invariant-items g l = record {
  written :
      l.out.items ++ spaced (row_parts l.row (gathered g.T.Pieces.pieces (drop l.item-index l.items)))
      ≡ l.initial.out.items ++ spaced (row_parts l.row (gathered g.T.Pieces.pieces l.items));
  writable : AreWritable (row_parts l.row (gathered g.T.Pieces.pieces (drop l.item-index l.items))) → AreWritable (row_parts l.row (gathered g.T.Pieces.pieces l.items));
}
