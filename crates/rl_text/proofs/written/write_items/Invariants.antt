use Rattle.std.proofs.Common.{◌≡◌, ◌++◌, drop, map}
use Rattle.rl_text.specs.Notation.{AreWritable}
use Rattle.rl_text.specs.Raw.{parts_of}
use Rattle.rl_text.specs.Spaced.{separated}
use Rattle.rl_text.proofs.written.write_items.Given as goal

abbrev pub invariant-items : goal.invariant-items
invariant-items g l = record {
  written :
      l.out.items ++ separated l.spaced (parts_of (map g.V.Shows.shows (drop l.item-index l.items)))
      ≡ l.initial.out.items ++ separated l.apart (parts_of (map g.V.Shows.shows l.items));
  writable : AreWritable (parts_of (map g.V.Shows.shows (drop l.item-index l.items))) → AreWritable (parts_of (map g.V.Shows.shows l.items));
}
