use Rattle.std.proofs.Common.{◌≡◌, ◌+◌, ◌*◌, ◌≤◌, map, drop}
use Rattle.rl_syntax.specs.Syntax.{pieces_of, syntax}
use Rattle.rl_syntax.specs.Sizes.{size, size_of}
use Rattle.rl_grammar.specs.Grammar.{every}
use Rattle.rl_grammar.proofs.fits.+fitting.Given as goal

-- The size of the tree, and a place among the functions of the cycle for trees of one size.
abbrev pub decreases-fits : goal.decreases-fits
decreases-fits l = 4 * size (syntax l.tree.now) + 1

abbrev pub decreases-fits_one : goal.decreases-fits_one
decreases-fits_one l = 4 * size (syntax l.tree.now)

abbrev pub decreases-each : goal.decreases-each
decreases-each l = 4 * size_of (pieces_of (map syntax l.parts.now)) + 2

abbrev pub decreases-every : goal.decreases-every
decreases-every l = 4 * size_of (pieces_of (map syntax l.items.now)) + 2

abbrev pub invariant-every-items : goal.invariant-every-items
invariant-every-items l = record {
  same : every l.kind (pieces_of (map syntax (drop l.item-index l.items))) ≡ every l.kind (pieces_of (map syntax l.items));
  fewer : size_of (pieces_of (map syntax (drop l.item-index l.items))) ≤ size_of (pieces_of (map syntax l.items));
}
