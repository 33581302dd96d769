use Rattle.std.proofs.Common.{◌≡◌, ◌≤◌, map, drop}
use Rattle.rl_promises.specs.Stops.{have_using}
use Rattle.rl_syntax.specs.Sizes.{size, size_of}
use Rattle.rl_syntax.specs.Syntax.{pieces_of, syntax}
use Rattle.rl_stops.proofs.skips.+skipping.Given as goal

abbrev pub decreases-has_using : goal.decreases-has_using
decreases-has_using l = size (syntax l.tree.now)

abbrev pub decreases-have_using : goal.decreases-have_using
decreases-have_using l = size_of (pieces_of (map syntax l.trees.now))

abbrev pub invariant-have_using-trees : goal.invariant-have_using-trees
invariant-have_using-trees l = record {
  same : have_using (pieces_of (map syntax (drop l.tree-index l.trees))) ≡ have_using (pieces_of (map syntax l.trees));
  fewer : size_of (pieces_of (map syntax (drop l.tree-index l.trees))) ≤ size_of (pieces_of (map syntax l.trees));
}
