use Rattle.std.proofs.Common.{◌≡◌, ◌+◌, ◌*◌, ◌≤◌, map, drop}
use Rattle.rl_model.specs.Applied.{has_this_among}
use Rattle.rl_syntax.specs.Sizes.{size, size_of}
use Rattle.rl_syntax.specs.Syntax.{pieces_of, syntax}
use Rattle.rl_row_names.proofs.parameters.+finding.Given as goal

abbrev pub decreases-has_this : goal.decreases-has_this
decreases-has_this l = 2 * size (syntax l.tree.now)

abbrev pub decreases-has_this_as : goal.decreases-has_this_as
decreases-has_this_as l = 2 * size_of (pieces_of (map syntax l.parts.now)) + 1

abbrev pub decreases-has_this_among : goal.decreases-has_this_among
decreases-has_this_among l = 2 * size_of (pieces_of (map syntax l.trees.now))

abbrev pub invariant-has_this_among-trees : goal.invariant-has_this_among-trees
invariant-has_this_among-trees l = record {
  same : has_this_among (pieces_of (map syntax (drop l.tree-index l.trees))) ≡ has_this_among (pieces_of (map syntax l.trees));
  fewer : size_of (pieces_of (map syntax (drop l.tree-index l.trees))) ≤ size_of (pieces_of (map syntax l.trees));
}
