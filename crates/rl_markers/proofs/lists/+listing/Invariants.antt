use Rattle.std.proofs.Common.{◌≡◌, ◌+◌, ◌*◌, ◌≤◌, ◌++◌, map, drop}
use Rattle.rl_markers.specs.Lists.{seen}
use Rattle.rl_model.specs.Hoisting.{lists_among}
use Rattle.rl_syntax.specs.Sizes.{size, size_of}
use Rattle.rl_syntax.specs.Syntax.{pieces_of, syntax}
use Rattle.rl_markers.proofs.lists.+listing.Given as goal

abbrev pub decreases-push_lists : goal.decreases-push_lists
decreases-push_lists l = 2 * size (syntax l.tree.now)

abbrev pub decreases-push_node : goal.decreases-push_node
decreases-push_node l = 2 * size_of (pieces_of (map syntax l.parts.now)) + 1

abbrev pub decreases-push_among : goal.decreases-push_among
decreases-push_among l = 2 * size_of (pieces_of (map syntax l.trees.now))

abbrev pub invariant-push_among-trees : goal.invariant-push_among-trees
invariant-push_among-trees l = record {
  walked : map seen l.out.items ++ lists_among (pieces_of (map syntax (drop l.tree-index l.trees)))
      ≡ map seen l.initial.out.items ++ lists_among (pieces_of (map syntax l.trees));
  fewer : size_of (pieces_of (map syntax (drop l.tree-index l.trees))) ≤ size_of (pieces_of (map syntax l.trees));
}
