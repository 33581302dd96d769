use Rattle.std.proofs.Common.{◌+◌, ◌*◌, ◌≤◌, map, drop}
use Rattle.rl_lint.proofs.Referring.{Going}
use Rattle.rl_syntax.specs.Sizes.{size, size_of}
use Rattle.rl_syntax.specs.Syntax.{pieces_of, syntax}
use Rattle.rl_lint.proofs.labels.+walking.Given as goal

abbrev pub decreases-walk_tree : goal.decreases-walk_tree
decreases-walk_tree l = 4 * size (syntax l.tree.now)

abbrev pub decreases-walk_node : goal.decreases-walk_node
decreases-walk_node l = 4 * size_of (pieces_of (map syntax l.parts.now)) + 2

abbrev pub decreases-walk_function : goal.decreases-walk_function
decreases-walk_function l = 4 * size_of (pieces_of (map syntax l.parts.now)) + 1

abbrev pub decreases-walk_labeled : goal.decreases-walk_labeled
decreases-walk_labeled l = 4 * size_of (pieces_of (map syntax l.parts.now)) + 1

abbrev pub decreases-walk_jump : goal.decreases-walk_jump
decreases-walk_jump l = 4 * size_of (pieces_of (map syntax l.parts.now)) + 1

abbrev pub decreases-walk_among : goal.decreases-walk_among
decreases-walk_among l = 4 * size_of (pieces_of (map syntax l.trees.now))

abbrev pub invariant-walk_among-trees : goal.invariant-walk_among-trees
invariant-walk_among-trees l = record {
  going : Going l.initial.found.items l.found.items l.initial.seen l.seen l.trees (drop l.tree-index l.trees);
  fewer : size_of (pieces_of (map syntax (drop l.tree-index l.trees))) ≤ size_of (pieces_of (map syntax l.trees));
}
