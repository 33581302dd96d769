use Rattle.std.proofs.Common.{◌≡◌, ◌≤◌, ◌++◌, map, drop}
use Rattle.rl_syntax.specs.Nodes.{entries_among}
use Rattle.rl_syntax.specs.Sizes.{size, size_of}
use Rattle.rl_syntax.specs.Syntax.{pieces_of, syntax}
use Rattle.rl_syntax.proofs.nodes.+listing.Given as goal

abbrev pub decreases-push_entries : goal.decreases-push_entries
decreases-push_entries l = size (syntax l.tree.now)

abbrev pub decreases-push_all : goal.decreases-push_all
decreases-push_all l = size_of (pieces_of (map syntax l.trees.now))

abbrev pub invariant-push_all-trees : goal.invariant-push_all-trees
invariant-push_all-trees l = record {
  listed : l.table ++ entries_among l.parent (pieces_of (map syntax (drop l.tree-index l.trees))) ≡ l.initial.table ++ entries_among l.parent (pieces_of (map syntax l.trees));
  fewer : size_of (pieces_of (map syntax (drop l.tree-index l.trees))) ≤ size_of (pieces_of (map syntax l.trees));
}
