use Rattle.std.proofs.Common.{◌≡◌, ◌≤◌, map, drop}
use Rattle.rl_syntax.specs.Sizes.{size, size_of}
use Rattle.rl_syntax.specs.Syntax.{pieces_of, syntax}
use Rattle.rl_ast.specs.Marked.{first, marked_among}
use Rattle.rl_ast.proofs.marked.+finding.Given as goal

abbrev pub decreases-first_marked : goal.decreases-first_marked
decreases-first_marked l = size (syntax l.tree.now)

abbrev pub decreases-first_among : goal.decreases-first_among
decreases-first_among l = size_of (pieces_of (map syntax l.trees.now))

abbrev pub invariant-first_among-trees : goal.invariant-first_among-trees
invariant-first_among-trees l = record {
  same : first (marked_among (pieces_of (map syntax (drop l.tree-index l.trees)))) ≡ first (marked_among (pieces_of (map syntax l.trees)));
  fewer : size_of (pieces_of (map syntax (drop l.tree-index l.trees))) ≤ size_of (pieces_of (map syntax l.trees));
}
