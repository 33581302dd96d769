use Rattle.std.proofs.Common.{◌≡◌, ◌≤◌, map, drop}
use Rattle.rl_syntax.specs.Sizes.{size, size_of}
use Rattle.rl_syntax.specs.Syntax.{pieces_of, syntax}
use Rattle.rl_ast.specs.Marked.{first}
use Rattle.rl_promises.specs.Covered.{uncovered_among}
use Rattle.rl_covered.proofs.covered.+covering.Given as goal

abbrev pub decreases-least_in : goal.decreases-least_in
decreases-least_in l = size (syntax l.tree.now)

abbrev pub decreases-least_among : goal.decreases-least_among
decreases-least_among l = size_of (pieces_of (map syntax l.trees.now))

abbrev pub invariant-least_among-trees : goal.invariant-least_among-trees
invariant-least_among-trees l = record {
  same : first (uncovered_among (pieces_of (map syntax (drop l.tree-index l.trees))))
      ≡ first (uncovered_among (pieces_of (map syntax l.trees)));
  fewer : size_of (pieces_of (map syntax (drop l.tree-index l.trees))) ≤ size_of (pieces_of (map syntax l.trees));
}
