use Rattle.std.proofs.Common.{◌≡◌, ◌≤◌, ◌++◌, map, drop}
use Rattle.rl_semantic.specs.Imports.{seen, imports_among}
use Rattle.rl_syntax.specs.Sizes.{size, size_of}
use Rattle.rl_syntax.specs.Syntax.{pieces_of, syntax}
use Rattle.rl_semantic.proofs.imports.+collecting.Given as goal

abbrev pub decreases-push_imports : goal.decreases-push_imports
decreases-push_imports l = size (syntax l.tree.now)

abbrev pub decreases-push_among : goal.decreases-push_among
decreases-push_among l = size_of (pieces_of (map syntax l.trees.now))

abbrev pub invariant-push_among-trees : goal.invariant-push_among-trees
invariant-push_among-trees l = record {
  walked : map seen l.found ++ imports_among (pieces_of (map syntax (drop l.tree-index l.trees))) ≡ map seen l.initial.found ++ imports_among (pieces_of (map syntax l.trees));
  fewer : size_of (pieces_of (map syntax (drop l.tree-index l.trees))) ≤ size_of (pieces_of (map syntax l.trees));
}
