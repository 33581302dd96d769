use Rattle.std.proofs.Common.{◌≡◌, Bool, ◌+◌, ◌*◌, ◌≤◌, ◌++◌, map, drop}
use Rattle.rl_model.specs.Orderly.{patterns_among}
use Rattle.rl_syntax.specs.Sizes.{size, size_of}
use Rattle.rl_syntax.specs.Syntax.{Syntax, pieces_of, syntax}
use Rattle.rl_orderly.proofs.patterns.+gathering.Given as goal

abbrev pub decreases-push_patterns : goal.decreases-push_patterns
decreases-push_patterns l = 2 * size (syntax l.tree.now)

abbrev pub decreases-push_as : goal.decreases-push_as
decreases-push_as l = 2 * size_of (pieces_of (map syntax l.parts.now)) + 1

abbrev pub decreases-push_among : goal.decreases-push_among
decreases-push_among l = 2 * size_of (pieces_of (map syntax l.trees.now))

abbrev pub invariant-push_among-trees : goal.invariant-push_among-trees
invariant-push_among-trees l = record {
  walked : map {B = Bool × Syntax} (λ p. (p.0, syntax p.1.now)) l.out.items ++ patterns_among l.tried (pieces_of (map syntax (drop l.tree-index l.trees)))
      ≡ map {B = Bool × Syntax} (λ p. (p.0, syntax p.1.now)) l.initial.out.items ++ patterns_among l.tried (pieces_of (map syntax l.trees));
  fewer : size_of (pieces_of (map syntax (drop l.tree-index l.trees))) ≤ size_of (pieces_of (map syntax l.trees));
}
