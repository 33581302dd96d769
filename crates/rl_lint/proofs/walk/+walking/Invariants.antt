use Rattle.std.proofs.Common.{◌≡◌, ◌*◌, ◌≤◌, ◌++◌, map, drop}
use Rattle.rl_lint.specs.Sites.{sites_from, sites_among}
use Rattle.rl_syntax.specs.Sizes.{size, size_of}
use Rattle.rl_syntax.specs.Syntax.{pieces_of, syntax}
use Rattle.rl_lint.proofs.walk.+walking.Given as goal

abbrev pub decreases-push_sites : goal.decreases-push_sites
decreases-push_sites l = 2 * size (syntax l.tree.now)

abbrev pub decreases-push_from : goal.decreases-push_from
decreases-push_from l = 2 * size_of (pieces_of (map syntax l.parts.now))

abbrev pub decreases-push_among : goal.decreases-push_among
decreases-push_among l = 2 * size_of (pieces_of (map syntax l.trees.now))

abbrev pub invariant-push_from-parts : goal.invariant-push_from-parts
invariant-push_from-parts l = record {
  walked : l.out ++ sites_from l.above l.at l.role l.index (pieces_of (map syntax (drop l.index l.parts)))
      ≡ l.initial.out ++ sites_from l.above l.at l.role 0 (pieces_of (map syntax l.parts));
  fewer : size_of (pieces_of (map syntax (drop l.index l.parts))) ≤ size_of (pieces_of (map syntax l.parts));
}

abbrev pub invariant-push_among-trees : goal.invariant-push_among-trees
invariant-push_among-trees l = record {
  walked : l.out ++ sites_among l.above (pieces_of (map syntax (drop l.tree-index l.trees)))
      ≡ l.initial.out ++ sites_among l.above (pieces_of (map syntax l.trees));
  fewer : size_of (pieces_of (map syntax (drop l.tree-index l.trees))) ≤ size_of (pieces_of (map syntax l.trees));
}
