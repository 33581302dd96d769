use Rattle.std.proofs.Common.{◌≡◌, ◌*◌, ◌≤◌, map, drop}
use Rattle.rl_lint.specs.Late.{has_late_among, has_late_from}
use Rattle.rl_syntax.specs.Sizes.{size, size_of}
use Rattle.rl_syntax.specs.Syntax.{pieces_of, syntax}
use Rattle.rl_lint.proofs.late.+looking.Given as goal

abbrev pub decreases-has_late : goal.decreases-has_late
decreases-has_late l = 2 * size (syntax l.tree.now)

abbrev pub decreases-has_late_from : goal.decreases-has_late_from
decreases-has_late_from l = 2 * size_of (pieces_of (map syntax l.parts.now))

abbrev pub decreases-has_late_among : goal.decreases-has_late_among
decreases-has_late_among l = 2 * size_of (pieces_of (map syntax l.trees.now))

abbrev pub invariant-has_late_from-parts : goal.invariant-has_late_from-parts
invariant-has_late_from-parts l = record {
  looked : has_late_from l.paths l.place l.at l.role l.index (pieces_of (map syntax (drop l.index l.parts)))
      ≡ has_late_from l.paths l.place l.at l.role 0 (pieces_of (map syntax l.parts));
  fewer : size_of (pieces_of (map syntax (drop l.index l.parts))) ≤ size_of (pieces_of (map syntax l.parts));
}

abbrev pub invariant-has_late_among-trees : goal.invariant-has_late_among-trees
invariant-has_late_among-trees l = record {
  looked : has_late_among l.paths l.place (pieces_of (map syntax (drop l.tree-index l.trees)))
      ≡ has_late_among l.paths l.place (pieces_of (map syntax l.trees));
  fewer : size_of (pieces_of (map syntax (drop l.tree-index l.trees))) ≤ size_of (pieces_of (map syntax l.trees));
}
