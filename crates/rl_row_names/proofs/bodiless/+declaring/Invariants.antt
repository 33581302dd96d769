use Rattle.std.proofs.Common.{◌≡◌, ◌≤◌, map, drop}
use Rattle.rl_row_names.specs.Bodiless.{clear_bodiless_among}
use Rattle.rl_syntax.specs.Sizes.{size, size_of}
use Rattle.rl_syntax.specs.Syntax.{pieces_of, syntax}
use Rattle.rl_row_names.proofs.bodiless.+declaring.Given as goal

abbrev pub decreases-is_bodiless_clear : goal.decreases-is_bodiless_clear
decreases-is_bodiless_clear g l = size (syntax l.tree.now)

abbrev pub decreases-are_bodiless_clear : goal.decreases-are_bodiless_clear
decreases-are_bodiless_clear g l = size_of (pieces_of (map syntax l.trees.now))

abbrev pub invariant-are_bodiless_clear-trees : goal.invariant-are_bodiless_clear-trees
invariant-are_bodiless_clear-trees g l = record {
  same : clear_bodiless_among (g.F.RowFacts.facts l.facts) (pieces_of (map syntax (drop l.tree-index l.trees)))
      ≡ clear_bodiless_among (g.F.RowFacts.facts l.facts) (pieces_of (map syntax l.trees));
  fewer : size_of (pieces_of (map syntax (drop l.tree-index l.trees))) ≤ size_of (pieces_of (map syntax l.trees));
}
