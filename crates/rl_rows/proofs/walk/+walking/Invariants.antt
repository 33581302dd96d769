use Rattle.std.proofs.Common.{◌≡◌, ◌+◌, ◌*◌, ◌≤◌, map, drop}
use Rattle.rl_row_forms.specs.Aboves.{seen}
use Rattle.rl_row_forms.specs.Labels.{labels_of}
use Rattle.rl_rows.specs.Clear.{clear_among}
use Rattle.rl_rows.specs.Plans.{clear_from}
use Rattle.rl_syntax.specs.Sizes.{size, size_of}
use Rattle.rl_syntax.specs.Syntax.{pieces_of, syntax}
use Rattle.rl_rows.proofs.walk.+walking.Given as goal

abbrev pub decreases-is_clear : goal.decreases-is_clear
decreases-is_clear g l = 5 * size (syntax l.tree.now)

abbrev pub decreases-node_is_clear : goal.decreases-node_is_clear
decreases-node_is_clear g l = 5 * size_of (pieces_of (map syntax l.parts.now)) + 4

abbrev pub decreases-inside_is_clear : goal.decreases-inside_is_clear
decreases-inside_is_clear g l = 5 * size_of (pieces_of (map syntax l.parts.now)) + 3

abbrev pub decreases-below_is_clear : goal.decreases-below_is_clear
decreases-below_is_clear g l = 5 * size_of (pieces_of (map syntax l.parts.now)) + 2

abbrev pub decreases-function_is_clear : goal.decreases-function_is_clear
decreases-function_is_clear g l = 5 * size_of (pieces_of (map syntax l.parts.now)) + 1

abbrev pub decreases-labeled_is_clear : goal.decreases-labeled_is_clear
decreases-labeled_is_clear g l = 5 * size_of (pieces_of (map syntax l.parts.now)) + 1

abbrev pub decreases-inner_is_clear : goal.decreases-inner_is_clear
decreases-inner_is_clear g l = 5 * size (syntax l.body.now) + 1

abbrev pub decreases-parts_are_clear : goal.decreases-parts_are_clear
decreases-parts_are_clear g l = 5 * size_of (pieces_of (map syntax l.parts.now))

abbrev pub decreases-part_is_clear : goal.decreases-part_is_clear
decreases-part_is_clear g l = 5 * size (syntax l.part.now) + 1

abbrev pub decreases-are_clear : goal.decreases-are_clear
decreases-are_clear g l = 5 * size_of (pieces_of (map syntax l.trees.now))

abbrev pub invariant-parts_are_clear-parts : goal.invariant-parts_are_clear-parts
invariant-parts_are_clear-parts g l = record {
  same : clear_from (g.F.RowFacts.facts l.facts) (labels_of l.labels) l.left (pieces_of (map syntax (drop l.part-index l.parts)))
      ≡ clear_from (g.F.RowFacts.facts l.facts) (labels_of l.labels) l.plan (pieces_of (map syntax l.parts));
  fewer : size_of (pieces_of (map syntax (drop l.part-index l.parts))) ≤ size_of (pieces_of (map syntax l.parts));
}

abbrev pub invariant-are_clear-trees : goal.invariant-are_clear-trees
invariant-are_clear-trees g l = record {
  same : clear_among (g.F.RowFacts.facts l.facts) (seen l.above (labels_of l.labels)) (pieces_of (map syntax (drop l.tree-index l.trees)))
      ≡ clear_among (g.F.RowFacts.facts l.facts) (seen l.above (labels_of l.labels)) (pieces_of (map syntax l.trees));
  fewer : size_of (pieces_of (map syntax (drop l.tree-index l.trees))) ≤ size_of (pieces_of (map syntax l.trees));
}
