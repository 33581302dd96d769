use Rattle.std.proofs.Common.{◌≡◌, ◌+◌, ◌*◌, ◌≤◌, map, drop}
use Rattle.rl_model.specs.Supported.{are_reorderable}
use Rattle.rl_row_names.specs.Orders.{parts_are_reorderable}
use Rattle.rl_syntax.specs.Sizes.{size, size_of}
use Rattle.rl_syntax.specs.Syntax.{pieces_of, syntax}
use Rattle.rl_row_names.proofs.order.+ordering.Given as goal

abbrev pub decreases-is_reorderable : goal.decreases-is_reorderable
decreases-is_reorderable g l = 4 * size (syntax l.tree.now)

abbrev pub decreases-node_is_reorderable : goal.decreases-node_is_reorderable
decreases-node_is_reorderable g l = 4 * size_of (pieces_of (map syntax l.parts.now)) + 1

abbrev pub decreases-parts_are_reorderable : goal.decreases-parts_are_reorderable
decreases-parts_are_reorderable g l = 4 * size_of (pieces_of (map syntax l.parts.now))

abbrev pub decreases-part_is_reorderable : goal.decreases-part_is_reorderable
decreases-part_is_reorderable g l = 4 * size (syntax l.part.now) + 2

abbrev pub decreases-items_reorderable : goal.decreases-items_reorderable
decreases-items_reorderable g l = 4 * size (syntax l.part.now) + 1

abbrev pub decreases-are_reorderable : goal.decreases-are_reorderable
decreases-are_reorderable g l = 4 * size_of (pieces_of (map syntax l.trees.now))

abbrev pub invariant-parts_are_reorderable-parts : goal.invariant-parts_are_reorderable-parts
invariant-parts_are_reorderable-parts g l = record {
  same : parts_are_reorderable (g.F.RowFacts.facts l.facts) l.locals l.left (pieces_of (map syntax (drop l.part-index l.parts)))
      ≡ parts_are_reorderable (g.F.RowFacts.facts l.facts) l.locals l.order (pieces_of (map syntax l.parts));
  fewer : size_of (pieces_of (map syntax (drop l.part-index l.parts))) ≤ size_of (pieces_of (map syntax l.parts));
}

abbrev pub invariant-are_reorderable-trees : goal.invariant-are_reorderable-trees
invariant-are_reorderable-trees g l = record {
  same : are_reorderable (g.F.RowFacts.facts l.facts) l.locals (pieces_of (map syntax (drop l.tree-index l.trees)))
      ≡ are_reorderable (g.F.RowFacts.facts l.facts) l.locals (pieces_of (map syntax l.trees));
  fewer : size_of (pieces_of (map syntax (drop l.tree-index l.trees))) ≤ size_of (pieces_of (map syntax l.trees));
}
