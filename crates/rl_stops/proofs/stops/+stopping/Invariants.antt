use Rattle.std.proofs.Common.{◌≡◌, ◌+◌, ◌*◌, ◌≤◌, map, drop}
use Rattle.rl_names.specs.Seen.{seen}
use Rattle.rl_promises.specs.Stops.{first_among, first_in_round, stop_to_all}
use Rattle.rl_syntax.specs.Sizes.{size, size_of}
use Rattle.rl_syntax.specs.Syntax.{pieces_of, syntax}
use Rattle.rl_stops.proofs.stops.+stopping.Given as goal

abbrev pub decreases-first_stop : goal.decreases-first_stop
decreases-first_stop l = 3 * size (syntax l.tree.now)

abbrev pub decreases-stop_in_node : goal.decreases-stop_in_node
decreases-stop_in_node l = 3 * size_of (pieces_of (map syntax l.parts.now)) + 2

abbrev pub decreases-first_of_two : goal.decreases-first_of_two
decreases-first_of_two l = 3 * (size (syntax l.first.now) + size (syntax l.second.now)) + 1

abbrev pub decreases-first_of_three : goal.decreases-first_of_three
decreases-first_of_three l = 3 * (size (syntax l.first.now) + size (syntax l.second.now) + size (syntax l.third.now)) + 2

abbrev pub decreases-first_of_tagged : goal.decreases-first_of_tagged
decreases-first_of_tagged l = 3 * (size (syntax l.tag.now) + size_of (pieces_of (map syntax l.expressions.now))) + 2

abbrev pub decreases-first_among : goal.decreases-first_among
decreases-first_among l = 3 * size_of (pieces_of (map syntax l.trees.now)) + 1

abbrev pub invariant-first_among-trees : goal.invariant-first_among-trees
invariant-first_among-trees l = record {
  same : first_among (seen l.names) (pieces_of (map syntax (drop l.tree-index l.trees))) ≡ first_among (seen l.names)
      (pieces_of (map syntax l.trees));
  fewer : size_of (pieces_of (map syntax (drop l.tree-index l.trees))) ≤ size_of (pieces_of (map syntax l.trees));
}

abbrev pub decreases-stop_where : goal.decreases-stop_where
decreases-stop_where l = 3 * size (syntax l.tree.now) + 1

abbrev pub decreases-first_in_round : goal.decreases-first_in_round
decreases-first_in_round l = 3 * size_of (pieces_of (map syntax l.items.now)) + 1

abbrev pub invariant-first_in_round-items : goal.invariant-first_in_round-items
invariant-first_in_round-items l = record {
  same : first_in_round (seen l.names) l.ahead (pieces_of (map syntax (drop l.item-index l.items)))
      ≡ first_in_round (seen l.names) l.ahead (pieces_of (map syntax l.items));
  fewer : size_of (pieces_of (map syntax (drop l.item-index l.items))) ≤ size_of (pieces_of (map syntax l.items));
}

abbrev pub decreases-first_of_array : goal.decreases-first_of_array
decreases-first_of_array l = 3 * (size_of (pieces_of (map syntax l.items.now)) + size (syntax l.rest.now)) + 2

abbrev pub decreases-first_of_object : goal.decreases-first_of_object
decreases-first_of_object l = 3 * (size_of (pieces_of (map syntax l.properties.now)) + size (syntax l.rest.now)) + 2

abbrev pub decreases-first_of_assigned : goal.decreases-first_of_assigned
decreases-first_of_assigned l = 3 * (size (syntax l.right.now) + size (syntax l.target.now)) + 2

abbrev pub decreases-stop_at_target : goal.decreases-stop_at_target
decreases-stop_at_target l = 3 * size (syntax l.target.now) + 1

abbrev pub decreases-stop_to : goal.decreases-stop_to
decreases-stop_to l = 3 * size (syntax l.target.now)

abbrev pub decreases-stop_to_node : goal.decreases-stop_to_node
decreases-stop_to_node l = 3 * size_of (pieces_of (map syntax l.parts.now)) + 2

abbrev pub decreases-stop_to_defaulted : goal.decreases-stop_to_defaulted
decreases-stop_to_defaulted l = 3 * size_of (pieces_of (map syntax l.parts.now)) + 1

abbrev pub decreases-stop_to_either : goal.decreases-stop_to_either
decreases-stop_to_either l = 3 * (size (syntax l.default.now) + size (syntax l.target.now)) + 1

abbrev pub decreases-stop_to_where : goal.decreases-stop_to_where
decreases-stop_to_where l = 3 * size (syntax l.target.now) + 1

abbrev pub decreases-stop_to_keyed : goal.decreases-stop_to_keyed
decreases-stop_to_keyed l = 3 * size_of (pieces_of (map syntax l.parts.now)) + 1

abbrev pub decreases-stop_to_rest : goal.decreases-stop_to_rest
decreases-stop_to_rest l = 3 * size_of (pieces_of (map syntax l.parts.now)) + 1

abbrev pub decreases-stop_to_array : goal.decreases-stop_to_array
decreases-stop_to_array l = 3 * size_of (pieces_of (map syntax l.parts.now)) + 1

abbrev pub decreases-stop_to_object : goal.decreases-stop_to_object
decreases-stop_to_object l = 3 * size_of (pieces_of (map syntax l.parts.now)) + 1

abbrev pub decreases-stop_to_items : goal.decreases-stop_to_items
decreases-stop_to_items l = 3 * (size_of (pieces_of (map syntax l.items.now)) + size (syntax l.rest.now)) + 2

abbrev pub decreases-stop_to_all : goal.decreases-stop_to_all
decreases-stop_to_all l = 3 * size_of (pieces_of (map syntax l.items.now)) + 1

abbrev pub invariant-stop_to_all-items : goal.invariant-stop_to_all-items
invariant-stop_to_all-items l = record {
  same : stop_to_all (seen l.names) (pieces_of (map syntax (drop l.item-index l.items)))
      ≡ stop_to_all (seen l.names) (pieces_of (map syntax l.items));
  fewer : size_of (pieces_of (map syntax (drop l.item-index l.items))) ≤ size_of (pieces_of (map syntax l.items));
}
