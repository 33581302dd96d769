use Rattle.std.proofs.Common.{◌≡◌, ◌+◌, ◌*◌, ◌≤◌, ◌++◌, map, drop}
use Rattle.rl_model.specs.Orderly.{items_among}
use Rattle.rl_names.specs.Seen.{seen}
use Rattle.rl_orderly.specs.Items.{item_of}
use Rattle.rl_syntax.specs.Sizes.{size, size_of}
use Rattle.rl_syntax.specs.Syntax.{pieces_of, syntax}
use Rattle.rl_orderly.proofs.items.+itemising.Given as goal

abbrev pub decreases-push_part : goal.decreases-push_part
decreases-push_part l = 2 * size (syntax l.part.now)

abbrev pub decreases-push_as : goal.decreases-push_as
decreases-push_as l = 2 * size_of (pieces_of (map syntax l.parts.now)) + 1

abbrev pub decreases-push_among : goal.decreases-push_among
decreases-push_among l = 2 * size_of (pieces_of (map syntax l.items.now))

abbrev pub invariant-push_among-items : goal.invariant-push_among-items
invariant-push_among-items l = record {
  walked : map item_of l.out.items ++ items_among (seen l.variables.names) (pieces_of (map syntax (drop l.item-index l.items)))
      ≡ map item_of l.initial.out.items ++ items_among (seen l.variables.names) (pieces_of (map syntax l.items));
  fewer : size_of (pieces_of (map syntax (drop l.item-index l.items))) ≤ size_of (pieces_of (map syntax l.items));
}
