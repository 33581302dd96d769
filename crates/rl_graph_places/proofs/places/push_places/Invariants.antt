use Rattle.std.proofs.Common.{◌≡◌, ◌++◌, drop}
use Rattle.rl_hir.specs.Pieces.{gathered, value_pieces}
use Rattle.rl_graph_places.specs.Places.{named}
use Rattle.rl_graph_places.proofs.places.push_places.Given as goal

-- Those so far and those of the items that are left are all.
abbrev pub invariant-items : goal.invariant-items
invariant-items l =
    l.out.items ++ named (gathered value_pieces (drop l.item-index l.items)) ≡ l.initial.out.items ++ named (gathered value_pieces l.items)
