use Rattle.std.proofs.Common.{◌≡◌, drop}
use Rattle.rl_hir.specs.Pieces.{gathered, taken_pieces}
use Rattle.rl_graph_events.specs.Buildings.{adds, built}
use Rattle.rl_graph_events.proofs.building.Building.all_taken.Given as goal

-- The items that are left add to the event so far what all of them add to that of before.
abbrev pub invariant-items : goal.invariant-items
invariant-items l =
    adds (gathered taken_pieces (drop l.item-index l.items)) (built l.self) ≡ adds (gathered taken_pieces l.items) (built l.initial.self)
