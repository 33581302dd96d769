use Rattle.std.proofs.Common.{◌≡◌, map, drop}
use Rattle.rl_names.specs.Seen.{seen}
use Rattle.rl_promises.specs.Stops.{stop_ahead}
use Rattle.rl_syntax.specs.Syntax.{pieces_of, syntax}
use Rattle.rl_stops.proofs.stops.stop_ahead.Given as goal

abbrev pub invariant-items : goal.invariant-items
invariant-items l =
    stop_ahead (seen l.names) (pieces_of (map syntax (drop l.item-index l.items)))
    ≡ stop_ahead (seen l.names) (pieces_of (map syntax l.items))
