use Rattle.std.proofs.Common.{◌≡◌, ℕ, ◌+◌, ◌-◌, length}
use Rattle.rl_markers.specs.Tables.{before}
use Rattle.rl_markers.proofs.marker_table.make_place.Given as goal

abbrev pub invariant-loop-least : goal.invariant-loop-least
invariant-loop-least l = (n node : ℕ) → before l.least.items n node ≡ before l.initial.least.items n node

abbrev pub decreases-loop-least : goal.decreases-loop-least
decreases-loop-least l = l.symbol + 1 - length l.least.items
