use Rattle.std.proofs.Common.{◌≡◌, ℕ, ◌||◌, drop}
use Rattle.rl_markers.specs.Named.{is_marked}
use Rattle.rl_markers.specs.Tables.{before}
use Rattle.rl_markers.proofs.marker_table.least_of.Given as goal

abbrev pub invariant-marks : goal.invariant-marks
invariant-marks l =
    (symbol node : ℕ) → (before l.least.items symbol node || is_marked (drop l.mark-index l.marks) symbol node) ≡ is_marked l.marks symbol node
