use Rattle.std.proofs.Common.{◌-◌, ◌≤◌, false, drop, length}
use Rattle.rl_text.specs.Measure.{outside}
use Rattle.rl_text.proofs.Measuring.{Measured}
use Rattle.rl_text.proofs.measure.measure.Given as goal

abbrev pub invariant-measuring : goal.invariant-measuring
invariant-measuring l = record { within : l.at ≤ length l.bytes; measured : Measured (outside false l.bytes) l.at (outside false (drop l.at l.bytes)) l.nodes l.depth l.deepest }

abbrev pub decreases-measuring : goal.decreases-measuring
decreases-measuring l = length l.bytes - l.at
