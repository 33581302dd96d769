use Rattle.std.proofs.Common.{◌+◌, ◌*◌}
use Rattle.frame_tests.specs.Formulas.{nodes}
use Rattle.frame_tests.proofs.lower.+formulas.Given as goal

-- The nodes that are left.

abbrev pub decreases-lower_formula : goal.decreases-lower_formula
decreases-lower_formula g l = 2 * nodes l.formula.now

abbrev pub decreases-lower_connected : goal.decreases-lower_connected
decreases-lower_connected g l = 2 * (nodes l.left.now + nodes l.right.now) + 1

abbrev pub decreases-lower_selected : goal.decreases-lower_selected
decreases-lower_selected g l = 2 * (nodes l.test.now + nodes l.consequent.now + nodes l.alternate.now) + 1
