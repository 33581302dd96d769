use Rattle.std.proofs.Common.{◌-◌, length}
use Rattle.rl_lint.proofs.names.next_row.Given as goal

abbrev pub decreases-rows : goal.decreases-rows
decreases-rows l = length l.declarations - l.row
