use Rattle.std.proofs.Common.{◌≡◌, ◌≤◌, ◌-◌, true, length, take}
use Rattle.std.specs.List.{list_all}
use Rattle.rl_jsx.specs.Marks.{is_inside}
use Rattle.rl_jsx.proofs.lines.line_end.Given as goal

abbrev pub invariant-scanning : goal.invariant-scanning
invariant-scanning l = record { within : l.end ≤ length l.text; inside : list_all is_inside (take l.end l.text) ≡ true }

abbrev pub decreases-scanning : goal.decreases-scanning
decreases-scanning l = length l.text - l.end
