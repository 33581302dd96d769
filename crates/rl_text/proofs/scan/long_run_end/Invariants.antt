use Rattle.std.proofs.Common.{◌-◌, length}
use Rattle.rl_text.proofs.Runs.{Passed}
use Rattle.rl_text.proofs.scan.long_run_end.Given as goal

abbrev pub invariant-skipping : goal.invariant-skipping
invariant-skipping g l = Passed g.C.ByteClass.test l.bytes l.at l.end

abbrev pub decreases-skipping : goal.decreases-skipping
decreases-skipping g l = length l.bytes - l.end
