use Rattle.std.proofs.Common.{◌-◌, length}
use Rattle.rl_text.proofs.Runs.{Passed}
use Rattle.rl_text.proofs.scan.run_end.Given as goal

abbrev pub invariant-running : goal.invariant-running
invariant-running g l = Passed g.C.ByteClass.test l.bytes l.at l.end

abbrev pub decreases-running : goal.decreases-running
decreases-running g l = length l.bytes - l.end
