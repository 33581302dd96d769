use Rattle.std.proofs.Common.{◌≡◌, drop}
use Rattle.rl_trace.specs.Progress.{begun, seen}
use Rattle.rl_trace.proofs.progress.Progress.begin.Given as goal

-- The assignments that are left change the run so far as all of them change that of before.
abbrev pub invariant-start : goal.invariant-start
invariant-start l = begun (drop l.assignment-index l.start) (seen l.self) ≡ begun l.start (seen l.initial.self)
