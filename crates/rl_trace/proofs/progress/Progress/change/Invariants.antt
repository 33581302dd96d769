use Rattle.std.proofs.Common.{◌≡◌, drop}
use Rattle.rl_trace.specs.Progress.{changed, seen}
use Rattle.rl_trace.proofs.progress.Progress.change.Given as goal

-- The assignments that are left change the run so far as all of them change that of before.
abbrev pub invariant-assignments : goal.invariant-assignments
invariant-assignments l = changed (drop l.assignment-index l.assignments) (seen l.self) ≡ changed l.assignments (seen l.initial.self)
