use Rattle.std.proofs.Common.{◌≡◌, ◌++◌, drop}
use Rattle.rl_unit.specs.Answers.{lines}
use Rattle.rl_unit.proofs.run.report.Given as goal

-- The lines so far and those of the rest are all.
abbrev pub invariant-loop-diagnostic : goal.invariant-loop-diagnostic
invariant-loop-diagnostic l = l.text.items ++ lines (drop l.diagnostic-index l.said) ≡ lines l.said
