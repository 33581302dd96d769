use Rattle.std.proofs.Common.{◌≡◌, drop}
use Rattle.rl_machine.specs.Machine.{default_case}
use Rattle.rl_graph_steps.proofs.leave.default_case.Given as goal

-- No case so far is without a test.
abbrev pub invariant-cases : goal.invariant-cases
invariant-cases l = default_case (drop l.case-index l.cases) ≡ default_case l.cases
