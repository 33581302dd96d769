use Rattle.std.proofs.Common.{◌≡◌, false, length}
use Rattle.rl_graph_steps.specs.States.{Ahead, compares, state_of}
use Rattle.rl_graph_steps.proofs.machine.Machine.compare.Given as goal

abbrev pub decreases-cases : goal.decreases-cases
decreases-cases l = length l.left

-- The cases that are left are compared as all of them are.
abbrev pub invariant-cases : goal.invariant-cases
invariant-cases l = (ahead : Ahead)
    → compares ahead l.left l.other l.value.0 l.asked (state_of l.self l.run)
    ≡ compares ahead l.cases l.other l.value.0 false (state_of l.self l.initial.run)
