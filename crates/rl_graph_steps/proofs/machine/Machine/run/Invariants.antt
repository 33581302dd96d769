use Rattle.rl_graph_steps.specs.Runs.{steps_of}
use Rattle.rl_graph_steps.specs.States.{state_of}
use Rattle.rl_graph_steps.proofs.Turns.{Holds}
use Rattle.rl_graph_steps.proofs.machine.Machine.run.Given as goal

abbrev pub decreases-turns : goal.decreases-turns
decreases-turns g l = steps_of l.left

-- The run from here is the run from the entry, and the steps so far are counted.
abbrev pub invariant-turns : goal.invariant-turns
invariant-turns g l =
    Holds l.fn.fuel l.fn.entry.0 (state_of l.self l.initial.run) l.initial.steps l.left l.block.0 l.index (state_of l.self l.run) l.steps
