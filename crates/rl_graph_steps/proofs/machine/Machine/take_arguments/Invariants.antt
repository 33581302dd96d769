use Rattle.std.proofs.Common.{◌≡◌, drop, map}
use Rattle.rl_graph_steps.specs.Graphs.{parameter}
use Rattle.rl_graph_steps.specs.States.{state_of, takes, took}
use Rattle.rl_graph_steps.proofs.machine.Machine.take_arguments.Given as goal

-- The parameters that are left take the arguments that are left as all of them take all arguments.
abbrev pub invariant-loop-param : goal.invariant-loop-param
invariant-loop-param l =
    takes (map parameter (drop l.param-index l.params)) (took l.left (state_of l.self l.run))
    ≡ takes (map parameter l.params) (took l.arguments (state_of l.self l.initial.run))
