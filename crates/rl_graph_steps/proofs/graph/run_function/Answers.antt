use Rattle.std.proofs.Common.{◌+◌, ◌∙◌}
use Rattle.rl_graph_steps.specs.Runs.{made_by, runs, steps_of}
use Rattle.rl_graph_steps.specs.States.{state_of}
use Rattle.rl_graph_steps.proofs.Functions.{at_start}
use Rattle.rl_graph_steps.proofs.graph.run_function.Goals as goal

pub returns-clause-trace : goal.returns-clause-trace
returns-clause-trace g c =
    let f = c.args.function.now in
    let fuel = c.fuel_for-fuel.result in
    c.in_ok-trace.ensures
    ∙ c.in_ok-goes.ensures.trace
    ∙ at_start (λ most steps quiet s. runs most steps quiet f.body.entry.0 0 s) f c.args.shared c.args.start.now c.args.arguments.now
    c.args.answers.now c.machine_of-machine.result.blocks.now c.machine_of-machine.result.table.now c.as_slice-params.result.now fuel.most
    (steps_of fuel) fuel.quiet (state_of c.machine_of-machine.result c.in_ok-begun.begun) c.machine_of-machine.ensures.blocks
    c.machine_of-machine.ensures.table c.as_slice-params.ensures c.fuel_for-fuel.ensures.most c.fuel_for-fuel.ensures.steps
    c.fuel_for-fuel.ensures.quiet c.in_ok-begun.ensures

pub returns-clause-steps : goal.returns-clause-steps
returns-clause-steps g c =
    let f = c.args.function.now in
    let fuel = c.fuel_for-fuel.result in
    c.in_ok-goes.ensures.steps
    ∙ at_start (λ most steps quiet s. c.args.steps.now + made_by most steps quiet f.body.entry.0 0 s) f c.args.shared c.args.start.now
    c.args.arguments.now c.args.answers.now c.machine_of-machine.result.blocks.now c.machine_of-machine.result.table.now
    c.as_slice-params.result.now fuel.most (steps_of fuel) fuel.quiet (state_of c.machine_of-machine.result c.in_ok-begun.begun)
    c.machine_of-machine.ensures.blocks c.machine_of-machine.ensures.table c.as_slice-params.ensures c.fuel_for-fuel.ensures.most
    c.fuel_for-fuel.ensures.steps c.fuel_for-fuel.ensures.quiet c.in_ok-begun.ensures
