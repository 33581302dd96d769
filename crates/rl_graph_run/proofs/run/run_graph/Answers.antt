use Rattle.std.proofs.Common.{◌≡◌, ◌+◌, Some, ap, sym, ◌∙◌}
use Rattle.std.specs.Borrow.{Bor}
use Rattle.std.specs.Option.{option_map}
use Rattle.rl_model.specs.Worlds.{Function, function_in}
use Rattle.rl_graph_run.proofs.Kept.{found_steps, found_trace}
use Rattle.rl_graph_run.proofs.run.run_graph.Goals as goal

pub returns-in-Ok-clause-trace : goal.returns-in-Ok-clause-trace
returns-in-Ok-clause-trace g c =
    let found : Some c.in-Some.graph.now ≡ function_in c.args.lowered.now c.args.function
    = ap (option_map (λ (f : Bor Function). f.now)) (sym c.in-Some.is) ∙ c.function_of.ensures in
    found_trace c.args.lowered.now c.args.function c.in-Some.graph.now c.args.start.now c.args.arguments.now c.args.answers.now
    c.in-Ok.trace found c.in-Ok.ensures.trace

pub returns-in-Ok-clause-steps : goal.returns-in-Ok-clause-steps
returns-in-Ok-clause-steps g c =
    let found : Some c.in-Some.graph.now ≡ function_in c.args.lowered.now c.args.function
    = ap (option_map (λ (f : Bor Function). f.now)) (sym c.in-Some.is) ∙ c.function_of.ensures in
    c.in-Ok.ensures.steps
    ∙ ap (λ n. c.args.steps.now + n) (found_steps c.args.lowered.now c.args.function c.in-Some.graph.now c.args.start.now
    c.args.arguments.now c.args.answers.now found)
