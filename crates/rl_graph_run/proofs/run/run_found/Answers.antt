use Rattle.std.proofs.Common.{◌+◌, ap, map, ◌∙◌}
use Rattle.rl_hir.specs.Pairs.{identifier_of}
use Rattle.rl_machine.specs.Machine.{graph_trace}
use Rattle.rl_machine.specs.Traces.{waiting}
use Rattle.rl_model.specs.Runs.{graph_of}
use Rattle.rl_model.specs.Worlds.{others_in, world_in}
use Rattle.rl_graph_run.specs.Symbols.{identifier_at, symbol_flag}
use Rattle.rl_graph_run.proofs.Kept.{same_parameters, same_world}
use Rattle.rl_graph_steps.specs.Graphs.{steps_in, trace_of}
use Rattle.rl_graph_run.proofs.run.run_found.Goals as goal

pub returns-clause-trace : goal.returns-clause-trace
returns-clause-trace g c =
    let l = c.args.lowered.now in
    let f = c.args.graph.now in
    let w = world_in l f (others_in l c.args.function) in
    c.in_ok-trace.ensures.trace
    ∙ same_world (λ ident world. trace_of f ident world c.args.start.now c.args.arguments.now c.args.answers.now)
    c.as_slice-identifiers.result.now c.as_slice-opens.result.now c.as_slice-kept.result.now l.pairs w
    (λ n. ap (λ t. identifier_at t n) c.as_slice-identifiers.ensures.value ∙ c.in_ok-world.ensures.numbers n)
    (λ n. ap (λ t. symbol_flag t n) c.as_slice-opens.ensures.value ∙ c.in_ok-world.ensures.opens n)
    (ap (λ ks. map (λ s. s.0) ks) c.as_slice-kept.ensures.value ∙ c.in_ok-world.ensures.keeps)
    ∙ ap (λ params. graph_trace waiting (graph_of f) (identifier_of l.pairs) w params c.args.start.now c.args.arguments.now
    c.args.answers.now) (same_parameters f.params)

pub returns-clause-steps : goal.returns-clause-steps
returns-clause-steps g c =
    let l = c.args.lowered.now in
    let f = c.args.graph.now in
    let w = world_in l f (others_in l c.args.function) in
    c.in_ok-trace.ensures.steps
    ∙ same_world (λ ident world. c.args.steps.now + steps_in f ident world c.args.start.now c.args.arguments.now c.args.answers.now)
    c.as_slice-identifiers.result.now c.as_slice-opens.result.now c.as_slice-kept.result.now l.pairs w
    (λ n. ap (λ t. identifier_at t n) c.as_slice-identifiers.ensures.value ∙ c.in_ok-world.ensures.numbers n)
    (λ n. ap (λ t. symbol_flag t n) c.as_slice-opens.ensures.value ∙ c.in_ok-world.ensures.opens n)
    (ap (λ ks. map (λ s. s.0) ks) c.as_slice-kept.ensures.value ∙ c.in_ok-world.ensures.keeps)
