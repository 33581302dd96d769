use Rattle.react_lower.proofs.Answering.{is_marked, same_traces}
use Rattle.rl_syntax.specs.Syntax.{syntax}
use Rattle.react_lower.proofs.trace.output_of.Goals as goal

pub returns-in_ok-compared-in-Ok : goal.returns-in_ok-compared-in-Ok
returns-in_ok-compared-in-Ok c =
    let a = c.args.arguments.now in
    let l = c.args.lowered.now in
    let lowers = c.requires.lowers.lowers in
    let traces = c.in-Ok.traces in
    record {
      rules = c.requires.lowers.rules;
      result = l;
      is_lowered = lowers;
      traced = record {
        source = traces.source;
        graph = traces.graph;
        runs_source = c.in-Ok.ensures.source;
        runs_graph = c.in-Ok.ensures.graph;
        compared = c.in_ok-compared-in-Ok.ensures;
        same = λ orderly. same_traces (syntax c.args.unit.now.tree) l a.function a.start a.args a.answers traces.source traces.graph lowers
            (is_marked l a.function a.start a.args a.answers traces.graph lowers.inner c.in-Ok.ensures.graph) orderly c.in-Ok.ensures.source
            c.in-Ok.ensures.graph;
      };
    }
