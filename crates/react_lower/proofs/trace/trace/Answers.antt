use Rattle.react_lower.proofs.Answering.{trace_answers, trace_fits}
use Rattle.rl_unit.proofs.Known.{complete_by, refusal_by}
use Rattle.react_lower.specs.Traced.{IsTraceAnswer, IsTraceOutput}
use Rattle.react_lower.proofs.trace.trace.Goals as goal

pub returns-in-Ok-write_all-clause-complete : goal.returns-in-Ok-write_all-clause-complete
returns-in-Ok-write_all-clause-complete g c =
    let a = c.args.arguments.now in
    complete_by (IsTraceOutput a) (IsTraceAnswer a) (trace_answers a) (g.S.Source.left c.args.source.now) c.in-Ok.output.status
    c.in-Ok.output.text.items c.in-Ok.ensures.writes

pub returns-in-Err-clause-complete : goal.returns-in-Err-clause-complete
returns-in-Err-clause-complete g c =
    let a = c.args.arguments.now in
    refusal_by (IsTraceAnswer a) (trace_fits a) (g.S.Source.left c.args.source.now) c.in-Err.status c.in-Err.ensures.status
