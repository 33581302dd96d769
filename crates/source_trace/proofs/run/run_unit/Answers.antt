use Rattle.source_trace.proofs.Answering.{source_answers, source_fits}
use Rattle.rl_unit.proofs.Known.{complete_by, refusal_by}
use Rattle.source_trace.specs.SourceTraced.{IsSourceAnswer, IsSourceOutput}
use Rattle.source_trace.proofs.run.run_unit.Goals as goal

pub returns-in-Ok-write_all-clause-complete : goal.returns-in-Ok-write_all-clause-complete
returns-in-Ok-write_all-clause-complete g c =
    let a = c.args.arguments.now in
    complete_by (IsSourceOutput a) (IsSourceAnswer a) (source_answers a) (g.S.Source.left c.args.source.now) c.in-Ok.output.status
    c.in-Ok.output.text.items c.in-Ok.ensures.writes

pub returns-in-Err-clause-complete : goal.returns-in-Err-clause-complete
returns-in-Err-clause-complete g c =
    let a = c.args.arguments.now in
    refusal_by (IsSourceAnswer a) (source_fits a) (g.S.Source.left c.args.source.now) c.in-Err.status c.in-Err.ensures.status
