use Rattle.rl_unit.proofs.Answering.{output_complete, refusal_complete}
use Rattle.rl_unit.proofs.run.run.Goals as goal

pub returns-in-Ok-write_all-clause-complete : goal.returns-in-Ok-write_all-clause-complete
returns-in-Ok-write_all-clause-complete g c command =
    output_complete (g.S.Source.left c.args.source.now) c.in-Ok.output.status c.in-Ok.output.text.items c.in-Ok.ensures.writes

pub returns-in-Err-clause-complete : goal.returns-in-Err-clause-complete
returns-in-Err-clause-complete g c command = refusal_complete (g.S.Source.left c.args.source.now) c.in-Err.status c.in-Err.ensures.status
