use Rattle.std.proofs.Common.{subst}
use Rattle.rl_unit.specs.Answers.{IsComplete}
use Rattle.rl_unit.specs.Outcomes.{outcome_status}
use Rattle.rl_unit.specs.declared.run.Outcome.{Outcome}
use Rattle.rl_unit.proofs.Answering.{refusal_complete}
use Rattle.rl_unit.proofs.Outcomes.{outcome_complete}
use Rattle.graph_dot.proofs.run.run_dot.Goals as goal

pub returns-in-Ok-write_all-clause-complete : goal.returns-in-Ok-write_all-clause-complete
returns-in-Ok-write_all-clause-complete g c none =
    let left = g.S.Source.left c.args.source.now in
    subst (λ (o : Outcome). IsComplete left (outcome_status o)) c.in-Lowered.is (outcome_complete left c.in-Ok.outcome c.in-Ok.ensures.comes)

pub returns-in-Ok-write_all-2-clause-complete : goal.returns-in-Ok-write_all-2-clause-complete
returns-in-Ok-write_all-2-clause-complete g c none =
    let left = g.S.Source.left c.args.source.now in
    subst (λ (o : Outcome). IsComplete left (outcome_status o)) c.in-Reported.is (outcome_complete left c.in-Ok.outcome c.in-Ok.ensures.comes)

pub returns-in-Err-clause-complete : goal.returns-in-Err-clause-complete
returns-in-Err-clause-complete g c none = refusal_complete (g.S.Source.left c.args.source.now) c.in-Err.status c.in-Err.ensures.status
