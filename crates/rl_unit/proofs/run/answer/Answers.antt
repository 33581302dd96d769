use Rattle.rl_syntax.specs.Syntax.{syntax}
use Rattle.rl_unit.proofs.Known.{refused_known}
use Rattle.rl_unit.proofs.run.answer.Goals as goal

pub returns-in-Err-outcome_of-clause-status : goal.returns-in-Err-outcome_of-clause-status
returns-in-Err-outcome_of-clause-status g c =
    refused_known (g.S.Source.left c.args.source.now) (syntax c.in-Ok.unit.tree) c.in-Err-outcome_of.status c.in-Ok.ensures.known
    c.in-Err-outcome_of.ensures.status
