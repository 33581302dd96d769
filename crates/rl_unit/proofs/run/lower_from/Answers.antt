use Rattle.rl_syntax.specs.Syntax.{syntax}
use Rattle.rl_unit.proofs.Known.{refused_known}
use Rattle.rl_unit.proofs.run.lower_from.Goals as goal

pub returns-clause-status : goal.returns-clause-status
returns-clause-status g c =
    refused_known (g.S.Source.left c.args.source.now) (syntax c.in-Ok.unit.tree) c.in-Err-outcome_of.status c.in-Ok.ensures.known
    c.in-Err-outcome_of.ensures.status
