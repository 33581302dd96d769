use Rattle.rl_syntax.specs.Syntax.{syntax}
use Rattle.rl_unit.proofs.Outcomes.{error_report}
use Rattle.rl_unit.proofs.run.outcome_of.Goals as goal

pub returns-in-Ok-report_of-clause-outcome : goal.returns-in-Ok-report_of-clause-outcome
returns-in-Ok-report_of-clause-outcome c =
    error_report (syntax c.args.unit.now.tree) c.in-Err.error c.in-Ok-report_of.text.items c.in-Err.ensures.error
    c.in-Ok-report_of.ensures.reported
