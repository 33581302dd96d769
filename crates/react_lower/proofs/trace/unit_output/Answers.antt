use Rattle.std.proofs.Common.{inl}
use Rattle.rl_unit.proofs.Outcomes.{error_report, error_status}
use Rattle.rl_syntax.specs.Syntax.{syntax}
use Rattle.react_lower.proofs.trace.unit_output.Goals as goal

pub returns-in-Ok-report_of-clause-output : goal.returns-in-Ok-report_of-clause-output
returns-in-Ok-report_of-clause-output c =
    inl (error_report (syntax c.args.unit.now.tree) c.in-Err.error c.in-Ok-report_of.text.items c.in-Err.ensures.error
    c.in-Ok-report_of.ensures.reported)

pub returns-clause-status : goal.returns-clause-status
returns-clause-status c =
    error_status (syntax c.args.unit.now.tree) c.in-Err.error c.in-Err-report_of.status c.in-Err.ensures.error
    c.in-Err-report_of.ensures.status
