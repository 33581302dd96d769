use Rattle.rl_unit.proofs.Known.{complete_by, refusal_by}
use Rattle.react_lower.proofs.Linting.{lint_answers, lint_fits}
use Rattle.react_lower.specs.Linted.{IsLintAnswer, IsLintOutput}
use Rattle.react_lower.proofs.lint.lint_unit.Goals as goal

pub returns-in-Ok-write_all-clause-complete : goal.returns-in-Ok-write_all-clause-complete
returns-in-Ok-write_all-clause-complete g c =
    complete_by IsLintOutput IsLintAnswer lint_answers (g.S.Source.left c.args.source.now) c.in-Ok.output.status c.in-Ok.output.text.items
    c.in-Ok.ensures.writes

pub returns-in-Err-clause-complete : goal.returns-in-Err-clause-complete
returns-in-Err-clause-complete g c =
    refusal_by IsLintAnswer lint_fits (g.S.Source.left c.args.source.now) c.in-Err.status c.in-Err.ensures.status
