use Rattle.std.proofs.Common.{ap, sym}
use Rattle.rl_ast.specs.StatementViews.{seen_statement}
use Rattle.rl_ast.specs.declared.statement.Statement.TheVariants as statement
use Rattle.rl_names.specs.Seen.{seen}
use Rattle.rl_lower_statements.proofs.StatementDerivations.{return_nothing_ok, return_ok}
use Rattle.rl_lower_statements.proofs.statement.lower_return.Goals as goal

pub returns-in_ok-value-in-Some-clause-lowered : goal.returns-in_ok-value-in-Some-clause-lowered
returns-in_ok-value-in-Some-clause-lowered g c =
    return_ok c.args.at _ c.end_by_return.result (ap (λ argument. seen_statement (statement.Return c.args.at argument)) (sym c.in-Some.is))
    c.in_ok-value-in-Some.ensures.lowered c.end_by_return.ensures.state

pub returns-in_ok-value-in-None-clause-lowered : goal.returns-in_ok-value-in-None-clause-lowered
returns-in_ok-value-in-None-clause-lowered g c =
    return_nothing_ok (seen c.args.names.now) c.args.at _ _ _ _ c.end_by_return-in-None.result
    (ap (λ argument. seen_statement (statement.Return c.args.at argument)) (sym c.in-None.is))
    c.in_ok-value-in-None.ensures.state c.in_ok-value-in-None.ensures.place c.end_by_return-in-None.ensures.state
