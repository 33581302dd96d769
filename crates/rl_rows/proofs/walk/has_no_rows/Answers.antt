use Rattle.std.proofs.Common.{rules}
use Rattle.rl_rows.proofs.Cleared.{function_some}
use Rattle.rl_rows.proofs.walk.has_no_rows.Goals as goal
use Rattle.rl_syntax.specs.Syntax.{syntax}

pub returns-in-Some : goal.returns-in-Some
returns-in-Some g c =
    function_some (g.F.RowFacts.facts c.args.facts.now) (syntax c.args.marked.now) (syntax c.in-Some.params.now) (syntax c.in-Some.body.now)
    c.both_are_clear.result (search rules) c.both_are_clear.ensures
