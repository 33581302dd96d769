use Rattle.rl_row_names.proofs.Named.{named_local}
use Rattle.rl_row_names.proofs.names.name_is_clear.Goals as goal

pub returns-in-Some : goal.returns-in-Some
returns-in-Some g c =
    named_local (g.F.RowFacts.facts c.args.facts.now) c.args.above.now c.args.reference.0 c.args.name.now
    ((g.F.RowFacts.facts c.args.facts.now).names.meaning c.args.reference.0 c.args.name.now) c.in-Some.symbol.0 c.as_local_is_clear.result
    c.in-Some.ensures c.as_local_is_clear.ensures
