use Rattle.rl_supported.proofs.known.KnownFactsRowFacts.local.Goals as goal

pub returns : goal.returns
returns c = c.local.ensures c.args.name.now
