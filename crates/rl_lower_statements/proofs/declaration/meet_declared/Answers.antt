use Rattle.rl_lower_statements.proofs.DeclarationDerivations.{declared_within, met_told}
use Rattle.rl_lower_statements.proofs.declaration.meet_declared.Goals as goal

pub respan-requires : goal.respan-requires
respan-requires g c = record { within = declared_within c.in_ok-identifier.ensures.found }

pub returns-clause-met : goal.returns-clause-met
returns-clause-met g c = met_told c.args.again _ c.in_ok-identifier.ensures.found c.respan.ensures.state
