use Rattle.rl_lower_statements.proofs.DeclarationDerivations.{declarators_done}
use Rattle.rl_lower_statements.proofs.declaration.lower_declarators.Goals as goal

pub returns-clause-lowered : goal.returns-clause-lowered
returns-clause-lowered g c = c.declarators.invariant.gives _ (declarators_done c.in_default.ensures)
