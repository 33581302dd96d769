use Rattle.rl_lower_statements.proofs.TryDerivations.{stored_told}
use Rattle.rl_lower_statements.proofs.try_statement.store_caught.Goals as goal

pub returns-clause-stored : goal.returns-clause-stored
returns-clause-stored g c = stored_told _ c.in_ok-identifier.ensures.found c.in_ok-lower_value_to_temporary.ensures.state
