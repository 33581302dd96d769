use Rattle.rl_lower_statements.proofs.ItemDerivations.{placed_told}
use Rattle.rl_lower_statements.proofs.pattern_items.name_place.Goals as goal

pub returns-clause-placed : goal.returns-clause-placed
returns-clause-placed g c = placed_told c.args.at c.in_ok-identifier.ensures.met
