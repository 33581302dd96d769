use Rattle.rl_names.specs.Seen.{seen}
use Rattle.rl_lower_parts.proofs.NameDerivations.{variable_ok}
use Rattle.rl_lower_parts.proofs.name.lower_local.Goals as goal

pub returns-clause-lowered : goal.returns-clause-lowered
returns-clause-lowered g c =
    variable_ok c.lower_value_to_temporary.result (seen c.args.names.now) c.args.at c.args.symbol _ _
    c.in_ok-identifier.ensures.state c.in_ok-identifier.ensures.found
    c.lower_value_to_temporary.ensures.state c.lower_value_to_temporary.ensures.place
