use Rattle.rl_names.specs.Seen.{seen}
use Rattle.rl_lower_parts.proofs.NameDerivations.{resolved_named}
use Rattle.rl_lower_parts.proofs.name.resolve_variable.Goals as goal

pub returns-clause-names : goal.returns-clause-names
returns-clause-names g c =
    let now = c.in_ok-identifier.ensures.resolves in
    resolved_named (seen c.args.names.now) c.name-name.result.now c.args.symbol c.args.span c.in_ok-identifier.identifier.0 c.requires.names
    c.requires.variable c.name-name.ensures now.state now.identifier now.names
