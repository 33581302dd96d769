use Rattle.std.proofs.Common.{option_map, ap}
use Rattle.rl_ast.specs.BindingViews.{seen_identifier_reference}
use Rattle.rl_lower_parts.proofs.LookDerivations.{found_name, no_name, other_name}
use Rattle.rl_lower_parts.proofs.target_items.look_up.Goals as goal

pub returns-in_ok-resolve_variable-in-Some-local-clause-looked : goal.returns-in_ok-resolve_variable-in-Some-local-clause-looked
returns-in_ok-resolve_variable-in-Some-local-clause-looked g c =
    found_name (seen_identifier_reference c.in-Some.identifier) (ap (option_map seen_identifier_reference) c.in-Some.is)
    c.in-Some-local.ensures c.in_ok-resolve_variable-in-Some-local.ensures.state c.in_ok-resolve_variable-in-Some-local.ensures.found

pub returns-in-None-local-clause-looked : goal.returns-in-None-local-clause-looked
returns-in-None-local-clause-looked g c =
    other_name (seen_identifier_reference c.in-Some.identifier) (ap (option_map seen_identifier_reference) c.in-Some.is)
    c.in-None-local.ensures

pub returns-in-None-clause-looked : goal.returns-in-None-clause-looked
returns-in-None-clause-looked g c = no_name (ap (option_map seen_identifier_reference) c.in-None.is)
