use Rattle.rl_builder.specs.Builder.{state_of}
use Rattle.rl_lower_statements.proofs.ItemDerivations.{rest_may}
use Rattle.rl_lower.proofs.ParamDerivations.{rest_param_ok, rest_room, temporary_named}
use Rattle.rl_names.specs.Seen.{seen}
use Rattle.rl_lower.proofs.params.lower_rest.Goals as goal

pub lower_pattern-requires-clause-names : goal.lower_pattern-requires-clause-names
lower_pattern-requires-clause-names g c =
    temporary_named c.binding_rest_element_view-rest.result.at.span (state_of g.U.ReadsUnit.tables c.args.builder.now) _
    c.in_ok-place.ensures.state c.requires.names

pub lower_pattern-requires-clause-may : goal.lower_pattern-requires-clause-may
lower_pattern-requires-clause-may g c = rest_may (seen c.args.names.now) c.binding_rest_element_view-rest.ensures c.requires.may

pub lower_pattern-requires-clause-room : goal.lower_pattern-requires-clause-room
lower_pattern-requires-clause-room g c =
    rest_room (state_of g.U.ReadsUnit.tables c.args.builder.now) _ c.binding_rest_element_view-rest.ensures c.in_ok-place.ensures.state
    c.requires.room

pub returns-clause-lowered : goal.returns-clause-lowered
returns-clause-lowered g c =
    rest_param_ok c.binding_rest_element_view-rest.ensures c.in_ok-place.ensures.state c.in_ok-place.ensures.place
    c.in_ok-lower_pattern.ensures.lowered c.requires.names
