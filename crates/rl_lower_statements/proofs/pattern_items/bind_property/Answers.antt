use Rattle.std.proofs.Common.{arith}
use Rattle.rl_names.specs.Seen.{seen}
use Rattle.rl_lower_statements.proofs.ItemDerivations.{keyed_bound, lost_bound, met_named, met_room, value_may}
use Rattle.rl_lower_statements.proofs.pattern_items.bind_property.Goals as goal

pub bind_part-requires-clause-names : goal.bind_part-requires-clause-names
bind_part-requires-clause-names g c = met_named (c.in_ok-key.ensures.met c.in-Some.key c.in-Some.is) c.requires.names

pub bind_part-requires-clause-may : goal.bind_part-requires-clause-may
bind_part-requires-clause-may g c =
    value_may (seen c.args.names.now) c.binding_property_view-property.ensures
    (c.in_ok-key.ensures.met c.in-Some.key c.in-Some.is) c.requires.may

pub bind_part-requires-clause-room : goal.bind_part-requires-clause-room
bind_part-requires-clause-room g c =
    met_room 2 4 (c.in_ok-key.ensures.met c.in-Some.key c.in-Some.is) (omega arith) c.requires.room

pub returns-in_ok-place-in-Some-clause-bound : goal.returns-in_ok-place-in-Some-clause-bound
returns-in_ok-place-in-Some-clause-bound g c =
    keyed_bound c.binding_property_view-property.ensures c.requires.names (c.in_ok-key.ensures.met c.in-Some.key c.in-Some.is)
    c.in_ok-place-in-Some.ensures.bound

pub returns-in-None-clause-bound : goal.returns-in-None-clause-bound
returns-in-None-clause-bound g c =
    lost_bound c.binding_property_view-property.ensures c.requires.names (c.in_ok-key.ensures.lost c.in-None.is)
