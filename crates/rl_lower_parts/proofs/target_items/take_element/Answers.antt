use Rattle.rl_lower_parts.proofs.ItemDerivations.{element_told}
use Rattle.rl_lower_parts.proofs.ItemsInOrder.{hole_taken}
use Rattle.rl_lower_parts.proofs.target_items.take_element.Goals as goal

pub returns-in-Some-clause-taken : goal.returns-in-Some-clause-taken
returns-in-Some-clause-taken g c =
    element_told c.in-Target.target.fit c.in-Target.ensures c.requires.names c.requires.direct c.plain_name.ensures
    c.in_ok-place-in-Target.ensures.taken c.in-Some.is

pub returns-in-None-clause-taken : goal.returns-in-None-clause-taken
returns-in-None-clause-taken g c =
    element_told c.in-Target.target.fit c.in-Target.ensures c.requires.names c.requires.direct c.plain_name.ensures
    c.in_ok-place-in-Target.ensures.taken c.in-None.is

pub returns-in-Hole-clause-taken : goal.returns-in-Hole-clause-taken
returns-in-Hole-clause-taken g c = hole_taken c.in-Hole.ensures c.requires.names
