use Rattle.rl_syntax.specs.Syntax.{syntax}
use Rattle.rl_lower_statements.proofs.ItemDerivations.{element_bound, hole_bound}
use Rattle.rl_lower_statements.proofs.pattern_items.bind_element.Goals as goal

pub returns-in_ok-place-in-Pattern-clause-bound : goal.returns-in_ok-place-in-Pattern-clause-bound
returns-in_ok-place-in-Pattern-clause-bound g c =
    element_bound (syntax c.in-Pattern.pattern.tree.now) c.in-Pattern.pattern.fit c.in-Pattern.ensures c.requires.names
    c.in_ok-place-in-Pattern.ensures.bound

pub returns-in-Hole-clause-bound : goal.returns-in-Hole-clause-bound
returns-in-Hole-clause-bound g c = hole_bound c.in-Hole.ensures c.requires.names
