use Rattle.rl_syntax.specs.Syntax.{nodes, syntax}
use Rattle.rl_lower_parts.proofs.shape.+without_parentheses.Given as goal

abbrev pub decreases-without_parentheses : goal.decreases-without_parentheses
decreases-without_parentheses l = nodes (syntax l.expression.tree.now)
