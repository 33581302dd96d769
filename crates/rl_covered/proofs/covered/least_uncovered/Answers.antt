use Rattle.rl_ast.specs.FunctionNodes.{seen_function_node}
use Rattle.rl_covered.proofs.Least.{least_of}
use Rattle.rl_covered.proofs.covered.least_uncovered.Goals as goal

pub returns-clause-least : goal.returns-clause-least
returns-clause-least c from placed =
    least_of (seen_function_node c.args.function) c.first_uncovered.result c.first_uncovered.ensures from placed
