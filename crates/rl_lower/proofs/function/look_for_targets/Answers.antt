use Rattle.rl_ast.specs.FunctionNodes.{seen_function_node}
use Rattle.rl_names.specs.Functions.{body_in, params_in}
use Rattle.rl_names.specs.Seen.{seen}
use Rattle.rl_lower.proofs.TargetStops.{goes_behind, inside, stopped_behind, stopped_first}
use Rattle.rl_lower.proofs.function.look_for_targets.Goals as goal

pub returns-clause-goes_on : goal.returns-clause-goes_on
returns-clause-goes_on c =
    goes_behind (seen c.args.names.now) c.look_inside.result c.in_ok-find_context_identifiers.ensures.unwrapped c.params_of.ensures
    c.requires.body c.look_inside.ensures.goes_on

pub returns-clause-stopped : goal.returns-clause-stopped
returns-clause-stopped c =
    stopped_behind (seen c.args.names.now) c.look_inside.result c.in_ok-find_context_identifiers.ensures.unwrapped c.params_of.ensures
    c.requires.body c.look_inside.ensures.stopped

pub returns-in_err-find_context_identifiers-clause-stopped : goal.returns-in_err-find_context_identifiers-clause-stopped
returns-in_err-find_context_identifiers-clause-stopped c =
    stopped_first c.from_residual.result
    (inside (seen c.args.names.now) (params_in (seen_function_node c.args.function)) (body_in (seen_function_node c.args.function)))
    c.from_residual.ensures.1 c.in_err-find_context_identifiers.ensures.stopped
