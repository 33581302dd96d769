use Rattle.std.proofs.Common.{◌≡◌, IfOk, ap, subst, ◌∙◌}
use Rattle.rl_ast.specs.FunctionNodes.{seen_function_node}
use Rattle.rl_names.specs.Functions.{body_in, params_in}
use Rattle.rl_source_stack.specs.Controls.{from_normal}
use Rattle.rl_source_stack.specs.States.{State}
use Rattle.rl_source_statements.specs.Starts.{called}
use Rattle.rl_source_run.proofs.source.run_in.Goals as goal

pub start_node-requires : goal.start_node-requires
start_node-requires c = ap (λ (s : State). s.konts) c.in_ok-run.ensures

pub returns : goal.returns
returns c =
    subst (λ q. IfOk c.end.result (λ t. t ≡ q))
    (c.in_ok-ended.ensures
    ∙ c.in_ok-control.ensures
    ∙ ap (λ (s : State). from_normal
    (called s.scene (params_in (seen_function_node c.args.function)) c.args.inputs.arguments.now (body_in (seen_function_node c.args.function)))
    s) c.in_ok-run.ensures) c.end.ensures
