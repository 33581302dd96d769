use Rattle.std.proofs.Common.{◌++◌, ◌-◌, sym, ap, ◌∙◌}
use Rattle.rl_resolver.specs.Containing.{functions_out, listed}
use Rattle.rl_resolver.proofs.Stepping.{out_step}
use Rattle.rl_resolver.proofs.inside.advance.Goals as goal

pub returns-in-Some-function_scope : goal.returns-in-Some-function_scope
returns-in-Some-function_scope c =
    sym c.out.invariant
    ∙ out_step c.args.nodes.now c.out.left c.out.at c.in-Some.entry c.out-test.true (sym c.entry_at.ensures ∙ c.in-Some.is)
    ∙ ap (λ o. listed o ++ functions_out c.args.nodes.now (c.out.left - 1) c.in-Some.entry.parent) (sym c.function_scope.ensures ∙ c.in-Some-function_scope.is)

pub out-preserved : goal.out-preserved
out-preserved c =
    sym (out_step c.args.nodes.now c.out.left c.out.at c.in-Some.entry c.out-test.true (sym c.entry_at.ensures ∙ c.in-Some.is)
    ∙ ap (λ o. listed o ++ functions_out c.args.nodes.now (c.out.left - 1) c.in-Some.entry.parent) (sym c.function_scope.ensures ∙ c.in-None-function_scope.is))
    ∙ c.out.invariant
