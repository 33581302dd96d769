use Rattle.std.proofs.Common.{◌&&◌, ap, ◌∙◌}
use Rattle.std.specs.List.{list_any}
use Rattle.rl_context.specs.Context.{captures, is_context}
use Rattle.rl_context.proofs.Captured.{both_context}
use Rattle.rl_context.proofs.context.find_context_identifiers.Goals as goal

pub returns-clause-found : goal.returns-clause-found
returns-clause-found c symbol =
    c.in_ok-found.ensures symbol
    ∙ ap (λ x. x && list_any (captures c.args.scope.now.semantic.now.bindings symbol.0) c.sites-sites.result.now) (c.in_ok-assigned.ensures symbol)
    ∙ both_context c.args.scope.now.semantic.now.bindings c.sites-sites.result.now symbol.0
    ∙ ap (λ ss. is_context c.args.scope.now.semantic.now.bindings ss symbol.0) (c.sites-sites.ensures ∙ c.requires)
