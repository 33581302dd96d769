use Rattle.std.proofs.Common.{◌++◌, ap, ◌∙◌}
use Rattle.rl_code.proofs.variables.Variables.push_local.Goals as goal

pub returns : goal.returns
returns c = c.in_ok-push_symbol.ensures ∙ ap (λ l. c.args.out.now.items ++ l) (c.local.ensures c.args.name.now)
