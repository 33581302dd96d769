use Rattle.std.proofs.Common.{sym, ◌∙◌}
use Rattle.rl_lower_parts.proofs.NameDerivations.{global_ok, refused_global_ok}
use Rattle.rl_lower_parts.proofs.name.lower_outer.Goals as goal

pub returns-then-is_refused-clause-lowered : goal.returns-then-is_refused-clause-lowered
returns-then-is_refused-clause-lowered g c =
    refused_global_ok c.lower_value_to_temporary.result c.args.at c.args.binding _ _ _
    (sym c.is_eval-is_refused.ensures ∙ c.if-is_refused.true) c.in_ok-refuse.ensures.state
    c.lower_value_to_temporary.ensures.state c.lower_value_to_temporary.ensures.place

pub returns-clause-lowered : goal.returns-clause-lowered
returns-clause-lowered g c =
    global_ok c.lower_value_to_temporary-2.result c.args.at c.args.binding _ _
    (sym c.is_eval-is_refused.ensures ∙ c.if-is_refused.false)
    c.lower_value_to_temporary-2.ensures.state c.lower_value_to_temporary-2.ensures.place
