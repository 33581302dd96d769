use Rattle.std.proofs.Common.{sym, ◌∙◌}
use Rattle.rl_names.specs.Seen.{seen}
use Rattle.rl_lower_expressions.proofs.TargetDerivations.{target_constant, target_variable_ok}
use Rattle.rl_lower_expressions.proofs.target.store_local.Goals as goal

pub returns-then-is_const-clause-lowered : goal.returns-then-is_const-clause-lowered
returns-then-is_const-clause-lowered g c =
    target_constant (seen c.args.names.now) c.args.there c.args.symbol _ c.in_ok-identifier.ensures.state c.in_ok-identifier.ensures.found
    (sym c.is_const.ensures ∙ c.if-is_const.true)
    c.in_ok-refuse_constant.ensures.state

pub returns-clause-lowered : goal.returns-clause-lowered
returns-clause-lowered g c =
    target_variable_ok (seen c.args.names.now) c.args.at c.args.value c.args.there c.args.symbol _ _ _ c.lower_value_to_temporary.result
    c.in_ok-identifier.ensures.state c.in_ok-identifier.ensures.found
    (sym c.is_const.ensures ∙ c.if-is_const.false) c.assigned_to-store.ensures
    c.lower_value_to_temporary.ensures.state c.lower_value_to_temporary.ensures.place
