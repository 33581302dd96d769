use Rattle.std.proofs.Common.{sym, ◌∙◌}
use Rattle.rl_names.specs.Seen.{seen}
use Rattle.rl_lower_expressions.proofs.AssignmentDerivations.{assigned_constant_ok, assigned_variable_ok}
use Rattle.rl_lower_expressions.proofs.assignment.assign_local.Goals as goal

pub returns-then-is_const-clause-lowered : goal.returns-then-is_const-clause-lowered
returns-then-is_const-clause-lowered g c =
    assigned_constant_ok c.lower_undefined.result (seen c.args.names.now) c.args.there c.args.symbol _ c.args.value _
    c.in_ok-identifier.ensures.state c.in_ok-identifier.ensures.found (sym c.is_const.ensures ∙ c.if-is_const.true)
    c.in_ok-refuse_constant.ensures.state c.lower_undefined.ensures.state c.lower_undefined.ensures.place

pub returns-clause-lowered : goal.returns-clause-lowered
returns-clause-lowered g c =
    assigned_variable_ok c.lower_value_to_temporary.result (seen c.args.names.now) c.args.there c.args.symbol _ c.args.value _ _
    c.in_ok-identifier.ensures.state c.in_ok-identifier.ensures.found (sym c.is_const.ensures ∙ c.if-is_const.false)
    c.assigned_to-store.ensures c.lower_value_to_temporary.ensures.state c.lower_value_to_temporary.ensures.place
