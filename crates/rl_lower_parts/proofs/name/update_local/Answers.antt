use Rattle.std.proofs.Common.{sym, ◌∙◌}
use Rattle.rl_base.specs.Operators.{update_text}
use Rattle.rl_names.specs.Seen.{seen}
use Rattle.rl_syntax.specs.Syntax.{Flag, Said}
use Rattle.rl_lower_parts.proofs.NameDerivations.{updated_constant_ok, updated_variable_ok}
use Rattle.rl_lower_parts.proofs.name.update_local.Goals as goal

pub returns-then-is_const-clause-lowered : goal.returns-then-is_const-clause-lowered
returns-then-is_const-clause-lowered g c =
    updated_constant_ok c.lower_undefined.result (seen c.args.names.now) c.args.at c.args.there c.args.symbol _
    (Said (update_text c.args.operator)) (Flag c.args.prefix) _
    c.in_ok-resolve_variable.ensures.state c.in_ok-resolve_variable.ensures.found (sym c.is_const.ensures ∙ c.if-is_const.true)
    c.in_ok-refuse_constant.ensures.state
    c.lower_undefined.ensures.state c.lower_undefined.ensures.place

pub returns-clause-lowered : goal.returns-clause-lowered
returns-clause-lowered g c =
    updated_variable_ok c.lower_value_to_temporary.result (seen c.args.names.now) c.args.at c.args.there c.args.symbol _ _
    c.args.operator c.args.prefix _ _
    c.in_ok-resolve_variable.ensures.state c.in_ok-resolve_variable.ensures.found (sym c.is_const.ensures ∙ c.if-is_const.false)
    c.in_ok-identifier.ensures.state c.in_ok-identifier.ensures.found c.update_value-value.ensures
    c.lower_value_to_temporary.ensures.state c.lower_value_to_temporary.ensures.place
