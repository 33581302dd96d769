use Rattle.std.proofs.Common.{sym, ◌∙◌}
use Rattle.rl_lower_parts.proofs.ItemDerivations.{constant_given, variable_given}
use Rattle.rl_lower_parts.proofs.target_items.variable_place.Goals as goal

pub returns-then-is_const-clause-given : goal.returns-then-is_const-clause-given
returns-then-is_const-clause-given g c = λ tree local there.
    constant_given local there c.in_ok-identifier.ensures.state c.in_ok-identifier.ensures.found
    (sym c.is_const.ensures ∙ c.if-is_const.true) c.in_ok-refuse_constant.ensures.state

pub returns-clause-given : goal.returns-clause-given
returns-clause-given g c = λ tree local there.
    variable_given local there c.in_ok-identifier.ensures.state c.in_ok-identifier.ensures.found
    (sym c.is_const.ensures ∙ c.if-is_const.false)
