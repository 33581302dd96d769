use Rattle.std.proofs.Common.{sym, ◌∙◌}
use Rattle.rl_names.specs.Seen.{seen}
use Rattle.rl_lower_statements.proofs.HeadDerivations.{constant_told, reassigned_ok}
use Rattle.rl_lower_statements.proofs.heads.lower_local_head.Goals as goal

pub returns-then-is_const-clause-lowered : goal.returns-then-is_const-clause-lowered
returns-then-is_const-clause-lowered g c =
    constant_told (seen c.args.names.now) c.args.value c.args.at c.args.symbol _ _ _ _ c.in_ok-identifier.ensures.state
    c.in_ok-identifier.ensures.found (sym c.is_const.ensures ∙ c.if-is_const.true) c.name.ensures c.in_ok-diagnostic.ensures
    c.in_ok-record_diagnostic.ensures.state

pub returns-clause-lowered : goal.returns-clause-lowered
returns-clause-lowered g c =
    reassigned_ok c.lower_value_to_temporary.result (seen c.args.names.now) c.args.value c.args.at c.args.symbol _ _
    c.in_ok-identifier.ensures.state c.in_ok-identifier.ensures.found (sym c.is_const.ensures ∙ c.if-is_const.false)
    c.lower_value_to_temporary.ensures.state c.lower_value_to_temporary.ensures.place
