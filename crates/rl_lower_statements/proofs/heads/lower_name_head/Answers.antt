use Rattle.std.proofs.Common.{sym, ◌∙◌}
use Rattle.rl_names.specs.Seen.{seen}
use Rattle.rl_lower_statements.proofs.HeadDerivations.{stored_global_ok}
use Rattle.rl_lower_statements.proofs.heads.lower_name_head.Goals as goal

pub returns-in_ok-name-in-Outer-clause-lowered : goal.returns-in_ok-name-in-Outer-clause-lowered
returns-in_ok-name-in-Outer-clause-lowered g c =
    stored_global_ok (seen c.args.names.now) _ c.lower_value_to_temporary.result c.args.value c.args.identifier.now.at c.in-Outer._binding _
    _
    (sym c.in_ok-symbol.ensures ∙ c.in-Outer.is) c.in_ok-name-in-Outer.ensures c.lower_value_to_temporary.ensures.state
    c.lower_value_to_temporary.ensures.place
