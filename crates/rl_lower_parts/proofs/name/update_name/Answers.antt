use Rattle.std.proofs.Common.{sym, ◌∙◌}
use Rattle.rl_base.specs.Operators.{update_text}
use Rattle.rl_names.specs.Seen.{seen}
use Rattle.rl_syntax.specs.Syntax.{Flag, Said}
use Rattle.rl_lower_parts.proofs.NameDerivations.{outer_update_ok}
use Rattle.rl_lower_parts.proofs.name.update_name.Goals as goal

pub returns-in-Outer-clause-lowered : goal.returns-in-Outer-clause-lowered
returns-in-Outer-clause-lowered g c =
    outer_update_ok (seen c.args.names.now) _ c.refuse_as_undefined.result c.args.at c.args.identifier.now.at c.in-Outer.binding _
    (Said (update_text c.args.operator)) (Flag c.args.prefix) _
    (sym c.in_ok-symbol.ensures ∙ c.in-Outer.is) c.row_of_update.ensures c.refuse_as_undefined.ensures.state
    c.refuse_as_undefined.ensures.place
