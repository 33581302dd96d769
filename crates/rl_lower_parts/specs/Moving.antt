-- Expressions that are lowered in another place than they stand in.
use Rattle.std.specs.Prelude.{if◌then◌else◌}
use Rattle.rl_base.specs.Diagnostics.{diagnostic_at}
use Rattle.rl_base.specs.declared.row.Row.TheVariants as row
use Rattle.rl_builder.specs.Builder.{State, recorded}
use Rattle.rl_names.specs.Names.{Names}
use Rattle.rl_promises.specs.Moved.{may_move, type_name}
use Rattle.rl_syntax.specs.Syntax.{Syntax, Node}

-- The state in front of such an expression, which is refused if it may not be evaluated in another place (row F29).
abbrev pub moving : Names → State → (expression : Syntax) → State
moving names s (Node at w fields) =
    if may_move names (Node at w fields) then s else recorded s (diagnostic_at row.F29 (type_name w) at.span)
moving names s expression = s
