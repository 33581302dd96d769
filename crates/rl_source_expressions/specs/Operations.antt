-- Unary operations.
use Rattle.std.specs.Prelude.{ℕ, if◌then◌else◌, List, codes}
use Rattle.std.specs.Str.{bytes_eq}
use Rattle.rl_machine.specs.declared.trace.Value.{Value}
use Rattle.rl_model.specs.Actions.{Action, ◌>>=◌, ask}
use Rattle.rl_model.specs.Events.{unary}
use Rattle.rl_model.specs.Expressions.{delete_property, eval}
use Rattle.rl_model.specs.Scene.{Scene}
use Rattle.rl_syntax.specs.Syntax.{Syntax}

-- The value of a unary operation, which is a deletion where the operator is `delete`.
abbrev pub unary_value : Scene → (operator : List ℕ) → (argument : Syntax) → Action Value
unary_value scene operator argument =
    if bytes_eq operator (codes "delete") then delete_property scene argument
    else (do
      v ← eval scene argument
      ask scene (unary operator v))
