-- Properties that give their values to an object.
use Rattle.std.specs.Prelude.{List, [], ◌∷◌, ◌++◌}
use Rattle.rl_machine.specs.declared.trace.Value.{Value}
use Rattle.rl_model.specs.Actions.{Action, ◌>>=◌}
use Rattle.rl_model.specs.Expressions.{values}
use Rattle.rl_model.specs.Scene.{Scene}
use Rattle.rl_source_stack.specs.Parts.{gathered}
use Rattle.rl_source_stack.specs.declared.gather.Gather.{Gather}
use Rattle.rl_syntax.specs.Syntax.{Pieces}

-- A construct that gets the value of a key, where it has one, then a value, and then those of the parts behind it.
abbrev pub pair_then : Scene → Gather → (key : Action (List Value)) → (value : Action Value) → (left : Pieces)
    → (given : List Value) → Action Value
pair_then scene what key value left given = do
  vs ← key
  v ← value
  ws ← values scene left
  gathered scene what (given ++ ((vs ++ v ∷ []) ++ ws))
