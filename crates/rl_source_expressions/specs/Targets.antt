-- Targets that take values.
use Rattle.std.specs.Prelude.{◌&&◌, if◌then◌else◌, ◌∷◌, ◌++◌, codes}
use Rattle.rl_machine.specs.declared.trace.Trace.{Trace}
use Rattle.rl_machine.specs.declared.trace.Value.{Value}
use Rattle.rl_model.specs.Actions.{Action, ◌>>=◌, no_meaning}
use Rattle.rl_model.specs.Expressions.{assign_to, eval, or_default, take_apart}
use Rattle.rl_model.specs.Scene.{Scene}
use Rattle.rl_model.specs.Shapes as shapes
use Rattle.rl_source_stack.specs.Controls.{from_normal}
use Rattle.rl_source_stack.specs.Frames.{assign_rest}
use Rattle.rl_source_stack.specs.Parts.{target_syntax}
use Rattle.rl_source_stack.specs.States.{State}
use Rattle.rl_source_stack.specs.declared.apart.Target.{Target}
use Rattle.rl_syntax.specs.Syntax.{Pieces, Syntax}

-- A target takes a value, or its default where it is undefined.
abbrev pub default_assigned : Scene → (target default : Syntax) → Value → Action (Unit {0})
default_assigned scene target default v = do
  w ← or_default scene v (eval scene default)
  assign_to scene target w

abbrev pub defaulted : Target → (default : Syntax) → Value → State → Trace
defaulted target default v s = from_normal (default_assigned s.scene (target_syntax target) default v) s

-- The items of an array target take the pieces of a value, and then the rest does.
abbrev pub array_assigned : Scene → (items : Pieces) → (rest : Syntax) → Value → Action (Unit {0})
array_assigned scene items rest v = do
  pieces ← take_apart scene (codes "array" ∷ shapes.piece_shapes items ++ shapes.rest_shape rest) v
  assign_rest scene items pieces rest

-- As `array_assigned`, for the properties of an object target.
abbrev pub object_taken : Scene → (properties : Pieces) → (rest : Syntax) → Value → Action (Unit {0})
object_taken scene properties rest v = do
  pieces ← take_apart scene (codes "object" ∷ shapes.piece_shapes properties ++ shapes.rest_shape rest) v
  assign_rest scene properties pieces rest

-- An object target has no meaning where a key has none, or where the rest is no name.
abbrev pub object_assigned : Scene → (properties : Pieces) → (rest : Syntax) → Value → Action (Unit {0})
object_assigned scene properties rest v =
    if shapes.have_keys properties && shapes.is_plain_rest rest then object_taken scene properties rest v else no_meaning
