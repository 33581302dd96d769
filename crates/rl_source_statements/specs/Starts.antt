-- The meaning of statements, by their parts.
use Rattle.std.specs.Prelude.{◌≡◌, ℕ, Bool, true, false, ◌&&◌, if◌then◌else◌, Option, Some, None, List, ◌∷◌, ◌++◌, codes}
use Rattle.rl_hir.specs.declared.terminal.ReturnVariant.TheVariants as returns
use Rattle.rl_machine.specs.declared.trace.Value.{Value}
use Rattle.rl_machine.specs.declared.trace.Value.TheVariants as value
use Rattle.rl_model.specs.Actions.{Action, Label, ◌>>=◌, ◌>>◌, ask, breakable, catching, done, loop, no_meaning, return_with}
use Rattle.rl_model.specs.Events.{function, get_iterator}
use Rattle.rl_model.specs.Expressions.{eval, take_apart}
use Rattle.rl_model.specs.Functions.{run_body, take_params}
use Rattle.rl_model.specs.Patterns.{bind, declare}
use Rattle.rl_model.specs.Scene.{Scene}
use Rattle.rl_model.specs.Shapes as shapes
use Rattle.rl_model.specs.Statements.{exec, has_meaning, take_head}
use Rattle.rl_source_stack.specs.Frames.{bind_rest}
use Rattle.rl_source_stack.specs.Loops.{turn, turn_for, turn_of}
use Rattle.rl_source_stack.specs.Parts.{binding_syntax}
use Rattle.rl_source_stack.specs.declared.apart.Binding.{Binding}
use Rattle.rl_source_stack.specs.declared.behind.Loop.{Loop}
use Rattle.rl_syntax.specs.Syntax.{Syntax, Node, Absent, Pieces, End, Then}
use Rattle.rl_syntax.specs.declared.word.Word.TheVariants as word

-- A `return` with an expression, or without one.
abbrev pub returning : Scene → (argument : Syntax) → Action (Unit {0})
returning scene Absent = return_with scene returns.Explicit value.Undefined
returning scene argument = do
  v ← eval scene argument
  return_with scene returns.Explicit v

-- A `try`, whose `catch` takes the throws of its block. One with `finally`, or without `catch`, has no meaning.
abbrev pub trying : Scene → (block handler finalizer : Syntax) → Action (Unit {0})
trying scene block (Node at word.Catch (Then param (Then body End))) finalizer =
    if shapes.is_absent finalizer then catching (exec scene None block) (λ v. do
      bind scene true param v
      exec scene None body)
    else no_meaning
trying scene block handler finalizer = no_meaning

-- All turns of a loop.
abbrev pub looping : Scene → Label → Loop → Action (Unit {0})
looping scene own parts = breakable (loop (turn scene own parts))

-- A `for`-`of` loop. `for`-`await` has no meaning.
abbrev pub iterating : Scene → Label → (is_await : Bool) → (head right body : Syntax) → Action (Unit {0})
iterating scene own true head right body = no_meaning
iterating scene own false head right body = do
  collection ← eval scene right
  iterator ← ask scene (get_iterator collection)
  breakable (loop (turn_of scene own head iterator collection body))

-- A `for` loop. One without a test, or with an expression in front, has no meaning.
abbrev pub for_loop : Scene → Label → (init condition update body : Syntax) → Action (Unit {0})
for_loop scene own init condition update body =
    if has_meaning init condition then (do
      exec scene None init
      breakable (loop (turn_for scene own condition update body)))
    else no_meaning

-- A function declaration with a body stores its function; one without declares nothing.
abbrev pub storing : Scene → (node : ℕ) → (name : Syntax) → Action (Unit {0})
storing scene node (Node there word.Bind parts) = do
  v ← ask scene (function node)
  declare (scene.stored there.id.0) v
storing scene node name = no_meaning

abbrev pub storing_body : Scene → (node : ℕ) → (name body : Syntax) → Action (Unit {0})
storing_body scene node name Absent = done
storing_body scene node name body = storing scene node name

-- The pattern of a declaration in the head of a loop takes a value; without one the declaration has no meaning.
abbrev pub taken_by : Option Binding → Scene → Value → Action (Unit {0})
taken_by None scene v = no_meaning
taken_by (Some pattern) scene v = bind scene true (binding_syntax pattern) v

abbrev pub IsHeadPattern : Option Binding → (declaration : Syntax) → Type 0
IsHeadPattern found declaration = (scene : Scene) (v : Value) → take_head scene declaration v ≡ taken_by found scene v

-- A function that is called: its parameters take the arguments, and then its body runs.
abbrev pub called : Scene → (params : Syntax) → List Value → (body : Syntax) → Action (Unit {0})
called scene params arguments body = do
  take_params scene params arguments
  run_body scene body

-- Patterns, in a scene as it is written.
abbrev pub bound_array : Scene → (everywhere : Bool) → (items : Pieces) → (rest : Syntax) → Value → Action (Unit {0})
bound_array scene everywhere items rest v = do
  pieces ← take_apart scene (codes "array" ∷ shapes.piece_shapes items ++ shapes.rest_shape rest) v
  bind_rest scene everywhere items pieces rest

abbrev pub taken_object : Scene → (everywhere : Bool) → (properties : Pieces) → (rest : Syntax) → Value → Action (Unit {0})
taken_object scene everywhere properties rest v = do
  pieces ← take_apart scene (codes "object" ∷ shapes.piece_shapes properties ++ shapes.rest_shape rest) v
  bind_rest scene everywhere properties pieces rest

abbrev pub bound_object : Scene → (everywhere : Bool) → (properties : Pieces) → (rest : Syntax) → Value → Action (Unit {0})
bound_object scene everywhere properties rest v =
    if shapes.have_keys properties && shapes.is_plain_rest rest then taken_object scene everywhere properties rest v else no_meaning
