-- Elements of JSX by their tags.
use Rattle.std.specs.Prelude.{ℕ, Bool, if◌then◌else◌, List, [], ◌++◌, codes}
use Rattle.rl_machine.specs.declared.trace.Value.{Value}
use Rattle.rl_machine.specs.declared.trace.Value.TheVariants as value
use Rattle.rl_model.specs.Actions.{Action, ◌>>=◌, ask, give}
use Rattle.rl_model.specs.Events.{event, fixed_key, load}
use Rattle.rl_model.specs.Expressions.{one_value, tag_value, values}
use Rattle.rl_model.specs.Scene.{Scene}
use Rattle.rl_model.specs.Shapes as shapes
use Rattle.rl_syntax.specs.Syntax.{Pieces, Syntax}

-- The value of a tag that is a property.
abbrev pub member_value : Scene → (object : Syntax) → (property : List ℕ) → Action Value
member_value scene object property = do
  v ← tag_value scene object
  ask scene (load v (fixed_key (value.Text property)))

-- The texts of an element.
abbrev pub element_texts : Scene → (tag : Syntax) → (attributes children : Pieces) → List (List ℕ)
element_texts scene tag attributes children =
    shapes.tag_shape tag ++ shapes.attribute_shapes attributes ++ shapes.child_shapes scene children

-- The value of an element, whose tag gives a value unless it is builtin.
abbrev pub element_by : Scene → (builtin : Bool) → (tag : Syntax) → (attributes children : Pieces) → Action Value
element_by scene builtin tag attributes children = do
  head ← (if builtin then give [] else one_value (tag_value scene tag))
  vs ← values scene attributes
  ws ← values scene children
  ask scene (event (codes "jsx") (element_texts scene tag attributes children) (head ++ vs ++ ws))
