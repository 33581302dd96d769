-- Constructs that begin with a callee: calls and tagged templates.
use Rattle.std.specs.Prelude.{ℕ, Bool, if◌then◌else◌, List, ◌∷◌, ◌++◌, codes}
use Rattle.rl_machine.specs.declared.trace.Value.{Value}
use Rattle.rl_model.specs.Actions.{Action, ◌>>=◌, ◌>>◌, ask, no_meaning}
use Rattle.rl_model.specs.Events.{event}
use Rattle.rl_model.specs.Expressions.{call_kind, called, callee, eval, one_value, unless_nullish, values}
use Rattle.rl_model.specs.Scene.{Scene}
use Rattle.rl_model.specs.Shapes as shapes
use Rattle.rl_source_stack.specs.Parts.{among}
use Rattle.rl_source_stack.specs.declared.stack.Heading.{Heading}
use Rattle.rl_source_stack.specs.declared.stack.Heading.TheVariants as heading
use Rattle.rl_syntax.specs.Syntax.{Syntax, Pieces}

-- The function that a callee gives, behind the object that it lends.
abbrev pub head_of : Scene → (callee : Syntax) → Action (List Value)
head_of scene t = if shapes.lends t then callee scene t else one_value (eval scene t)

-- The texts of a tagged template.
abbrev pub tagged_texts : (quasis expressions : Pieces) → List (List ℕ)
tagged_texts quasis expressions = codes "place" ∷ shapes.quasis quasis ++ shapes.shapes expressions

-- A construct behind its callee.
abbrev pub heading_then : Scene → Heading → (head : List Value) → Action Value
heading_then scene (heading.Call optional arguments) head = do
  unless_nullish scene optional (called head)
  vs ← values scene (among arguments.trees.now)
  ask scene (event (call_kind head) (shapes.shapes (among arguments.trees.now)) (head ++ vs))
heading_then scene (heading.Tagged quasis expressions) head = do
  vs ← values scene (among expressions.trees.now)
  ask scene (event (codes "tagged") (tagged_texts (among quasis.trees.now) (among expressions.trees.now)) (head ++ vs))

abbrev pub heading_value : Scene → Heading → (callee : Syntax) → Action Value
heading_value scene h t = head_of scene t >>= heading_then scene h

-- A tagged template, which has a meaning where it is cooked as it is written.
abbrev pub tagged_value : Scene → (raw : Bool) → (tag : Syntax) → (quasis expressions : Pieces) → Action Value
tagged_value scene raw tag quasis expressions =
    if raw then (do
      head ← head_of scene tag
      vs ← values scene expressions
      ask scene (event (codes "tagged") (tagged_texts quasis expressions) (head ++ vs)))
    else no_meaning
