-- Parts of the tree as a run holds them, and lists of values.
use Rattle.std.specs.Prelude.{ℕ, if◌then◌else◌, Option, List, [], ◌∷◌, ◌++◌, codes, map}
use Rattle.std.specs.Borrow.{Bor}
use Rattle.std.specs.Option.{option_map}
use Rattle.rl_machine.specs.declared.trace.Value.{Value}
use Rattle.rl_model.specs.Actions.{Action, Label, ◌>>=◌, ask, give}
use Rattle.rl_model.specs.Events.{event, method}
use Rattle.rl_model.specs.Expressions.{eval, one_value, values}
use Rattle.rl_model.specs.Scene.{Scene}
use Rattle.rl_model.specs.Shapes as shapes
use Rattle.rl_syntax.specs.Syntax.{Syntax, Pieces, pieces_of, syntax}
use Rattle.rl_syntax.specs.declared.numbered.Numbered.{Numbered}
use Rattle.rl_source_stack.specs.declared.apart.Binding.{Binding}
use Rattle.rl_source_stack.specs.declared.apart.Binding.TheVariants as binding
use Rattle.rl_source_stack.specs.declared.apart.Bindings.{Bindings}
use Rattle.rl_source_stack.specs.declared.apart.Bindings.TheVariants as bindings
use Rattle.rl_source_stack.specs.declared.apart.Target.{Target}
use Rattle.rl_source_stack.specs.declared.apart.Target.TheVariants as target
use Rattle.rl_source_stack.specs.declared.apart.Targets.{Targets}
use Rattle.rl_source_stack.specs.declared.apart.Targets.TheVariants as targets
use Rattle.rl_source_stack.specs.declared.gather.Gather.{Gather}
use Rattle.rl_source_stack.specs.declared.gather.Gather.TheVariants as gather
use Rattle.rl_source_stack.specs.declared.gather.Parts.{Parts}
use Rattle.rl_source_stack.specs.declared.gather.Parts.TheVariants as parts
use Rattle.rl_source_stack.specs.declared.gather.Pending.{Pending}
use Rattle.rl_source_stack.specs.declared.gather.Pending.TheVariants as pending
use Rattle.rl_source_stack.specs.declared.stack.Code.{Code}
use Rattle.rl_source_stack.specs.declared.stack.Code.TheVariants as code

abbrev pub among : List Numbered → Pieces
among trees = pieces_of (map syntax trees)

abbrev pub label_of : Option (Bor (List ℕ)) → Label
label_of label = option_map (λ t. t.now) label

abbrev pub binding_syntax : Binding → Syntax
binding_syntax (binding.Pattern t) = syntax t.tree.now
binding_syntax (binding.MaybeDefault t) = syntax t.tree.now
binding_syntax (binding.Property t) = syntax t.tree.now
binding_syntax (binding.Rest t) = syntax t.tree.now

abbrev pub bindings_among : Bindings → Pieces
bindings_among (bindings.Elements ts) = among ts.trees.now
bindings_among (bindings.Properties ts) = among ts.trees.now

abbrev pub target_syntax : Target → Syntax
target_syntax (target.Whole t) = syntax t.tree.now
target_syntax (target.MaybeDefault t) = syntax t.tree.now
target_syntax (target.Name t) = syntax t.tree.now
target_syntax (target.Rest t) = syntax t.tree.now

abbrev pub targets_among : Targets → Pieces
targets_among (targets.Elements ts) = among ts.trees.now
targets_among (targets.Properties ts) = among ts.trees.now

abbrev pub code_syntax : Code → Syntax
code_syntax (code.Arrow t) = syntax t.tree.now
code_syntax (code.Function t) = syntax t.tree.now

abbrev pub parts_among : Parts → Pieces
parts_among (parts.Arguments ts) = among ts.trees.now
parts_among (parts.Elements ts) = among ts.trees.now
parts_among (parts.Properties ts) = among ts.trees.now
parts_among (parts.Expressions ts) = among ts.trees.now
parts_among (parts.Attributes ts) = among ts.trees.now
parts_among (parts.Children ts) = among ts.trees.now

-- The values that a part gives behind its first one.
abbrev pub pending_values : Scene → Pending → Action (List Value)
pending_values scene pending.Nothing = give []
pending_values scene (pending.Value expression) = one_value (eval scene (syntax expression.tree.now))
pending_values scene (pending.Method node) = one_value (ask scene (method node.0))

abbrev pub element_with : Scene → (tag : Syntax) → (attributes children : Pieces) → List Value → Action Value
element_with scene tag attributes children vs =
    ask scene (event (codes "jsx") (shapes.tag_shape tag ++ shapes.attribute_shapes attributes ++ shapes.child_shapes scene children) vs)

-- A construct all of whose values are there; of an element they are those of the tag and of the attributes.
abbrev pub gathered : Scene → Gather → List Value → Action Value
gathered scene (gather.Call lent arguments) vs =
    ask scene (event (if lent then codes "methodcall" else codes "call") (shapes.shapes (among arguments.trees.now)) vs)
gathered scene (gather.New arguments) vs = ask scene (event (codes "new") (shapes.shapes (among arguments.trees.now)) vs)
gathered scene (gather.Template quasis expressions) vs =
    ask scene (event (codes "template") (shapes.quasis (among quasis.trees.now) ++ shapes.shapes (among expressions.trees.now)) vs)
gathered scene (gather.Tagged quasis expressions) vs =
    ask scene
    (event (codes "tagged") (codes "place" ∷ shapes.quasis (among quasis.trees.now) ++ shapes.shapes (among expressions.trees.now)) vs)
gathered scene (gather.Array items) vs = ask scene (event (codes "array") (shapes.shapes (among items.trees.now)) vs)
gathered scene (gather.Object properties) vs = ask scene (event (codes "object") (shapes.shapes (among properties.trees.now)) vs)
gathered scene (gather.Attributes tag attributes children) vs = do
  ws ← values scene (among children.trees.now)
  element_with scene (syntax tag.tree.now) (among attributes.trees.now) (among children.trees.now) (vs ++ ws)
gathered scene (gather.Children tag attributes children) vs =
    element_with scene (syntax tag.tree.now) (among attributes.trees.now) (among children.trees.now) vs
gathered scene (gather.Fragment children) vs =
    ask scene (event (codes "jsxfragment") (shapes.child_shapes scene (among children.trees.now)) vs)

-- A construct of whose parts some are left, behind the values that are given.
abbrev pub gathering : Scene → Gather → (left : Pieces) → (given : List Value) → Action Value
gathering scene what left given = do
  vs ← values scene left
  gathered scene what (given ++ vs)

-- A construct that gets its next value.
abbrev pub given_next : Scene → Gather → Pending → (left : Pieces) → (given : List Value) → Value → Action Value
given_next scene what waits left given v = do
  vs ← pending_values scene waits
  ws ← values scene left
  gathered scene what (given ++ v ∷ (vs ++ ws))
