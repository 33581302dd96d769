-- The values that attributes and children of JSX give.
use Rattle.std.specs.Prelude.{◌≡◌, ℕ, Bool, true, false, List, [], ◌∷◌, codes}
use Rattle.rl_machine.specs.declared.trace.Value.{Value}
use Rattle.rl_machine.specs.declared.trace.Value.TheVariants as values
use Rattle.rl_model.specs.Actions.{Action, give, no_meaning}
use Rattle.rl_model.specs.Expressions.{eval, one_value, values_of}
use Rattle.rl_model.specs.Scene.{Scene}
use Rattle.rl_model.specs.Shapes.{child_shape}
use Rattle.rl_source_gather.specs.declared.jsx_item.Item.{Item}
use Rattle.rl_source_gather.specs.declared.jsx_item.Item.TheVariants as items
use Rattle.rl_syntax.specs.Syntax.{Syntax, Node, Said, Absent, End, Then, syntax}
use Rattle.rl_syntax.specs.declared.numbered.At.{At}
use Rattle.rl_syntax.specs.declared.word.Word.TheVariants as word

-- True of an item that gives no value.
abbrev pub is_nothing : Item → Bool
is_nothing items.Nothing = true
is_nothing _ = false

-- The values of an item.
abbrev pub item_values : Scene → Item → Action (List Value)
item_values scene items.Nothing = give []
item_values scene (items.Known v) = give (v ∷ [])
item_values scene (items.Expression t) = one_value (eval scene (syntax t.tree.now))
item_values scene (items.Element t) = one_value (eval scene (syntax t.tree.now))
item_values scene (items.Fragment t) = one_value (eval scene (syntax t.tree.now))
item_values scene items.Meaningless = no_meaning

-- The shape of a child with an item.
abbrev pub item_shape : Item → List (List ℕ)
item_shape items.Nothing = []
item_shape _ = codes "place" ∷ []

-- The values of an attribute's value.
abbrev pub value_values : Scene → (value : Syntax) → Action (List Value)
value_values scene (Node at word.Str (Then (Said text) End)) = give (values.Text (scene.attribute_text text) ∷ [])
value_values scene (Node at word.Container (Then Absent End)) = give []
value_values scene (Node at word.Container (Then expression End)) = one_value (eval scene expression)
value_values scene expression = one_value (eval scene expression)

-- A child gives what the item gives, and has the shape of its value.
pub record IsChild (scene : Scene) (child : Syntax) (item : Item) : Type 0 where
  pub values : values_of scene child (eval scene child) ≡ item_values scene item
  pub shape : child_shape scene child ≡ item_shape item

-- A container gives what the item gives, as the value of an attribute and as a child.
pub record IsContained (scene : Scene) (at : At) (expression : Syntax) (item : Item) : Type 0 where
  pub value : value_values scene (Node at word.Container (Then expression End)) ≡ item_values scene item
  pub child : IsChild scene (Node at word.Container (Then expression End)) item
