-- Properties of objects: their keys and their uses.
use Rattle.std.specs.Prelude.{ℕ, List}
use Rattle.rl_base.specs.Operators.{operator_text, update_text}
use Rattle.rl_machine.specs.Traces.{Cont}
use Rattle.rl_machine.specs.declared.trace.Value.{Value}
use Rattle.rl_machine.specs.declared.trace.Value.TheVariants as value
use Rattle.rl_model.specs.Actions.{Action, ◌>>=◌, ask, give}
use Rattle.rl_model.specs.Events as events
use Rattle.rl_model.specs.Expressions.{eval, key_in, update_property, write_property}
use Rattle.rl_model.specs.Scene.{Scene}
use Rattle.rl_syntax.specs.Syntax.{syntax}
use Rattle.rl_source_stack.specs.Konts.{Konts}
use Rattle.rl_trace.specs.Values.{shown}
use Rattle.rl_source_stack.specs.declared.property.Key.{Key}
use Rattle.rl_source_stack.specs.declared.property.Property.{Property}
use Rattle.rl_source_stack.specs.declared.property.Property.TheVariants as property
use Rattle.rl_source_stack.specs.declared.property.Use.{Use}
use Rattle.rl_source_stack.specs.declared.property.Use.TheVariants as «use»

abbrev pub key_of : Key → events.Key
key_of key = record { fixed = key.fixed; value = shown key.value }

abbrev pub key_by : Scene → Property → Action events.Key
key_by scene (property.Named name) = give (events.fixed_key (value.Text name.now))
key_by scene (property.Computed expression) = key_in (syntax expression.tree.now) (eval scene (syntax expression.tree.now))

-- A compound assignment to a property.
abbrev pub compound_in : Scene → (operator : List ℕ) → (right : Action Value) → (object : Value) → events.Key → Action Value
compound_in scene operator right object key = do
  old ← ask scene (events.load object key)
  w ← right
  v ← ask scene (events.binary operator old w)
  write_property scene object key v

-- The use of a property, once its object and its key are known.
abbrev pub used : Scene → Use → (object : Value) → events.Key → Konts → Cont
used scene «use».Load object key k = ask scene (events.load object key) k.ways k.value
used scene «use».Lend object key k = ask scene (events.load object key) k.ways (k.pair object)
used scene «use».Delete object key k = ask scene (events.delete object key) k.ways k.value
used scene («use».Assign right) object key k = (do v ← eval scene (syntax right.tree.now); write_property scene object key v) k.ways k.value
used scene («use».Compound operator right) object key k =
    compound_in scene (operator_text operator) (eval scene (syntax right.tree.now)) object key k.ways k.value
used scene («use».Update operator prefix) object key k = update_property scene prefix (update_text operator) object key k.ways k.value
used scene («use».Store v) object key k = write_property scene object key (shown v) k.ways (λ w. k.normal)

-- The use of a property, once its object is known.
abbrev pub linked : Scene → Property → Use → (object : Value) → Konts → Cont
linked scene key then_use object k = key_by scene key k.ways (λ known. used scene then_use object known k)
