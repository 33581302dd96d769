-- The stores that variables by number stand for.
use Rattle.std.specs.Prelude.{ℕ, nat_eq, if◌then◌else◌, Option, Some, None, List, [], ◌∷◌, slice_get}
use Rattle.rl_machine.specs.Traces.{Store}
use Rattle.rl_machine.specs.declared.trace.Value.{Value}
use Rattle.rl_machine.specs.declared.trace.Value.TheVariants as value
use Rattle.rl_trace.specs.Values.{shown}
use Rattle.rl_trace.specs.declared.value.Val.{Val}
use Rattle.rl_trace.specs.declared.variables.Far.{Far}
use Rattle.rl_trace.specs.declared.variables.Variables.{Variables}

-- The last value that was set at a number, and `v` where there is none.
abbrev pub far_value : List Far → (number : ℕ) → (v : Value) → Value
far_value [] number v = v
far_value (f ∷ fars) number v = far_value fars number (if nat_eq number f.number then shown f.value else v)

abbrev pub near_value : Option Val → (else_value : Value) → Value
near_value None else_value = else_value
near_value (Some v) else_value = shown v

abbrev pub store_in : List Val → List Far → Store
store_in near far = λ number. near_value (slice_get near number) (far_value far number value.Undefined)

abbrev pub store_of : Variables → Store
store_of v = store_in v.near.items v.far.items
