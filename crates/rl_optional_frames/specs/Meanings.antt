-- The meanings of a default and of a link of an optional chain, of those of their parts.
use Rattle.std.specs.Prelude.{Bool, true, false, Option, Some, None, List, [], ◌∷◌, ◌++◌, codes}
use Rattle.rl_frames.specs.Meanings.{passed}
use Rattle.rl_machine.specs.declared.trace.Value.{Value}
use Rattle.rl_machine.specs.declared.trace.Value.TheVariants as value
use Rattle.rl_machine.specs.Traces.{World, fired, set_open, tested, truthy}
use Rattle.rl_model.specs.Actions.{Action}
use Rattle.rl_model.specs.Events.{binary}
use Rattle.rl_model.specs.Expressions.{called}

-- A value, or the default where it is undefined.
abbrev pub defaulted : World → (default : Action Value) → Value → Action Value
defaulted world default v ways onward = λ source answers.
    fired (set_open world.opens) (binary (codes "===") v value.Undefined) source answers
    (λ same after rest. tested (set_open world.opens) (truthy same.value) after rest (default ways onward) (onward v)) ways.throws

-- The values that a link hands on: its own, and in front of it those that it was given if it lends them.
abbrev pub handed : {X : Type 0} → (lends : Bool) → (given : List X) → X → List X
handed true given x = given ++ x ∷ []
handed false given x = x ∷ []

-- A link of a chain, behind its object, or behind its callee and the object that this lends. A link that lends is a callee itself.
abbrev pub linked_values : World → (optional lends : Bool) → Action (List Value) → (link : List Value → Action Value) → Action (List Value)
linked_values world optional lends objects link ways onward =
    objects ways
    (λ vs source answers. passed optional (set_open world.opens) (called vs) source answers
    (link vs ways (λ v. onward (handed lends vs v))) ways.short)

-- As `linked_values`, for a link that lends nothing.
abbrev pub linked_over : World → (optional : Bool) → Action (List Value) → (link : List Value → Action Value) → Action Value
linked_over world optional objects link ways onward =
    objects ways
    (λ vs source answers. passed optional (set_open world.opens) (called vs) source answers (link vs ways onward) ways.short)

-- The one of these that a link tests: the object, or the callee behind the object that it lends.
abbrev pub tested_of : {X : Type 0} → List X → Option X
tested_of [] = None
tested_of (f ∷ []) = Some f
tested_of (object ∷ f ∷ xs) = Some f
