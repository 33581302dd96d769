-- Assignments and updates, by what they assign to.
use Rattle.std.proofs.Common.{◌≡◌, Bool, true, ℕ, List, refl, sym, ap, ◌∙◌, true≢false}
use Rattle.rl_machine.specs.declared.trace.Value.{Value}
use Rattle.rl_model.specs.Actions.{Action, ◌>>=◌, ◌>>◌, give, no_meaning}
use Rattle.rl_model.specs.Events.{Key}
use Rattle.rl_model.specs.Expressions.{assignment, compound, eval, place, update_property, write_property}
use Rattle.rl_model.specs.Scene.{Scene}
use Rattle.rl_source_expressions.specs.Places.{is_pattern, is_private, property_syntax}
use Rattle.rl_source_stack.specs.Controls.{from}
use Rattle.rl_source_stack.specs.Properties.{compound_in, key_by}
use Rattle.rl_source_stack.specs.States.{State, state_of}
use Rattle.rl_source_stack.specs.declared.property.Property.{Property}
use Rattle.rl_source_stack.specs.declared.property.Property.TheVariants as property
use Rattle.rl_source_stack.specs.declared.run.Run.{Run}
use Rattle.rl_syntax.specs.Syntax.{Syntax, Node, Said, Flag, End, Then}
use Rattle.rl_syntax.specs.declared.numbered.At.{At}
use Rattle.rl_syntax.specs.declared.word.Word.TheVariants as word

-- The use of a property, once its object and its key are there.
abbrev pub with_property : Scene → (object : Syntax) → Property → (next : Value → Key → Action Value) → Action Value
with_property scene object key next = do
  v ← eval scene object
  known ← key_by scene key
  next v known

abbrev assigned_next : Scene → Action Value → Value → Key → Action Value
assigned_next scene right object key = do
  v ← right
  write_property scene object key v

-- `=` to a property, a compound assignment to one, and its update.
property_assigned : (r : Run) (at : At) (optional : Bool) (object : Syntax) (key : Property) (take : Value → Action (Unit {0}))
    (right : Action Value)
    → from (with_property (state_of r).scene object key (assigned_next (state_of r).scene right)) (state_of r)
    ≡ from (assignment (state_of r).scene (property_syntax at optional object key)
    (place (state_of r).scene (property_syntax at optional object key)) take right) (state_of r)
property_assigned r at optional object (property.Named name) take right = refl
property_assigned r at optional object (property.Computed e) take right = refl

property_compound : (s : State) (at : At) (optional : Bool) (object : Syntax) (key : Property) (operator : List ℕ) (right : Action Value)
    → from (with_property s.scene object key (compound_in s.scene operator right)) s
    ≡ from (compound s.scene operator (property_syntax at optional object key)
    (place s.scene (property_syntax at optional object key)) right) s
property_compound s at optional object (property.Named name) operator right = refl
property_compound s at optional object (property.Computed e) operator right = refl

property_updated : (s : State) (there at : At) (optional : Bool) (object : Syntax) (key : Property) (operator : List ℕ) (prefix : Bool)
    → from (with_property s.scene object key (update_property s.scene prefix operator)) s
    ≡ from (eval s.scene (Node there word.Update
    (Then (Said operator) (Then (Flag prefix) (Then (property_syntax at optional object key) End))))) s
property_updated s there at optional object (property.Named name) operator prefix = refl
property_updated s there at optional object (property.Computed e) operator prefix = refl

-- A target that is such a property.
pub place_assigned : (r : Run) (at : At) (optional : Bool) (object : Syntax) (key : Property) (take : Syntax → Value → Action (Unit {0}))
    (right : Action Value)
    → (t : Syntax) → property_syntax at optional object key ≡ t
    → from (with_property (state_of r).scene object key (assigned_next (state_of r).scene right)) (state_of r)
    ≡ from (assignment (state_of r).scene t (place (state_of r).scene t) (take t) right) (state_of r)
place_assigned r at optional object key take right t is =
    property_assigned r at optional object key (take (property_syntax at optional object key)) right
    ∙ ap (λ x. from (assignment (state_of r).scene x (place (state_of r).scene x) (take x) right) (state_of r)) is

pub place_compound : (s : State) (at : At) (optional : Bool) (object : Syntax) (key : Property) (operator : List ℕ) (right : Action Value)
    → (t : Syntax) → property_syntax at optional object key ≡ t
    → from (with_property s.scene object key (compound_in s.scene operator right)) s
    ≡ from (compound s.scene operator t (place s.scene t) right) s
place_compound s at optional object key operator right t is =
    property_compound s at optional object key operator right ∙ ap (λ x. from (compound s.scene operator x (place s.scene x) right) s) is

pub place_updated : (s : State) (there at : At) (optional : Bool) (object : Syntax) (key : Property) (operator : List ℕ) (prefix : Bool)
    → (t : Syntax) → property_syntax at optional object key ≡ t
    → from (with_property s.scene object key (update_property s.scene prefix operator)) s
    ≡ from (eval s.scene (Node there word.Update (Then (Said operator) (Then (Flag prefix) (Then t End))))) s
place_updated s there at optional object key operator prefix t is =
    property_updated s there at optional object key operator prefix
    ∙ ap (λ x. from (eval s.scene (Node there word.Update (Then (Said operator) (Then (Flag prefix) (Then x End))))) s) is

-- An assignment to a private property has no meaning.
pub private_assigned : (s : State) (t : Syntax) (object_key : Action (Value × Key)) (take : Value → Action (Unit {0}))
    (right : Action Value)
    → is_private t ≡ true → from no_meaning s ≡ from (assignment s.scene t object_key take right) s
private_assigned s (Node at word.Privatemember ps) object_key take right is = refl
private_assigned s _ object_key take right is = absurd (true≢false (sym is))

pub private_compound : (s : State) (t : Syntax) (operator : List ℕ) (right : Action Value)
    → is_private t ≡ true → from no_meaning s ≡ from (compound s.scene operator t (place s.scene t) right) s
private_compound s (Node at word.Privatemember ps) operator right is = refl
private_compound s _ operator right is = absurd (true≢false (sym is))

pub private_updated : (s : State) (there : At) (t : Syntax) (operator : List ℕ) (prefix : Bool)
    → is_private t ≡ true
    → from no_meaning s ≡ from (eval s.scene (Node there word.Update (Then (Said operator) (Then (Flag prefix) (Then t End))))) s
private_updated s there (Node at word.Privatemember ps) operator prefix is = refl
private_updated s there _ operator prefix is = absurd (true≢false (sym is))

-- An assignment to a pattern has the value first; no other operator has a meaning there.
pub pattern_assigned : (s : State) (t : Syntax) (object_key : Action (Value × Key)) (take : Value → Action (Unit {0}))
    (right : Action Value)
    → is_pattern t ≡ true
    → from (right >>= (λ v. take v >> give v)) s ≡ from (assignment s.scene t object_key take right) s
pattern_assigned s (Node at word.Id ps) object_key take right is = absurd (true≢false (sym is))
pattern_assigned s (Node at word.Member ps) object_key take right is = absurd (true≢false (sym is))
pattern_assigned s (Node at word.Index ps) object_key take right is = absurd (true≢false (sym is))
pattern_assigned s (Node at word.Privatemember ps) object_key take right is = absurd (true≢false (sym is))
pattern_assigned s _ object_key take right is = refl

pub pattern_compound : (s : State) (t : Syntax) (operator : List ℕ) (right : Action Value)
    → is_pattern t ≡ true → from no_meaning s ≡ from (compound s.scene operator t (place s.scene t) right) s
pattern_compound s (Node at word.Id ps) operator right is = absurd (true≢false (sym is))
pattern_compound s (Node at word.Member ps) operator right is = absurd (true≢false (sym is))
pattern_compound s (Node at word.Index ps) operator right is = absurd (true≢false (sym is))
pattern_compound s (Node at word.Privatemember ps) operator right is = absurd (true≢false (sym is))
pattern_compound s _ operator right is = refl

pub pattern_updated : (s : State) (there : At) (t : Syntax) (operator : List ℕ) (prefix : Bool)
    → is_pattern t ≡ true
    → from no_meaning s ≡ from (eval s.scene (Node there word.Update (Then (Said operator) (Then (Flag prefix) (Then t End))))) s
pattern_updated s there (Node at word.Id ps) operator prefix is = absurd (true≢false (sym is))
pattern_updated s there (Node at word.Member ps) operator prefix is = absurd (true≢false (sym is))
pattern_updated s there (Node at word.Index ps) operator prefix is = absurd (true≢false (sym is))
pattern_updated s there (Node at word.Privatemember ps) operator prefix is = absurd (true≢false (sym is))
pattern_updated s there _ operator prefix is = refl
