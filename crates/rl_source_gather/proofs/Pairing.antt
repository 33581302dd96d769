-- Keys of properties: those that are computed, those that are known before, and those without a meaning.
use Rattle.std.proofs.Common.{◌≡◌, Bool, true, false, if◌then◌else◌, Option, Some, None, is_some, ℕ, List, [], ap, sym, ◌∙◌}
use Rattle.std.specs.Option.{option_map}
use Rattle.rl_machine.specs.declared.trace.Value.{Value}
use Rattle.rl_model.specs.Actions.{Action, give, no_meaning}
use Rattle.rl_model.specs.Expressions.{one_value, property_key}
use Rattle.rl_model.specs.Shapes as shapes
use Rattle.rl_syntax.specs.Syntax.{Syntax}

-- The values that a key gives, by whether it is computed in the literal and whether it has a text.
abbrev key_by : (computed known : Bool) → Action Value → Action (List Value)
key_by computed known value = if computed then one_value value else if known then give [] else no_meaning

pub key_computed : (computed : Bool) (key : Syntax) (value : Action Value) → shapes.is_computed computed key ≡ true
    → property_key computed key value ≡ one_value value
key_computed computed key value is = ap (λ b. key_by b (is_some (shapes.key_text computed key)) value) is

pub key_known : (computed : Bool) (key : Syntax) (value : Action Value) → shapes.is_computed computed key ≡ false
    → is_some (shapes.key_text computed key) ≡ true → property_key computed key value ≡ give []
key_known computed key value is known =
    ap (λ b. key_by b (is_some (shapes.key_text computed key)) value) is ∙ ap (λ b. key_by false b value) known

pub key_unknown : (computed : Bool) (key : Syntax) (value : Action Value) → shapes.is_computed computed key ≡ false
    → is_some (shapes.key_text computed key) ≡ false → property_key computed key value ≡ no_meaning
key_unknown computed key value is unknown =
    ap (λ b. key_by b (is_some (shapes.key_text computed key)) value) is ∙ ap (λ b. key_by false b value) unknown

-- A key with a text is known before the run, and one without is not.
pub text_known : {X : Type 0} (found : Option X) (x : X) (text_of : X → List ℕ) (text : Option (List ℕ))
    → option_map text_of found ≡ text
    → found ≡ Some x → is_some text ≡ true
text_known found x text_of text shown is = sym (ap is_some shown) ∙ ap (λ o. is_some (option_map text_of o)) is

pub text_unknown : {X : Type 0} (found : Option X) (text_of : X → List ℕ) (text : Option (List ℕ))
    → option_map text_of found ≡ text
    → found ≡ None → is_some text ≡ false
text_unknown found text_of text shown is = sym (ap is_some shown) ∙ ap (λ o. is_some (option_map text_of o)) is
