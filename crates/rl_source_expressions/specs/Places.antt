-- Targets by what they are: names, properties and patterns.
use Rattle.std.specs.Prelude.{◌≡◌, Bool, true, false}
use Rattle.rl_ast.specs.BindingViews.{seen_identifier_reference}
use Rattle.rl_source_expressions.specs.declared.assignment.Place.{Place}
use Rattle.rl_source_expressions.specs.declared.assignment.Place.TheVariants as places
use Rattle.rl_source_stack.specs.declared.property.Property.{Property}
use Rattle.rl_source_stack.specs.declared.property.Property.TheVariants as property
use Rattle.rl_syntax.specs.Syntax.{Syntax, Node, Said, Flag, End, Then, syntax}
use Rattle.rl_syntax.specs.declared.numbered.At.{At}
use Rattle.rl_syntax.specs.declared.word.Word.TheVariants as word

-- The property of an object.
abbrev pub property_syntax : At → (optional : Bool) → (object : Syntax) → Property → Syntax
property_syntax at optional object (property.Named name) =
    Node at word.Member (Then (Flag optional) (Then object (Then (Said name.now) End)))
property_syntax at optional object (property.Computed key) =
    Node at word.Index (Then (Flag optional) (Then object (Then (syntax key.tree.now) End)))

abbrev pub is_private : Syntax → Bool
is_private (Node at word.Privatemember parts) = true
is_private _ = false

-- True of a target that is no name and no property.
abbrev pub is_pattern : Syntax → Bool
is_pattern (Node at word.Id parts) = false
is_pattern (Node at word.Member parts) = false
is_pattern (Node at word.Index parts) = false
is_pattern (Node at word.Privatemember parts) = false
is_pattern _ = true

abbrev pub IsPlace : Place → Syntax → Type 0
IsPlace (places.Name name) t = seen_identifier_reference name ≡ t
IsPlace (places.Property at optional object key) t = property_syntax at optional (syntax object.tree.now) key ≡ t
IsPlace places.Private t = is_private t ≡ true
IsPlace places.Pattern t = is_pattern t ≡ true
