-- Elements and fragments of JSX are nodes of their words.
use Rattle.std.proofs.Common.{◌≡◌, codes, true, [], ◌∷◌, refl, sym, subst, ◌∙◌}
use Rattle.rl_grammar.specs.Grammar.{fits}
use Rattle.rl_grammar.specs.declared.kind.Field.TheVariants as field
use Rattle.rl_grammar.specs.declared.kind.Kind.TheVariants as kind
use Rattle.rl_machine.specs.declared.trace.Value.{Value}
use Rattle.rl_model.specs.Actions.{Action}
use Rattle.rl_model.specs.Expressions.{eval, one_value, values_of}
use Rattle.rl_model.specs.Scene.{Scene}
use Rattle.rl_model.specs.Shapes.{child_shape}
use Rattle.rl_source_gather.specs.Items.{IsContained, item_shape, item_values, value_values}
use Rattle.rl_source_gather.specs.declared.jsx_item.Item.{Item}
use Rattle.rl_source_gather.specs.declared.jsx_item.Item.TheVariants as items
use Rattle.rl_source_gather.proofs.Forms.{none_fits}
use Rattle.rl_syntax.specs.Syntax.{Syntax, Node, Said, Absent, Pieces, End, Then}
use Rattle.rl_syntax.specs.declared.numbered.At.{At}
use Rattle.rl_syntax.specs.declared.word.Word.{Word}
use Rattle.rl_syntax.specs.declared.word.Word.TheVariants as word

-- A node of a word.
pub record IsNode (w : Word) (t : Syntax) : Type 0 where
  pub at : At
  pub parts : Pieces
  pub is : t ≡ Node at w parts

pub element_node : (t : Syntax) → fits (field.One kind.JsxElement) t ≡ true → IsNode word.Element t
element_node (Node at word.Element ps) fit = record { at = at; parts = ps; is = refl }
element_node (Node at _ ps) fit = absurd (none_fits ps fit)
element_node _ fit = absurd (cc)

pub fragment_node : (t : Syntax) → fits (field.One kind.JsxFragment) t ≡ true → IsNode word.Fragment t
fragment_node (Node at word.Fragment ps) fit = record { at = at; parts = ps; is = refl }
fragment_node (Node at _ ps) fit = absurd (none_fits ps fit)
fragment_node _ fit = absurd (cc)

-- An element gives its value, as the value of an attribute and as a child.
pub element_value : (scene : Scene) (t : Syntax) → fits (field.One kind.JsxElement) t ≡ true
    → value_values scene t ≡ one_value (eval scene t)
element_value scene t fit = let q = element_node t fit in
    subst (λ s. value_values scene s ≡ one_value (eval scene s)) (sym q.is) refl

pub fragment_value : (scene : Scene) (t : Syntax) → fits (field.One kind.JsxFragment) t ≡ true
    → value_values scene t ≡ one_value (eval scene t)
fragment_value scene t fit = let q = fragment_node t fit in
    subst (λ s. value_values scene s ≡ one_value (eval scene s)) (sym q.is) refl

pub element_child : (scene : Scene) (t : Syntax) → fits (field.One kind.JsxElement) t ≡ true
    → values_of scene t (eval scene t) ≡ one_value (eval scene t)
element_child scene t fit = let q = element_node t fit in
    subst (λ s. values_of scene s (eval scene s) ≡ one_value (eval scene s)) (sym q.is) refl

pub fragment_child : (scene : Scene) (t : Syntax) → fits (field.One kind.JsxFragment) t ≡ true
    → values_of scene t (eval scene t) ≡ one_value (eval scene t)
fragment_child scene t fit = let q = fragment_node t fit in
    subst (λ s. values_of scene s (eval scene s) ≡ one_value (eval scene s)) (sym q.is) refl

pub element_place : (scene : Scene) (t : Syntax) → fits (field.One kind.JsxElement) t ≡ true
    → child_shape scene t ≡ codes "place" ∷ []
element_place scene t fit = let q = element_node t fit in
    subst (λ s. child_shape scene s ≡ codes "place" ∷ []) (sym q.is) refl

pub fragment_place : (scene : Scene) (t : Syntax) → fits (field.One kind.JsxFragment) t ≡ true
    → child_shape scene t ≡ codes "place" ∷ []
fragment_place scene t fit = let q = fragment_node t fit in
    subst (λ s. child_shape scene s ≡ codes "place" ∷ []) (sym q.is) refl

-- The values of an attribute are those of its value.
pub attribute_values : (scene : Scene) (at : At) (name t : Syntax) (plain : Action Value)
    → fits (field.One kind.JsxAttributeValue) t ≡ true
    → values_of scene (Node at word.Attr (Then name (Then t End))) plain ≡ value_values scene t
attribute_values scene at name (Node there word.Str (Then (Said text) End)) plain fit = refl
attribute_values scene at name (Node there word.Container (Then Absent End)) plain fit = refl
attribute_values scene at name (Node there word.Container (Then expression End)) plain fit = refl
attribute_values scene at name Absent plain fit = absurd (cc)
attribute_values scene at name _ plain fit = refl

-- A container with an expression gives its value.
filled_value : (scene : Scene) (at : At) (e : Syntax) → fits (field.One kind.Expression) e ≡ true
    → value_values scene (Node at word.Container (Then e End)) ≡ one_value (eval scene e)
filled_value scene at Absent fit = absurd (cc)
filled_value scene at _ fit = refl

filled_child : (scene : Scene) (at : At) (e : Syntax) (plain : Action Value) → fits (field.One kind.Expression) e ≡ true
    → values_of scene (Node at word.Container (Then e End)) plain ≡ one_value (eval scene e)
filled_child scene at Absent plain fit = absurd (cc)
filled_child scene at _ plain fit = refl

filled_place : (scene : Scene) (at : At) (e : Syntax) → fits (field.One kind.Expression) e ≡ true
    → child_shape scene (Node at word.Container (Then e End)) ≡ codes "place" ∷ []
filled_place scene at Absent fit = absurd (cc)
filled_place scene at _ fit = refl

pub filled : (scene : Scene) (at : At) (e : Syntax) (item : Item) → fits (field.One kind.Expression) e ≡ true
    → one_value (eval scene e) ≡ item_values scene item → codes "place" ∷ [] ≡ item_shape item
    → IsContained scene at e item
filled scene at e item fit gives placed = record {
  value = filled_value scene at e fit ∙ gives;
  child = record {
    values = filled_child scene at e (eval scene (Node at word.Container (Then e End))) fit ∙ gives;
    shape = filled_place scene at e fit ∙ placed;
  };
}

-- A container without an expression gives nothing.
pub emptied : (scene : Scene) (at : At) → IsContained scene at Absent items.Nothing
emptied scene at = record { value = refl; child = record { values = refl; shape = refl } }
