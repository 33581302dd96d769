-- The texts of JSX in a function of a unit: what a child and an attribute show.
use Rattle.std.specs.Prelude.{ℕ, Bool, false, ◌||◌, if◌then◌else◌, Option, Some, None, List, [], ◌∷◌, ◌++◌, codes}
use Rattle.std.specs.Str.{bytes_eq}
use Rattle.rl_jsx.specs.JsxTexts.{decode_jsx_entities, trim_jsx_text}
use Rattle.rl_names.specs.Functions.{body_in, params_in}
use Rattle.rl_model.specs.Code.{contains, is_function}
use Rattle.rl_syntax.specs.Syntax.{Syntax, Node, Listed, Said, Count, Pieces, End, Then}
use Rattle.rl_syntax.specs.declared.word.Word.TheVariants as word

-- The value that entities in a row give to a name: that of the first of the name.
abbrev pub value_among : Pieces → (name : List ℕ) → Option ℕ
value_among (Then (Node at word.Entity (Then (Said entity) (Then (Count value) End))) entities) name =
    if bytes_eq entity name then Some value else value_among entities name
value_among _ name = None

-- The value of an entity, by the table of the unit.
abbrev pub entity_of : (u : Syntax) → (name : List ℕ) → Option ℕ
entity_of (Node at word.Unit (Then (Listed entities) parts)) name = value_among entities name
entity_of u name = None

-- The elements whose texts keep their spaces.
abbrev pub is_fbt : (name : List ℕ) → Bool
is_fbt name = bytes_eq name (codes "fbt") || bytes_eq name (codes "fbs")

abbrev pub is_fbt_tag : Syntax → Bool
is_fbt_tag (Node at word.Tag (Then (Said name) End)) = is_fbt name
is_fbt_tag (Node at word.Id (Then (Said name) End)) = is_fbt name
is_fbt_tag _ = false

abbrev mutual
  -- The ids of the texts in a part that stand among the children of such an element, in the same function; `inside` is true among them.
  pub kept_texts : (inside : Bool) → Syntax → List ℕ
  kept_texts inside (Node at word.Text parts) = if inside then at.id.0 ∷ [] else []
  kept_texts inside (Node at word.Element (Then (Node there word.Opening (Then tag (Then attributes End))) (Then children closing))) =
      kept_texts inside attributes ++ kept_texts (inside || is_fbt_tag tag) children
  kept_texts inside (Node at w parts) = if is_function w then [] else kept_texts_among inside parts
  kept_texts inside (Listed parts) = kept_texts_among inside parts
  kept_texts inside _ = []

  pub kept_texts_among : (inside : Bool) → Pieces → List ℕ
  kept_texts_among inside End = []
  kept_texts_among inside (Then part parts) = kept_texts inside part ++ kept_texts_among inside parts

abbrev pub texts_kept_by : (function : Syntax) → List ℕ
texts_kept_by function = kept_texts false (params_in function) ++ kept_texts false (body_in function)

-- The text that an attribute gives: its entities are decoded.
abbrev pub attribute_text : (u : Syntax) → List ℕ → List ℕ
attribute_text u text = decode_jsx_entities (entity_of u) text

-- The text that a child gives, by its node: its entities are decoded, and then its lines are trimmed, unless it stands in an `fbt` or `fbs`
-- element. None where nothing is left.
abbrev pub child_text : (u function : Syntax) → (node : ℕ) → List ℕ → Option (List ℕ)
child_text u function node text =
    if contains (texts_kept_by function) node then Some (attribute_text u text) else trim_jsx_text (attribute_text u text)
