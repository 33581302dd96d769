-- Pieces: what the parts of a value add to the listing of its event, a text, an operand, or both.
use Rattle.std.specs.Prelude.{ℕ, Option, Some, None, List, [], ◌∷◌, ◌++◌, map, codes}
use Rattle.rl_text.specs.Notation.{Tree, Parts}
use Rattle.rl_text.specs.Raw.{parts_of}
use Rattle.rl_hir.specs.Trees.{place as place_tree, property, said}
use Rattle.rl_hir.specs.Instructions.{binding_texts}
use Rattle.rl_hir.specs.declared.pieces.Row.{Row}
use Rattle.rl_hir.specs.declared.pieces.Row.TheVariants as rows
use Rattle.rl_hir.specs.declared.instruction.Place.{Place}
use Rattle.rl_hir.specs.declared.instruction.ArrayElement.{ArrayElement}
use Rattle.rl_hir.specs.declared.instruction.ArrayElement.TheVariants as elements
use Rattle.rl_hir.specs.declared.instruction.JsxAttribute.{JsxAttribute}
use Rattle.rl_hir.specs.declared.instruction.JsxAttribute.TheVariants as attributes
use Rattle.rl_hir.specs.declared.instruction.JsxTag.{JsxTag}
use Rattle.rl_hir.specs.declared.instruction.JsxTag.TheVariants as tags
use Rattle.rl_hir.specs.declared.instruction.NonLocalBinding.{NonLocalBinding}
use Rattle.rl_hir.specs.declared.instruction.ObjectPatternProperty.{ObjectPatternProperty}
use Rattle.rl_hir.specs.declared.instruction.ObjectPatternProperty.TheVariants as taken
use Rattle.rl_hir.specs.declared.instruction.ObjectProperty.{ObjectProperty}
use Rattle.rl_hir.specs.declared.instruction.ObjectProperty.TheVariants as properties
use Rattle.rl_hir.specs.declared.instruction.Pattern.{Pattern}
use Rattle.rl_hir.specs.declared.instruction.Pattern.TheVariants as patterns
use Rattle.rl_hir.specs.declared.instruction.PlaceOrSpread.{PlaceOrSpread}
use Rattle.rl_hir.specs.declared.instruction.PlaceOrSpread.TheVariants as arguments
use Rattle.rl_hir.specs.declared.instruction.PropertyLiteral.{PropertyLiteral}
use Rattle.rl_hir.specs.declared.instruction.TemplateLiteral.{TemplateLiteral}
use Rattle.rl_hir.specs.declared.instruction.TemplateQuasi.{TemplateQuasi}

-- An operand of an event.
pub data Operand : Type 0 where
  -- the value of a place
  Use : (place : Place) → Operand
  -- a fixed key
  Key : (key : PropertyLiteral) → Operand

pub data Piece : Type 0 where
  -- a text as it stands
  Says : (text : List ℕ) → Piece
  -- a name, as a text behind a dot
  Names : (name : List ℕ) → Piece
  -- a value, as the text `place` and an operand
  Gives : (place : Place) → Piece
  -- a value that is spread, as the text `spread` and an operand
  Spreads : (place : Place) → Piece
  -- an operand without a text
  Takes : (operand : Operand) → Piece

-- The value of a place, as an operand without a text.
abbrev pub used : Place → Piece
used place = Takes (Use place)

-- The texts of an event with these pieces.
abbrev pub texts : List Piece → List (List ℕ)
texts [] = []
texts (Says text ∷ pieces) = text ∷ texts pieces
texts (Names name ∷ pieces) = (46 ∷ name) ∷ texts pieces
texts (Gives place ∷ pieces) = codes "place" ∷ texts pieces
texts (Spreads place ∷ pieces) = codes "spread" ∷ texts pieces
texts (Takes operand ∷ pieces) = texts pieces

-- The operands of an event with these pieces.
abbrev pub operands : List Piece → List Operand
operands [] = []
operands (Says text ∷ pieces) = operands pieces
operands (Names name ∷ pieces) = operands pieces
operands (Gives place ∷ pieces) = Use place ∷ operands pieces
operands (Spreads place ∷ pieces) = Use place ∷ operands pieces
operands (Takes operand ∷ pieces) = operand ∷ operands pieces

-- A place, or the value of the key.
abbrev pub operand_tree : Operand → Tree
operand_tree (Use place) = place_tree place
operand_tree (Key key) = property key

-- The first row for the texts, the second for the operands.
abbrev pub either : Row → Parts → Parts → Parts
either rows.Texts first second = first
either rows.Operands first second = second

-- A row of the listing of an event with these pieces.
abbrev pub row_parts : Row → List Piece → Parts
row_parts row pieces = either row (parts_of (map said (texts pieces))) (parts_of (map operand_tree (operands pieces)))

-- The pieces of all items, one item behind the other.
abbrev pub gathered : {X : Type 0} → (X → List Piece) → List X → List Piece
gathered pieces [] = []
gathered pieces (item ∷ items) = pieces item ++ gathered pieces items

abbrev pub value_pieces : Place → List Piece
value_pieces place = Gives place ∷ []

abbrev pub binding_pieces : NonLocalBinding → List Piece
binding_pieces binding = map Says (binding_texts binding)

abbrev pub argument_pieces : PlaceOrSpread → List Piece
argument_pieces (arguments.Place place) = Gives place ∷ []
argument_pieces (arguments.Spread place) = Spreads place ∷ []

abbrev pub element_pieces : ArrayElement → List Piece
element_pieces (elements.Place place) = Gives place ∷ []
element_pieces (elements.Spread place) = Spreads place ∷ []
element_pieces elements.Hole = Says (codes "hole") ∷ []

abbrev pub property_pieces : ObjectProperty → List Piece
property_pieces (properties.Property key place) = Names key ∷ Gives place ∷ []
property_pieces (properties.Computed key place) = Gives key ∷ Gives place ∷ []
property_pieces (properties.Spread place) = Spreads place ∷ []

abbrev pub taken_pieces : ObjectPatternProperty → List Piece
taken_pieces (taken.Property key place) = Names key ∷ Gives place ∷ []
taken_pieces (taken.Spread place) = Spreads place ∷ []

-- The form of a pattern, and then its parts.
abbrev pub pattern_pieces : Pattern → List Piece
pattern_pieces (patterns.Array items) = Says (codes "array") ∷ gathered element_pieces items
pattern_pieces (patterns.Object properties) = Says (codes "object") ∷ gathered taken_pieces properties

-- The text that a quasi stands for; the empty text where it stands for none.
abbrev pub cooked_piece : Option (List ℕ) → Piece
cooked_piece None = Says []
cooked_piece (Some text) = Names text

abbrev pub quasi_pieces : TemplateQuasi → List Piece
quasi_pieces quasi = Says quasi.raw ∷ cooked_piece quasi.cooked ∷ []

-- The texts, and then the values.
abbrev pub template_pieces : TemplateLiteral → List Piece
template_pieces template = gathered quasi_pieces template.quasis ++ gathered value_pieces template.subexpressions

abbrev pub tag_pieces : JsxTag → List Piece
tag_pieces (tags.Place place) = Gives place ∷ []
tag_pieces (tags.Builtin name) = Names name ∷ []

abbrev pub attribute_pieces : JsxAttribute → List Piece
attribute_pieces (attributes.Attribute name place) = Names name ∷ Gives place ∷ []
attribute_pieces (attributes.SpreadAttribute place) = Spreads place ∷ []
