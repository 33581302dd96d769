-- The parts of values are read back from the texts and operands of their pieces.
use Rattle.std.proofs.Common.{◌≡◌, ℕ, ◌==◌, if◌then◌else◌, Option, Some, None, List, [], ◌∷◌, ◌++◌, codes, refl, ap, ◌∙◌}
use Rattle.std.specs.Str.{bytes_eq}
use Rattle.rl_text.specs.Notation.{Tree, Parts, End, Then}
use Rattle.rl_hir.proofs.ReadParts.{part, nth, later, text_of, choose, place_of, place-back, items_of}
use Rattle.rl_hir.specs.Pieces.{Piece, Says, Names, Gives, Spreads, texts, operands, row_parts, gathered, value_pieces, binding_pieces, argument_pieces, element_pieces, property_pieces, taken_pieces, pattern_pieces, quasi_pieces, cooked_piece, template_pieces, tag_pieces, attribute_pieces}
use Rattle.rl_hir.specs.Values.{row}
use Rattle.rl_hir.specs.declared.pieces.Row.TheVariants as rows
use Rattle.rl_hir.specs.declared.instruction.Place.{Place}
use Rattle.rl_hir.specs.declared.instruction.ArrayElement.{ArrayElement}
use Rattle.rl_hir.specs.declared.instruction.ArrayElement.TheVariants as elements
use Rattle.rl_hir.specs.declared.instruction.JsxAttribute.{JsxAttribute}
use Rattle.rl_hir.specs.declared.instruction.JsxAttribute.TheVariants as attributes
use Rattle.rl_hir.specs.declared.instruction.JsxExpression.{JsxExpression}
use Rattle.rl_hir.specs.declared.instruction.JsxTag.{JsxTag}
use Rattle.rl_hir.specs.declared.instruction.JsxTag.TheVariants as tags
use Rattle.rl_hir.specs.declared.instruction.NonLocalBinding.{NonLocalBinding}
use Rattle.rl_hir.specs.declared.instruction.NonLocalBinding.TheVariants as bindings
use Rattle.rl_hir.specs.declared.instruction.ObjectPatternProperty.{ObjectPatternProperty}
use Rattle.rl_hir.specs.declared.instruction.ObjectPatternProperty.TheVariants as taken
use Rattle.rl_hir.specs.declared.instruction.ObjectProperty.{ObjectProperty}
use Rattle.rl_hir.specs.declared.instruction.ObjectProperty.TheVariants as properties
use Rattle.rl_hir.specs.declared.instruction.Pattern.{Pattern}
use Rattle.rl_hir.specs.declared.instruction.Pattern.TheVariants as patterns
use Rattle.rl_hir.specs.declared.instruction.PlaceOrSpread.{PlaceOrSpread}
use Rattle.rl_hir.specs.declared.instruction.PlaceOrSpread.TheVariants as arguments
use Rattle.rl_hir.specs.declared.instruction.TemplateLiteral.{TemplateLiteral}
use Rattle.rl_hir.specs.declared.instruction.TemplateQuasi.{TemplateQuasi}

-- The piece of a text that has no operand.
abbrev plain_piece : List ℕ → Piece
plain_piece [] = Says []
plain_piece (byte ∷ name) = if byte == 46 then Names name else Says (byte ∷ name)

-- The pieces with these texts and operands, where each text with a place is `place` or `spread`.
pub shape_of : (texts operands : Parts) → List Piece
shape_of End operands = []
shape_of (Then text texts) operands =
    if bytes_eq (text_of text) (codes "place") then Gives (place_of (nth operands 0)) ∷ shape_of texts (later operands)
    else if bytes_eq (text_of text) (codes "spread") then Spreads (place_of (nth operands 0)) ∷ shape_of texts (later operands)
    else plain_piece (text_of text) ∷ shape_of texts operands

-- The pieces that are read from the texts and operands of pieces.
abbrev pub read_pieces : List Piece → List Piece
read_pieces pieces = shape_of (row_parts rows.Texts pieces) (row_parts rows.Operands pieces)

pub arguments_of : List Piece → List PlaceOrSpread
arguments_of (Gives place ∷ pieces) = arguments.Place place ∷ arguments_of pieces
arguments_of (Spreads place ∷ pieces) = arguments.Spread place ∷ arguments_of pieces
arguments_of _ = []

pub arguments-back : (xs : List PlaceOrSpread) → arguments_of (read_pieces (gathered argument_pieces xs)) ≡ xs
unfolding arguments_of shape_of text_of
arguments-back [] = refl
arguments-back (arguments.Place place ∷ xs) = λ i. arguments.Place (place-back place i) ∷ arguments-back xs i
arguments-back (arguments.Spread place ∷ xs) = λ i. arguments.Spread (place-back place i) ∷ arguments-back xs i

pub elements_of : List Piece → List ArrayElement
elements_of (Gives place ∷ pieces) = elements.Place place ∷ elements_of pieces
elements_of (Spreads place ∷ pieces) = elements.Spread place ∷ elements_of pieces
elements_of (_ ∷ pieces) = elements.Hole ∷ elements_of pieces
elements_of [] = []

pub elements-back : (xs : List ArrayElement) → elements_of (read_pieces (gathered element_pieces xs)) ≡ xs
unfolding elements_of shape_of text_of
elements-back [] = refl
elements-back (elements.Place place ∷ xs) = λ i. elements.Place (place-back place i) ∷ elements-back xs i
elements-back (elements.Spread place ∷ xs) = λ i. elements.Spread (place-back place i) ∷ elements-back xs i
elements-back (elements.Hole ∷ xs) = λ i. elements.Hole ∷ elements-back xs i

pub properties_of : List Piece → List ObjectProperty
properties_of (Names key ∷ Gives place ∷ pieces) = properties.Property key place ∷ properties_of pieces
properties_of (Gives key ∷ Gives place ∷ pieces) = properties.Computed key place ∷ properties_of pieces
properties_of (Spreads place ∷ pieces) = properties.Spread place ∷ properties_of pieces
properties_of _ = []

pub properties-back : (xs : List ObjectProperty) → properties_of (read_pieces (gathered property_pieces xs)) ≡ xs
unfolding properties_of shape_of text_of
properties-back [] = refl
properties-back (properties.Property key place ∷ xs) = λ i. properties.Property key (place-back place i) ∷ properties-back xs i
properties-back (properties.Computed key place ∷ xs) = λ i. properties.Computed (place-back key i) (place-back place i) ∷ properties-back xs i
properties-back (properties.Spread place ∷ xs) = λ i. properties.Spread (place-back place i) ∷ properties-back xs i

pub taken_of : List Piece → List ObjectPatternProperty
taken_of (Names key ∷ Gives place ∷ pieces) = taken.Property key place ∷ taken_of pieces
taken_of (Spreads place ∷ pieces) = taken.Spread place ∷ taken_of pieces
taken_of _ = []

pub taken-back : (xs : List ObjectPatternProperty) → taken_of (read_pieces (gathered taken_pieces xs)) ≡ xs
unfolding taken_of shape_of text_of
taken-back [] = refl
taken-back (taken.Property key place ∷ xs) = λ i. taken.Property key (place-back place i) ∷ taken-back xs i
taken-back (taken.Spread place ∷ xs) = λ i. taken.Spread (place-back place i) ∷ taken-back xs i

pub pattern_of : (texts operands : Parts) → Pattern
pattern_of texts operands =
    if bytes_eq (text_of (nth texts 0)) (codes "array") then patterns.Array (elements_of (shape_of (later texts) operands)) else patterns.Object (taken_of (shape_of (later texts) operands))

pub pattern-back : (p : Pattern) → pattern_of (row_parts rows.Texts (pattern_pieces p)) (row_parts rows.Operands (pattern_pieces p)) ≡ p
unfolding pattern_of text_of
pattern-back (patterns.Array items) = λ i. patterns.Array (elements-back items i)
pattern-back (patterns.Object properties) = λ i. patterns.Object (taken-back properties i)

pub children_of : List Piece → List Place
children_of (Gives place ∷ pieces) = place ∷ children_of pieces
children_of (Names name ∷ Gives place ∷ pieces) = children_of pieces
children_of (Spreads place ∷ pieces) = children_of pieces
children_of _ = []

pub values-back : (xs : List Place) → children_of (read_pieces (gathered value_pieces xs)) ≡ xs
unfolding children_of shape_of text_of
values-back [] = refl
values-back (place ∷ xs) = λ i. place-back place i ∷ values-back xs i

pub children-back : (props : List JsxAttribute) (children : List Place) → children_of (read_pieces (gathered attribute_pieces props ++ gathered value_pieces children)) ≡ children
unfolding children_of shape_of text_of
children-back [] children = values-back children
children-back (attributes.Attribute name place ∷ props) children = children-back props children
children-back (attributes.SpreadAttribute place ∷ props) children = children-back props children

pub attributes_of : List Piece → List JsxAttribute
attributes_of (Names name ∷ Gives place ∷ pieces) = attributes.Attribute name place ∷ attributes_of pieces
attributes_of (Spreads place ∷ pieces) = attributes.SpreadAttribute place ∷ attributes_of pieces
attributes_of _ = []

pub attributes-back : (props : List JsxAttribute) (children : List Place) → attributes_of (read_pieces (gathered attribute_pieces props ++ gathered value_pieces children)) ≡ props
unfolding attributes_of shape_of text_of
attributes-back [] [] = refl
attributes-back [] (child ∷ children) = refl
attributes-back (attributes.Attribute name place ∷ props) children = λ i. attributes.Attribute name (place-back place i) ∷ attributes-back props children i
attributes-back (attributes.SpreadAttribute place ∷ props) children = λ i. attributes.SpreadAttribute (place-back place i) ∷ attributes-back props children i

pub jsx_of : List Piece → JsxExpression
jsx_of (Gives place ∷ pieces) = record { tag = tags.Place place; props = attributes_of pieces; children = children_of pieces }
jsx_of (Names name ∷ pieces) = record { tag = tags.Builtin name; props = attributes_of pieces; children = children_of pieces }
jsx_of _ = record { tag = tags.Builtin []; props = []; children = [] }

pub jsx-back : (tag : JsxTag) (props : List JsxAttribute) (children : List Place)
    → jsx_of (read_pieces (tag_pieces tag ++ (gathered attribute_pieces props ++ gathered value_pieces children))) ≡ record { tag = tag; props = props; children = children }
unfolding jsx_of shape_of text_of
jsx-back (tags.Place place) props children = λ i. record { tag = tags.Place (place-back place i); props = attributes-back props children i; children = children-back props children i }
jsx-back (tags.Builtin name) props children = λ i. record { tag = tags.Builtin name; props = attributes-back props children i; children = children-back props children i }

-- The quasis up to the first text that cannot be a cooked one.
abbrev quasis_from : (raw cooked : List ℕ) → List TemplateQuasi → List TemplateQuasi
quasis_from raw [] rest = record { raw = raw; cooked = None } ∷ rest
quasis_from raw (byte ∷ text) rest = if byte == 46 then record { raw = raw; cooked = Some text } ∷ rest else []

pub quasis_of : Parts → List TemplateQuasi
quasis_of (Then raw (Then cooked rest)) = quasis_from (text_of raw) (text_of cooked) (quasis_of rest)
quasis_of _ = []

abbrev texts_parts : List Piece → Parts
texts_parts pieces = row_parts rows.Texts pieces

abbrev operands_parts : List Piece → Parts
operands_parts pieces = row_parts rows.Operands pieces

quasi-texts : (raw : List ℕ) (cooked : Option (List ℕ)) (pieces : List Piece) → quasis_of (texts_parts (Says raw ∷ cooked_piece cooked ∷ pieces)) ≡ record { raw = raw; cooked = cooked } ∷ quasis_of (texts_parts pieces)
unfolding quasis_of text_of
quasi-texts raw None pieces = refl
quasi-texts raw (Some text) pieces = refl

quasi-operands : (raw : List ℕ) (cooked : Option (List ℕ)) (pieces : List Piece) → operands_parts (Says raw ∷ cooked_piece cooked ∷ pieces) ≡ operands_parts pieces
quasi-operands raw None pieces = refl
quasi-operands raw (Some text) pieces = refl

quasis-back : (quasis : List TemplateQuasi) (values : List Place) → quasis_of (texts_parts (gathered quasi_pieces quasis ++ gathered value_pieces values)) ≡ quasis
unfolding quasis_of text_of
quasis-back [] [] = refl
quasis-back [] (value ∷ []) = refl
quasis-back [] (value ∷ other ∷ values) = refl
quasis-back (quasi ∷ quasis) values = quasi-texts quasi.raw quasi.cooked (gathered quasi_pieces quasis ++ gathered value_pieces values) ∙ ap (λ rest. quasi ∷ rest) (quasis-back quasis values)

subexpressions-back : (quasis : List TemplateQuasi) (values : List Place) → items_of place_of (operands_parts (gathered quasi_pieces quasis ++ gathered value_pieces values)) ≡ values
subexpressions-back [] [] = refl
subexpressions-back [] (value ∷ values) = λ i. place-back value i ∷ subexpressions-back [] values i
subexpressions-back (quasi ∷ quasis) values =
    ap (items_of place_of) (quasi-operands quasi.raw quasi.cooked (gathered quasi_pieces quasis ++ gathered value_pieces values)) ∙ subexpressions-back quasis values

pub template_of : (texts operands : Parts) → TemplateLiteral
template_of texts operands = record { quasis = quasis_of texts; subexpressions = items_of place_of operands }

pub template-back : (t : TemplateLiteral) → template_of (texts_parts (template_pieces t)) (operands_parts (template_pieces t)) ≡ t
unfolding template_of
template-back t = λ i. record { quasis = quasis-back t.quasis t.subexpressions i; subexpressions = subexpressions-back t.quasis t.subexpressions i }

binding_readers : List (List ℕ × (Tree → NonLocalBinding))
binding_readers =
    (codes "module", λ tree. bindings.ModuleLocal (text_of (part 0 tree)))
    ∷ (codes "default", λ tree. bindings.ImportDefault (text_of (part 0 tree)) (text_of (part 2 tree)))
    ∷ (codes "namespace", λ tree. bindings.ImportNamespace (text_of (part 0 tree)) (text_of (part 2 tree)))
    ∷ (codes "named", λ tree. bindings.ImportSpecifier (text_of (part 0 tree)) (record { «module» = text_of (part 2 tree); imported = text_of (part 3 tree) }))
    ∷ []

pub binding_of : Tree → NonLocalBinding
binding_of tree = choose (text_of (part 1 tree)) binding_readers (λ tree. bindings.Global (text_of (part 0 tree))) tree

pub binding-back : (b : NonLocalBinding) → binding_of (row rows.Texts (binding_pieces b)) ≡ b
unfolding binding_of binding_readers text_of
binding-back (bindings.Global name) = refl
binding-back (bindings.ModuleLocal name) = refl
binding-back (bindings.ImportDefault name source) = refl
binding-back (bindings.ImportNamespace name source) = refl
binding-back (bindings.ImportSpecifier name export) = refl
