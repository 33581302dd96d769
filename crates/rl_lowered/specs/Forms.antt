-- The table of kinds whose value is one instruction over the values of their parts, from left to right, and that of literals.
use Rattle.std.specs.Prelude.{◌≡◌, ℕ, Bool, true, false, List, [], ◌∷◌, Option, Some, None, codes}
use Rattle.std.specs.Str.{bytes_eq}
use Rattle.rl_base.specs.Operators.{assignment_text, operator_text, unary_text}
use Rattle.rl_base.specs.declared.operator.AssignmentOperator.{AssignmentOperator}
use Rattle.rl_base.specs.declared.operator.AssignmentOperator.TheVariants as assignments
use Rattle.rl_base.specs.declared.operator.BinaryOperator.{BinaryOperator}
use Rattle.rl_base.specs.declared.operator.BinaryOperator.TheVariants as binaries
use Rattle.rl_base.specs.declared.operator.UnaryOperator.{UnaryOperator}
use Rattle.rl_base.specs.declared.row.Row.{Row}
use Rattle.rl_base.specs.declared.row.Row.TheVariants as row
use Rattle.rl_base.specs.declared.type_kind.TypeKind.{TypeKind}
use Rattle.rl_base.specs.declared.type_kind.TypeKind.TheVariants as types
use Rattle.rl_builder.specs.Builder.{State, with_type}
use Rattle.rl_grammar.specs.Grammar.{fits}
use Rattle.rl_grammar.specs.declared.kind.Field.TheVariants as field
use Rattle.rl_grammar.specs.declared.kind.Kind.TheVariants as sort
use Rattle.rl_hir.specs.Pieces.{Piece, Use, Gives, Names as Named, Spreads, Takes, argument_pieces, element_pieces, gathered, value_pieces}
use Rattle.rl_hir.specs.declared.instruction.ArrayElement.{ArrayElement}
use Rattle.rl_hir.specs.declared.instruction.HirType.{HirType}
use Rattle.rl_hir.specs.declared.instruction.HirType.TheVariants as casts
use Rattle.rl_hir.specs.declared.instruction.InstructionValue.{InstructionValue}
use Rattle.rl_hir.specs.declared.instruction.InstructionValue.TheVariants as values
use Rattle.rl_hir.specs.declared.instruction.NonLocalBinding.{NonLocalBinding}
use Rattle.rl_hir.specs.declared.instruction.Place.{Place}
use Rattle.rl_hir.specs.declared.instruction.PlaceOrSpread.{PlaceOrSpread}
use Rattle.rl_hir.specs.declared.instruction.PrimitiveValue.{PrimitiveValue}
use Rattle.rl_hir.specs.declared.instruction.PrimitiveValue.TheVariants as primitives
use Rattle.rl_hir.specs.declared.instruction.PropertyLiteral.{PropertyLiteral}
use Rattle.rl_hir.specs.declared.instruction.PropertyLiteral.TheVariants as keys
use Rattle.rl_hir.specs.declared.instruction.TemplateQuasi.{TemplateQuasi}
use Rattle.rl_model.specs.Shapes.{are_raw, is_absent, is_hole, is_logical, piece_shape}
use Rattle.rl_names.specs.Names.{Names}
use Rattle.rl_names.specs.declared.names.Meaning.TheVariants.{Outer}
use Rattle.rl_promises.specs.Outs.{is_lost_delete, is_wrapped}
use Rattle.rl_promises.specs.Patterns.{is_pattern, key_name}
use Rattle.rl_promises.specs.Rows.{row_of_update}
use Rattle.rl_promises.specs.Tallies.{call_word}
use Rattle.rl_syntax.specs.declared.numbered.At.{At}
use Rattle.rl_syntax.specs.declared.word.Word.{Word}
use Rattle.rl_syntax.specs.declared.word.Word.TheVariants as word
use Rattle.rl_syntax.specs.Syntax.{Syntax, Node, Listed, Said, Flag, Absent, Pieces, End, Then}
use Rattle.rl_text.specs.Numeral.{is_numeral, number_of}

-- A literal, and its value.
pub data IsLiteral : Word → Pieces → PrimitiveValue → Type 0 where
  Null : IsLiteral word.Null End primitives.Null
  Boolean : {flag : Bool} → IsLiteral word.Bool (Then (Flag flag) End) (primitives.Boolean flag)
  String : {text : List ℕ} → IsLiteral word.Str (Then (Said text) End) (primitives.String text)
  Number : {text : List ℕ} → is_numeral text ≡ true → IsLiteral word.Num (Then (Said text) End) (primitives.Number (number_of text))

-- The tree is a type, or there is none.
abbrev pub IsAnnotation : Syntax → Type 0
IsAnnotation type = fits (field.Maybe sort.TypeAnnotation) type ≡ true

-- A node that has the value of the expression in it: its word and fields, and the expression.
pub data IsWrapper : Word → Pieces → Syntax → Type 0 where
  Parenthesized : {e : Syntax} → IsWrapper word.Paren (Then e End) e
  NonNull : {e : Syntax} → IsWrapper word.Nonnull (Then e End) e
  Instantiated : {e types : Syntax} → fits (field.Many sort.IdentifierReference) types ≡ true
      → IsWrapper word.Instantiate (Then e (Then types End)) e

-- A node that has the value of the expression in it under a type: its word and fields, the expression, and the type.
pub data IsCast : Word → Pieces → Syntax → (type : Syntax) → Type 0 where
  As : {e type : Syntax} → IsCast word.As (Then e (Then type End)) e type
  Satisfies : {e type : Syntax} → IsCast word.Satisfies (Then e (Then type End)) e type
  Assert : {e type : Syntax} → IsCast word.Assert (Then type (Then e End)) e type

-- The state behind the type of a cast, which is a type variable of its own if it is neither primitive nor an array.
abbrev pub typed : State → TypeKind → State
typed s types.Array = s
typed s types.Primitive = s
typed s types.Other = with_type s

-- The type of a cast.
abbrev pub type_of : State → TypeKind → HirType
type_of s types.Array = casts.Array
type_of s types.Primitive = casts.Primitive
type_of s types.Other = casts.Var (record { 0 = s.env.next_type })

-- The key of a property: a fixed one, or the place of a computed one.
pub data MemberKey : Type 0 where
  Fixed : PropertyLiteral → MemberKey
  Computed : Place → MemberKey

-- True of a key in brackets that is a numeral: the property is known before.
abbrev pub is_number_key : Syntax → Bool
is_number_key (Node at word.Num (Then (Said text) End)) = is_numeral text
is_number_key _ = false

-- True of a property by its name or its key, which lends its object to a call.
abbrev pub is_property : Syntax → Bool
is_property (Node at word.Member parts) = true
is_property (Node at word.Index parts) = true
is_property _ = false

-- A property that is loaded, updated, deleted or called: its word and fields, the parts that are lowered, the pieces that these give, the
-- place of the object, and the key.
pub data IsMember : Word → (fields parts : Pieces) → List Piece → (object : Place) → MemberKey → Type 0 where
  Static : {object : Syntax} {key : List ℕ} {p : Place}
      → IsMember word.Member (Then (Flag false) (Then object (Then (Said key) End))) (Then object End) (Gives p ∷ []) p
      (Fixed (keys.String key))
  Indexed : {object property : Syntax} {p q : Place} → is_number_key property ≡ false
      → IsMember word.Index (Then (Flag false) (Then object (Then property End))) (Then object (Then property End))
      (Gives p ∷ Gives q ∷ []) p (Computed q)
  Numbered : {object : Syntax} {there : At} {text : List ℕ} {p : Place} → is_numeral text ≡ true
      → IsMember word.Index (Then (Flag false) (Then object (Then (Node there word.Num (Then (Said text) End)) End))) (Then object End)
      (Gives p ∷ []) p (Fixed (keys.Number (number_of text)))

-- The key of a link of a chain: the link's word, the parts behind its object, those of them that are lowered, the pieces that these give,
-- and the key.
pub data IsLinkKey : Word → (rest parts : Pieces) → List Piece → MemberKey → Type 0 where
  LinkStatic : {key : List ℕ} → IsLinkKey word.Member (Then (Said key) End) End [] (Fixed (keys.String key))
  LinkIndexed : {property : Syntax} {q : Place} → is_number_key property ≡ false
      → IsLinkKey word.Index (Then property End) (Then property End) (Gives q ∷ []) (Computed q)
  LinkNumbered : {there : At} {text : List ℕ} → is_numeral text ≡ true
      → IsLinkKey word.Index (Then (Node there word.Num (Then (Said text) End)) End) End [] (Fixed (keys.Number (number_of text)))

-- The object of a link of a chain, or its callee: a value, or a function behind the receiver of its call.
pub data Front : Type 0 where
  Alone : Place → Front
  Lent : (receiver function : Place) → Front

-- The place that the link tests.
abbrev pub tested_front : Front → Place
tested_front (Alone p) = p
tested_front (Lent receiver function) = function

-- The places.
abbrev pub front_places : Front → List Place
front_places (Alone p) = p ∷ []
front_places (Lent receiver function) = receiver ∷ function ∷ []

-- A link hands on its value to the link around it: as a function with its object as the receiver, if it lends that.
abbrev pub handed_on : (lends : Bool) → Front → (value : Place) → Front
handed_on true front p = Lent (tested_front front) p
handed_on false front p = Alone p

-- The value of a call behind its callee.
abbrev pub call_of : Front → (arguments : List PlaceOrSpread) → InstructionValue
call_of (Alone callee) arguments = values.CallExpression callee arguments
call_of (Lent receiver function) arguments =
    values.MethodCall (record { receiver = receiver; property = function; arguments = arguments })

abbrev pub load_of : (object : Place) → MemberKey → InstructionValue
load_of object (Fixed key) = values.PropertyLoad object key
load_of object (Computed key) = values.ComputedLoad object key

abbrev pub store_of : (object : Place) → MemberKey → (value : Place) → InstructionValue
store_of object (Fixed key) value = values.PropertyStore object key value
store_of object (Computed key) value = values.ComputedStore (record { object = object; property = key; value = value })

abbrev pub delete_of : (object : Place) → MemberKey → InstructionValue
delete_of object (Fixed key) = values.PropertyDelete object key
delete_of object (Computed key) = values.ComputedDelete object key

-- The operator that a compound assignment applies. None of `=` and of the logical assignments.
abbrev pub applied_by : AssignmentOperator → Option BinaryOperator
applied_by assignments.Addition = Some binaries.Addition
applied_by assignments.Subtraction = Some binaries.Subtraction
applied_by assignments.Multiplication = Some binaries.Multiplication
applied_by assignments.Division = Some binaries.Division
applied_by assignments.Remainder = Some binaries.Remainder
applied_by assignments.Exponential = Some binaries.Exponential
applied_by assignments.ShiftLeft = Some binaries.ShiftLeft
applied_by assignments.ShiftRight = Some binaries.ShiftRight
applied_by assignments.ShiftRightZeroFill = Some binaries.ShiftRightZeroFill
applied_by assignments.BitwiseOR = Some binaries.BitwiseOR
applied_by assignments.BitwiseXOR = Some binaries.BitwiseXOR
applied_by assignments.BitwiseAnd = Some binaries.BitwiseAnd
applied_by _ = None

-- The second expression is the first one without its parentheses.
pub data IsInside : Syntax → Syntax → Type 0 where
  Bare : {e : Syntax} → IsInside e e
  Around : {at : At} {e inner : Syntax} → IsInside e inner → IsInside (Node at word.Paren (Then e End)) inner

-- A kind that is refused without its parts: its word and fields, and the row.
pub data IsRefused (names : Names) : Word → Pieces → Row → Type 0 where
  Fraction : {text : List ℕ} → is_numeral text ≡ false → IsRefused names word.Num (Then (Said text) End) row.F43
  BigInt : {text : List ℕ} → IsRefused names word.Bigint (Then (Said text) End) row.F42
  NewTarget : IsRefused names word.Newtarget End row.F15
  Super : IsRefused names word.Super End row.F17
  This : IsRefused names word.This End row.F18
  Yield : {fields : Pieces} → IsRefused names word.Yield fields row.F14
  Cooked : {there : At} {tag : Syntax} {quasis expressions : Pieces} → are_raw quasis ≡ false
      → IsRefused names word.Tagged
      (Then tag (Then (Node there word.Template (Then (Listed quasis) (Then (Listed expressions) End))) End)) row.F13
  LostDelete : (operator : UnaryOperator) {e : Syntax} → is_lost_delete (unary_text operator) e ≡ true
      → IsRefused names word.Unary (Then (Said (unary_text operator)) (Then e End)) row.F12
  WrappedUpdate : {operator prefix target : Syntax} → is_wrapped target ≡ true
      → IsRefused names word.Update (Then operator (Then prefix (Then target End))) row.F22
  OuterUpdate : {operator prefix : Syntax} {there : At} {name : List ℕ} {b : NonLocalBinding}
      → names.meaning there.reference.0 name ≡ Outer b
      → IsRefused names word.Update (Then operator (Then prefix (Then (Node there word.Id (Then (Said name) End)) End))) (row_of_update b)
  LogicalAssignment : {operator : List ℕ} {target right : Syntax} → is_logical operator ≡ true
      → IsRefused names word.Assign (Then (Said operator) (Then target (Then right End))) row.F23
  PatternAssignment : (operator : AssignmentOperator) {applied : BinaryOperator} {target right : Syntax}
      → applied_by operator ≡ Some applied → is_pattern target ≡ true
      → IsRefused names word.Assign (Then (Said (assignment_text operator)) (Then target (Then right End))) row.F24

-- A kind that is refused before its parts are lowered: its word and fields, the parts, and the row.
pub data IsRefusing : Word → (fields parts : Pieces) → Row → Type 0 where
  PrivateIn : {name : List ℕ} {right : Syntax} → IsRefusing word.Privatein (Then (Said name) (Then right End)) (Then right End) row.F5
  ImportCall : {source : Syntax} → IsRefusing word.Importcall (Then source (Then Absent End)) (Then source End) row.F4
  ImportCallWith : {source options : Syntax}
      → IsRefusing word.Importcall (Then source (Then options End)) (Then source (Then options End)) row.F4

-- A node with a property of a private name in it, which is lowered in its place, since that is refused (row F3): its word and fields, and
-- the expression that is lowered.
pub data IsPrivate : Word → Pieces → Syntax → Type 0 where
  PrivateUpdate : {operator prefix : Syntax} {there : At} {parts : Pieces}
      → IsPrivate word.Update (Then operator (Then prefix (Then (Node there word.Privatemember parts) End)))
      (Node there word.Privatemember parts)
  PrivateDelete : (operator : UnaryOperator) {e : Syntax} {there : At} {parts : Pieces} → bytes_eq (unary_text operator)
      (codes "delete") ≡ true
      → IsInside e (Node there word.Privatemember parts)
      → IsPrivate word.Unary (Then (Said (unary_text operator)) (Then e End)) (Node there word.Privatemember parts)

-- An item of a pattern that takes a piece of a value, and is no hole: the pieces that it gives to the instruction in front of its place,
-- and the part that takes the piece. The items of an object pattern have keys; `binds` is true in a binding pattern.
pub data IsItem : (binds of_object : Bool) → (item : Syntax) → (key : List Piece) → (part : Syntax) → Type 0 where
  Element : {binds : Bool} {part : Syntax} → is_hole part ≡ false → piece_shape part ≡ codes "place" ∷ []
      → IsItem binds false part [] part
  BoundProperty : {at : At} {key pattern : Syntax} {text : List ℕ} → key_name key ≡ Some text
      → IsItem true true (Node at word.Keyedpat (Then (Flag false) (Then key (Then pattern End)))) (Named text ∷ []) pattern
  TakenProperty : {at : At} {key target : Syntax} {text : List ℕ} → key_name key ≡ Some text
      → IsItem false true (Node at word.Keyed (Then (Flag false) (Then key (Then target End)))) (Named text ∷ []) target
  Shorthand : {at there : At} {name : List ℕ}
      → IsItem false true (Node at word.Short (Then (Node there word.Id (Then (Said name) End)) (Then Absent End))) (Named name ∷ [])
      (Node there word.Id (Then (Said name) End))
  -- The default belongs to the part.
  ShorthandDefault : {at there : At} {name : List ℕ} {default : Syntax} → is_absent default ≡ false
      → IsItem false true (Node at word.Short (Then (Node there word.Id (Then (Said name) End)) (Then default End))) (Named name ∷ [])
      (Node at word.Short (Then (Node there word.Id (Then (Said name) End)) (Then default End)))

-- A property of a pattern that may be left out, by its key.
pub data IsProperty : (binds : Bool) → (item : Syntax) → Type 0 where
  OfBinding : {at : At} {computed : Bool} {key pattern : Syntax}
      → IsProperty true (Node at word.Keyedpat (Then (Flag computed) (Then key (Then pattern End))))
  OfTarget : {at : At} {computed : Bool} {key target : Syntax}
      → IsProperty false (Node at word.Keyed (Then (Flag computed) (Then key (Then target End))))

-- True of a target that is no item of a pattern around it: it has no default and no key, and is no rest.
abbrev pub is_whole_target : Syntax → Bool
is_whole_target (Node at word.Default parts) = false
is_whole_target (Node at word.Short parts) = false
is_whole_target (Node at word.Keyed parts) = false
is_whole_target (Node at word.Rest parts) = false
is_whole_target target = true

-- A target with a default: its word and fields, and the two parts.
pub data IsDefaulted : Word → Pieces → (target default : Syntax) → Type 0 where
  DefaultTarget : {target default : Syntax} → is_whole_target target ≡ true
      → IsDefaulted word.Default (Then target (Then default End)) target default
  DefaultName : {name default : Syntax} → is_whole_target name ≡ true → is_absent default ≡ false
      → IsDefaulted word.Short (Then name (Then default End)) name default

-- The texts of a template, in order, each by its source and its value. A text with an invalid escape has no value.
pub data AreQuasis : Pieces → List TemplateQuasi → Type 0 where
  NoQuasi : AreQuasis End []
  NextQuasi : {at : At} {raw cooked : List ℕ} {more : Pieces} {quasis : List TemplateQuasi} → AreQuasis more quasis
      → AreQuasis (Then (Node at word.Quasi (Then (Said raw) (Then (Said cooked) End))) more)
      (record { raw = raw; cooked = Some cooked } ∷ quasis)
  NextUncooked : {at : At} {raw : List ℕ} {more : Pieces} {quasis : List TemplateQuasi} → AreQuasis more quasis
      → AreQuasis (Then (Node at word.Quasi (Then (Said raw) (Then Absent End))) more) (record { raw = raw; cooked = None } ∷ quasis)

-- A kind whose value is one instruction over the values of its parts, from left to right: its word and fields, the parts that are
-- lowered, the pieces that these give, and the instruction's value.
pub data IsForm : Word → (fields parts : Pieces) → List Piece → InstructionValue → Type 0 where
  Binary : {operator : BinaryOperator} {left right : Syntax} {l r : Place}
      → IsForm word.Binary (Then (Said (operator_text operator)) (Then left (Then right End))) (Then left (Then right End))
      (Gives l ∷ Gives r ∷ []) (values.BinaryExpression operator l r)
  Unary : {operator : UnaryOperator} {e : Syntax} {p : Place} → bytes_eq (unary_text operator) (codes "delete") ≡ false
      → IsForm word.Unary (Then (Said (unary_text operator)) (Then e End)) (Then e End) (Gives p ∷ []) (values.UnaryExpression operator p)
  Await : {e : Syntax} {p : Place} → IsForm word.Await (Then e End) (Then e End) (Gives p ∷ []) (values.Await p)
  Load : {w : Word} {fields parts : Pieces} {pieces : List Piece} {object : Place} {key : MemberKey}
      → IsMember w fields parts pieces object key → IsForm w fields parts pieces (load_of object key)
  Delete : (operator : UnaryOperator) {e : Syntax} {there : At} {w : Word} {fields parts : Pieces} {pieces : List Piece}
      {object : Place} {key : MemberKey} → bytes_eq (unary_text operator) (codes "delete") ≡ true → IsInside e (Node there w fields)
      → IsMember w fields parts pieces object key
      → IsForm word.Unary (Then (Said (unary_text operator)) (Then e End)) parts pieces (delete_of object key)
  Call : {callee : Syntax} {es : Pieces} {f : Place} {pieces : List Piece} {given : List PlaceOrSpread}
      → call_word callee ≡ codes "call" → gathered argument_pieces given ≡ pieces
      → IsForm word.Call (Then (Flag false) (Then callee (Then (Listed es) End))) (Then callee es)
      (Gives f ∷ pieces) (values.CallExpression f given)
  New : {callee : Syntax} {es : Pieces} {f : Place} {pieces : List Piece} {given : List PlaceOrSpread}
      → gathered argument_pieces given ≡ pieces
      → IsForm word.New (Then callee (Then (Listed es) End)) (Then callee es) (Gives f ∷ pieces) (values.NewExpression f given)
  Array : {es : Pieces} {pieces : List Piece} {elements : List ArrayElement} → gathered element_pieces elements ≡ pieces
      → IsForm word.Array (Then (Listed es) End) es pieces (values.ArrayExpression elements)
  Template : {texts es : Pieces} {pieces : List Piece} {quasis : List TemplateQuasi} {places : List Place} → AreQuasis texts quasis
      → gathered value_pieces places ≡ pieces
      → IsForm word.Template (Then (Listed texts) (Then (Listed es) End)) es pieces
      (values.TemplateLiteral (record { quasis = quasis; subexpressions = places }))
  Tagged : {there : At} {tag : Syntax} {texts es : Pieces} {t : Place} {pieces : List Piece} {quasis : List TemplateQuasi}
      {places : List Place} → are_raw texts ≡ true → AreQuasis texts quasis → gathered value_pieces places ≡ pieces
      → IsForm word.Tagged (Then tag (Then (Node there word.Template (Then (Listed texts) (Then (Listed es) End))) End)) (Then tag es)
      (Gives t ∷ pieces) (values.TaggedTemplateExpression t (record { quasis = quasis; subexpressions = places }))
  RegExp : {pattern flags : List ℕ}
      → IsForm word.Regexp (Then (Said pattern) (Then (Said flags) End)) End []
      (values.RegExpLiteral (record { pattern = pattern; flags = flags }))
  ImportMeta : IsForm word.Importmeta End End [] values.MetaProperty

-- The places whose values the pieces take.
abbrev pub places_in : List Piece → List Place
places_in [] = []
places_in (Gives p ∷ pieces) = p ∷ places_in pieces
places_in (Spreads p ∷ pieces) = p ∷ places_in pieces
places_in (Takes (Use p) ∷ pieces) = p ∷ places_in pieces
places_in (piece ∷ pieces) = places_in pieces
