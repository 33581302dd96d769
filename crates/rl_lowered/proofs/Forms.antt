-- The event of each kind whose value is one instruction over the values of its parts, and the kind's meaning by it.
use Rattle.std.proofs.Common.{◌≡◌, ℕ, ◌++◌, Option, Some, None, List, [], ◌∷◌, map, refl, ap, ◌∙◌}
use Rattle.rl_hir.specs.declared.instruction.ArrayElement.{ArrayElement}
use Rattle.rl_hir.specs.declared.instruction.ArrayElement.TheVariants as elements
use Rattle.rl_hir.specs.declared.instruction.InstructionValue.TheVariants as values
use Rattle.rl_hir.specs.declared.instruction.PlaceOrSpread.{PlaceOrSpread}
use Rattle.rl_hir.specs.declared.instruction.PlaceOrSpread.TheVariants as arguments
use Rattle.rl_hir.specs.declared.instruction.TemplateQuasi.{TemplateQuasi}
use Rattle.rl_hir.specs.declared.instruction.ObjectProperty.{ObjectProperty}
use Rattle.rl_hir.specs.declared.instruction.ObjectProperty.TheVariants as properties
use Rattle.rl_hir.specs.Pieces.{Operand, Says, argument_pieces, element_pieces, gathered, operands, cooked_piece}
use Rattle.rl_hir.specs.Pieces.{property_pieces, quasi_pieces, texts, value_pieces}
use Rattle.rl_hir.specs.Values.{Form, Silent, Asks as Asking, Assigns, form_of}
use Rattle.rl_lowered.proofs.Common.{InstructionValue, Piece, Pieces, Place}
use Rattle.rl_lowered.specs.Forms.{AreQuasis, NoQuasi, NextQuasi, NextUncooked, IsForm, IsMember, places_in}
use Rattle.rl_lowered.specs.Forms.{Array, Call, Delete, Load, New, Static, Tagged, Template}
use Rattle.rl_lowered.specs.Forms.{MemberKey, Fixed, Computed, delete_of, load_of, store_of}
use Rattle.rl_machine.specs.Acts.{Asks, act, event_kind, gives, keeps, key_value, operand_value}
use Rattle.rl_machine.specs.declared.trace.Event.{Event}
use Rattle.rl_machine.specs.declared.trace.Value.{Value}
use Rattle.rl_machine.specs.Traces.{Store}
use Rattle.rl_model.specs.Events.{Key as EventKey, computed_key, delete, event, fixed_key, load, store_in}
use Rattle.rl_model.specs.Expressions.{first_piece, later_pieces}
use Rattle.rl_model.specs.Shapes.{quasis}
use Rattle.rl_syntax.specs.declared.word.Word.{Word}

abbrev pub pieces_in : Form → List Piece
pieces_in (Silent word fields) = []
pieces_in (Asking word pieces) = pieces
pieces_in (Assigns word head pieces v targets) = pieces

abbrev pub identifier_at : Place → ℕ
identifier_at p = p.identifier.0

-- The identifiers of the places whose values the pieces take.
abbrev pub identifiers_in : List Piece → List ℕ
identifiers_in pieces = map identifier_at (places_in pieces)

-- The event of a value, with these operands.
abbrev pub event_with : InstructionValue → List Value → Event
event_with v vs = event (event_kind v) (texts (pieces_in (form_of v))) vs

-- The key of a property, from the values of the parts that were lowered for it: the object, and a computed key.
abbrev pub key_by : MemberKey → List Value → EventKey
key_by (Fixed key) vs = fixed_key (key_value key)
key_by (Computed place) vs = computed_key (first_piece (later_pieces vs))

-- The event of a kind, from the values of its parts.
abbrev pub form_event : {w : Word} {fields parts : Pieces} {pieces : List Piece} {v : InstructionValue} → IsForm w fields parts pieces v
    → List Value → Event
form_event (Load {key} is) vs = load (first_piece vs) (key_by key vs)
form_event (Delete operator {key} deletes inside is) vs = delete (first_piece vs) (key_by key vs)
form_event {v} _ vs = event_with v vs

-- Operands that are values of places.

pub given_values : (given : List PlaceOrSpread) (store : Store)
    → map (operand_value store) (operands (gathered argument_pieces given)) ≡ map store (identifiers_in (gathered argument_pieces given))
given_values [] store = refl
given_values (arguments.Place p ∷ given) store = ap (λ (l : List Value). store p.identifier.0 ∷ l) (given_values given store)
given_values (arguments.Spread p ∷ given) store = ap (λ (l : List Value). store p.identifier.0 ∷ l) (given_values given store)

property_values : (properties : List ObjectProperty) (store : Store)
    → map (operand_value store) (operands (gathered property_pieces properties))
    ≡ map store (identifiers_in (gathered property_pieces properties))
property_values [] store = refl
property_values (properties.Property key p ∷ more) store =
    ap (λ (l : List Value). store p.identifier.0 ∷ l) (property_values more store)
property_values (properties.Computed key p ∷ more) store =
    ap (λ (l : List Value). store key.identifier.0 ∷ store p.identifier.0 ∷ l) (property_values more store)
property_values (properties.Spread p ∷ more) store = ap (λ (l : List Value). store p.identifier.0 ∷ l) (property_values more store)

element_values : (items : List ArrayElement) (store : Store)
    → map (operand_value store) (operands (gathered element_pieces items)) ≡ map store (identifiers_in (gathered element_pieces items))
element_values [] store = refl
element_values (elements.Place p ∷ items) store = ap (λ (l : List Value). store p.identifier.0 ∷ l) (element_values items store)
element_values (elements.Spread p ∷ items) store = ap (λ (l : List Value). store p.identifier.0 ∷ l) (element_values items store)
element_values (elements.Hole ∷ items) store = element_values items store

place_values : (places : List Place) (store : Store)
    → map (operand_value store) (operands (gathered value_pieces places)) ≡ map store (identifiers_in (gathered value_pieces places))
place_values [] store = refl
place_values (p ∷ places) store = ap (λ (l : List Value). store p.identifier.0 ∷ l) (place_values places store)

-- The texts of a template stand in front of its values, and are no operands.

quasi_operands : (quasis : List TemplateQuasi) (pieces : List Piece) → operands (gathered quasi_pieces quasis ++ pieces) ≡ operands pieces
quasi_operands [] pieces = refl
quasi_operands (quasi ∷ quasis) pieces = cooked_none quasi.cooked (gathered quasi_pieces quasis ++ pieces) ∙ quasi_operands quasis pieces
  where
    cooked_none : (o : Option (List ℕ)) (more : List Piece) → operands (Says quasi.raw ∷ cooked_piece o ∷ more) ≡ operands more
    cooked_none None more = refl
    cooked_none (Some text) more = refl

pub quasi_texts : {texts_in : Pieces} {given : List TemplateQuasi} → AreQuasis texts_in given → (pieces : List Piece)
    → texts (gathered quasi_pieces given ++ pieces) ≡ quasis texts_in ++ texts pieces
quasi_texts NoQuasi pieces = refl
quasi_texts (NextQuasi {raw} {cooked} are) pieces = ap (λ (l : List (List ℕ)). raw ∷ (46 ∷ cooked) ∷ l) (quasi_texts are pieces)
quasi_texts (NextUncooked {raw} are) pieces = ap (λ (l : List (List ℕ)). raw ∷ [] ∷ l) (quasi_texts are pieces)

pub object_acts : (given : List ObjectProperty) (id : ℕ) (store : Store)
    → act id (values.ObjectExpression given) store
    ≡ Asks (event_with (values.ObjectExpression given) (map store (identifiers_in (gathered property_pieces given)))) (gives id)
object_acts given id store =
    ap (λ (l : List Value). Asks (event_with (values.ObjectExpression given) l) (gives id)) (property_values given store)

-- Properties that are loaded, stored and deleted.

pub load_acts : {w : Word} {fields parts : Pieces} {pieces : List Piece} {object : Place} {key : MemberKey}
    (is : IsMember w fields parts pieces object key) (id : ℕ) (store : Store)
    → act id (load_of object key) store
    ≡ Asks (load (first_piece (map store (identifiers_in pieces))) (key_by key (map store (identifiers_in pieces)))) (gives id)
load_acts Static id store = refl
load_acts _ id store = refl

delete_acts : {w : Word} {fields parts : Pieces} {pieces : List Piece} {object : Place} {key : MemberKey}
    (is : IsMember w fields parts pieces object key) (id : ℕ) (store : Store)
    → act id (delete_of object key) store
    ≡ Asks (delete (first_piece (map store (identifiers_in pieces))) (key_by key (map store (identifiers_in pieces)))) (gives id)
delete_acts Static id store = refl
delete_acts _ id store = refl

-- A value that a property takes stays the value of the instruction.
pub store_acts : {w : Word} {fields parts : Pieces} {pieces : List Piece} {object : Place} {key : MemberKey}
    (is : IsMember w fields parts pieces object key) (id : ℕ) (v : Place) (store : Store)
    → act id (store_of object key v) store
    ≡ Asks (store_in (first_piece (map store (identifiers_in pieces))) (key_by key (map store (identifiers_in pieces)))
    (store v.identifier.0)) (keeps id (store v.identifier.0))
store_acts Static id v store = refl
store_acts _ id v store = refl

pub form_acts : {w : Word} {fields parts : Pieces} {pieces : List Piece} {v : InstructionValue}
    (form : IsForm w fields parts pieces v) (id : ℕ) (store : Store)
    → act id v store ≡ Asks (form_event form (map store (identifiers_in pieces))) (gives id)
form_acts (Call {f} {pieces} {given} plain is) id store =
    ap (λ (l : List Value). Asks (event_with (values.CallExpression f given) (store f.identifier.0 ∷ l)) (gives id))
    (given_values given store ∙ ap (λ (l : List Piece). map store (identifiers_in l)) is)
form_acts (New {f} {pieces} {given} is) id store =
    ap (λ (l : List Value). Asks (event_with (values.NewExpression f given) (store f.identifier.0 ∷ l)) (gives id))
    (given_values given store ∙ ap (λ (l : List Piece). map store (identifiers_in l)) is)
form_acts (Array {elements = items} is) id store =
    ap (λ (l : List Value). Asks (event_with (values.ArrayExpression items) l) (gives id))
    (element_values items store ∙ ap (λ (l : List Piece). map store (identifiers_in l)) is)
form_acts {v} (Template {quasis = given} {places} are is) id store =
    ap (λ (l : List Value). Asks (event_with v l) (gives id))
    (ap (λ (os : List Operand). map (operand_value store) os) (quasi_operands given (gathered value_pieces places))
    ∙ place_values places store ∙ ap (λ (l : List Piece). map store (identifiers_in l)) is)
form_acts {v} (Tagged {t} {quasis = given} {places} raw are is) id store =
    ap (λ (l : List Value). Asks (event_with v (store t.identifier.0 ∷ l)) (gives id))
    (ap (λ (os : List Operand). map (operand_value store) os) (quasi_operands given (gathered value_pieces places))
    ∙ place_values places store ∙ ap (λ (l : List Piece). map store (identifiers_in l)) is)
form_acts (Load is) id store = load_acts is id store
form_acts (Delete operator deletes inside is) id store = delete_acts is id store
form_acts _ id store = refl
