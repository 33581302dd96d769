-- The table of kinds: the parts of a small tree are small, and the instruction names the places of its pieces and is writable.
use Rattle.std.proofs.Common.{◌≡◌, ℕ, ◌++◌, Bool, true, List, [], ◌∷◌, All, codes, lit<, refl, sym, ap}
use Rattle.std.proofs.Common.{◌∙◌, subst}
use Rattle.std.specs.Str.{IsUtf8}
use Rattle.std.proofs.lemmas.List.Elements.{All-cons, All-head, All-nil, All-tail}
use Rattle.std.proofs.lemmas.Str.{IsUtf8-append, IsUtf8-nil}
use Rattle.rl_base.specs.Operators.{operator_text, unary_text}
use Rattle.rl_base.specs.declared.row.Row.{Row}
use Rattle.rl_hir.specs.Listing as listing
use Rattle.rl_hir.specs.Pieces.{Key, Says, Names, Gives, Spreads, Takes, Use, argument_pieces, element_pieces}
use Rattle.rl_hir.specs.Pieces.{gathered, operand_tree, operands, property_pieces, quasi_pieces, row_parts, used, value_pieces}
use Rattle.rl_hir.specs.Values.{Asks, form_tree}
use Rattle.rl_hir.specs.declared.instruction.ArrayElement.{ArrayElement}
use Rattle.rl_hir.specs.declared.instruction.ArrayElement.TheVariants as elements
use Rattle.rl_hir.specs.declared.instruction.InstructionValue.TheVariants as values
use Rattle.rl_hir.specs.declared.instruction.ObjectProperty.{ObjectProperty}
use Rattle.rl_hir.specs.declared.instruction.PlaceOrSpread.{PlaceOrSpread}
use Rattle.rl_hir.specs.declared.instruction.PlaceOrSpread.TheVariants as arguments
use Rattle.rl_hir.specs.declared.instruction.PrimitiveValue.{PrimitiveValue}
use Rattle.rl_hir.specs.declared.instruction.PropertyLiteral.TheVariants as keys
use Rattle.rl_hir.specs.declared.instruction.TemplateQuasi.{TemplateQuasi}
use Rattle.rl_hir.specs.declared.pieces.Row.TheVariants as rows
use Rattle.rl_lowered.proofs.Common.{At, InstructionValue, Node, Piece, Pieces, Place, Syntax}
use Rattle.rl_model.specs.WellFormed.{operand_places, value_places}
use Rattle.rl_syntax.specs.declared.word.Word.{Word as NodeWord}
use Rattle.rl_syntax.specs.Syntax.{plain, plain_parts}
use Rattle.rl_text.specs.Notation.{IsWord, IsWritable, AreWritable}
use Rattle.rl_text.specs.Numeral.{is_numeral, number_of}
use Rattle.rl_lowered.specs.Forms.{DefaultName, DefaultTarget, IsDefaulted}
use Rattle.rl_lowered.specs.Forms.{AreQuasis, IsCast, IsForm, IsInside, IsLiteral, IsMember, IsPrivate, IsRefusing, IsWrapper, MemberKey}
use Rattle.rl_lowered.specs.Forms.{NextQuasi, NextUncooked, NoQuasi, delete_of, load_of, places_in, store_of}
use Rattle.rl_lowered.specs.Forms.{Array, Await, Binary, Call, Delete, ImportMeta, Load, New, RegExp, Tagged, Template, Unary}
use Rattle.rl_lowered.specs.Forms.{Boolean, Null, Number, String}
use Rattle.rl_lowered.specs.Forms.{Around, As, Assert, Bare, ImportCall, ImportCallWith, Indexed, Numbered, Parenthesized, PrivateDelete}
use Rattle.rl_lowered.specs.Forms.{PrivateIn, PrivateUpdate, Satisfies, Static}
use Rattle.rl_lowered.specs.Sound.{AreSmallTrees, IsSmallTree}
use Rattle.rl_lowered.proofs.Keys.{HasText, Bracketed, Name, Number as Digits, Word}
use Rattle.rl_lowered.proofs.SoundListing.{boolean_writable, null_writable, number_writable, string_writable}
use Rattle.rl_lowered.proofs.SoundTrees.{numeral_fits}

-- The parts

inside_small : {e inner : Syntax} → IsInside e inner → IsSmallTree e → IsSmallTree inner
inside_small Bare small = small
inside_small (Around more) small = inside_small more (small.0.1.0, small.1.1.0)

pub member_small : {w : NodeWord} {fields parts : Pieces} {pieces : List Piece} {object : Place} {key : MemberKey}
    → IsMember w fields parts pieces object key → (at : At) → IsSmallTree (Node at w fields) → AreSmallTrees parts
member_small Static at small = ((small.0.1.1.0, tt), (small.1.1.1.0, tt))
member_small (Indexed other) at small = (small.0.1.1, small.1.1.1)
member_small (Numbered numeral) at small = ((small.0.1.1.0, tt), (small.1.1.1.0, tt))

pub wrapper_small : {w : NodeWord} {fields : Pieces} {e : Syntax} → IsWrapper w fields e → (at : At) → IsSmallTree (Node at w fields)
    → IsSmallTree e
wrapper_small Parenthesized at small = (small.0.1.0, small.1.1.0)
wrapper_small _ at small = (small.0.1.0, small.1.1.0)

pub cast_small : {w : NodeWord} {fields : Pieces} {e type : Syntax} → IsCast w fields e type → (at : At) → IsSmallTree (Node at w fields)
    → IsSmallTree e × IsSmallTree type
cast_small As at small = ((small.0.1.0, small.1.1.0), (small.0.1.1.0, small.1.1.1.0))
cast_small Satisfies at small = ((small.0.1.0, small.1.1.0), (small.0.1.1.0, small.1.1.1.0))
cast_small Assert at small = ((small.0.1.1.0, small.1.1.1.0), (small.0.1.0, small.1.1.0))

pub defaulted_small : {w : NodeWord} {fields : Pieces} {target default : Syntax} → IsDefaulted w fields target default → (at : At)
    → IsSmallTree (Node at w fields) → IsSmallTree target × IsSmallTree default
defaulted_small (DefaultTarget whole) at small = ((small.0.1.0, small.1.1.0), (small.0.1.1.0, small.1.1.1.0))
defaulted_small (DefaultName whole is) at small = ((small.0.1.0, small.1.1.0), (small.0.1.1.0, small.1.1.1.0))

pub private_small : {w : NodeWord} {fields : Pieces} {e : Syntax} → IsPrivate w fields e → (at : At) → IsSmallTree (Node at w fields)
    → IsSmallTree e
private_small PrivateUpdate at small = (small.0.1.1.1.0, small.1.1.1.1.0)
private_small (PrivateDelete operator is inside) at small = inside_small inside (small.0.1.1.0, small.1.1.1.0)

pub refusing_small : {w : NodeWord} {fields parts : Pieces} {r : Row} → IsRefusing w fields parts r → (at : At)
    → IsSmallTree (Node at w fields) → AreSmallTrees parts
refusing_small PrivateIn at small = (small.0.1.1, small.1.1.1)
refusing_small ImportCall at small = ((small.0.1.0, tt), (small.1.1.0, tt))
refusing_small ImportCallWith at small = (small.0.1, small.1.1)

pub form_small : {w : NodeWord} {fields parts : Pieces} {pieces : List Piece} {v : InstructionValue} → IsForm w fields parts pieces v
    → (at : At) → IsSmallTree (Node at w fields) → AreSmallTrees parts
form_small Binary at small = (small.0.1.1, small.1.1.1)
form_small (Unary plain) at small = (small.0.1.1, small.1.1.1)
form_small Await at small = (small.0.1, small.1.1)
form_small (Load is) at small = member_small is at small
form_small (Delete operator {there} deletes inside is) at small =
    member_small is there (inside_small inside (small.0.1.1.0, small.1.1.1.0))
form_small (Call plain given) at small = ((small.0.1.1.0, small.0.1.1.1.0), (small.1.1.1.0, small.1.1.1.1.0))
form_small (New given) at small = ((small.0.1.0, small.0.1.1.0), (small.1.1.0, small.1.1.1.0))
form_small (Array given) at small = (small.0.1.0, small.1.1.0)
form_small (Template quasis given) at small = (small.0.1.1.0, small.1.1.1.0)
form_small (Tagged raw quasis given) at small = ((small.0.1.0, small.0.1.1.0.1.1.0), (small.1.1.0, small.1.1.1.0.1.1.0))
form_small RegExp at small = (tt, tt)
form_small ImportMeta at small = (tt, tt)

-- The places

pub operand_places_in : (pieces : List Piece) → operand_places (operands pieces) ≡ places_in pieces
operand_places_in [] = refl
operand_places_in (Says text ∷ pieces) = operand_places_in pieces
operand_places_in (Names name ∷ pieces) = operand_places_in pieces
operand_places_in (Gives p ∷ pieces) = ap (λ (l : List Place). p ∷ l) (operand_places_in pieces)
operand_places_in (Spreads p ∷ pieces) = ap (λ (l : List Place). p ∷ l) (operand_places_in pieces)
operand_places_in (Takes (Use p) ∷ pieces) = ap (λ (l : List Place). p ∷ l) (operand_places_in pieces)
operand_places_in (Takes (Key key) ∷ pieces) = operand_places_in pieces

-- Texts in front name no place
quasi_places : {texts : Pieces} {quasis : List TemplateQuasi} → AreQuasis texts quasis → (more : List Piece)
    → places_in (gathered quasi_pieces quasis ++ more) ≡ places_in more
quasi_places NoQuasi more = refl
quasi_places (NextQuasi are) more = quasi_places are more
quasi_places (NextUncooked are) more = quasi_places are more

pub member_places : {w : NodeWord} {fields parts : Pieces} {pieces : List Piece} {object : Place} {key : MemberKey}
    → IsMember w fields parts pieces object key
    → (value_places (load_of object key) ≡ places_in pieces) × (value_places (delete_of object key) ≡ places_in pieces)
member_places Static = (refl, refl)
member_places _ = (refl, refl)

pub stored_places : {w : NodeWord} {fields parts : Pieces} {pieces : List Piece} {object : Place} {key : MemberKey}
    → IsMember w fields parts pieces object key → (v : Place) → value_places (store_of object key v) ≡ places_in pieces ++ v ∷ []
stored_places Static v = refl
stored_places _ v = refl

pub method_places : (object method : Place) (given : List PlaceOrSpread) (pieces : List Piece) → gathered argument_pieces given ≡ pieces
    → value_places (values.MethodCall (record { receiver = object; property = method; arguments = given }))
    ≡ object ∷ method ∷ places_in pieces
method_places object method given pieces is =
    ap (λ (l : List Place). object ∷ method ∷ l) (operand_places_in (gathered argument_pieces given) ∙ ap places_in is)

pub called_places : (callee : Place) (given : List PlaceOrSpread) (pieces : List Piece) → gathered argument_pieces given ≡ pieces
    → value_places (values.CallExpression callee given) ≡ callee ∷ places_in pieces
called_places callee given pieces is =
    ap (λ (l : List Place). callee ∷ l) (operand_places_in (gathered argument_pieces given) ∙ ap places_in is)

pub object_places : (given : List ObjectProperty) (pieces : List Piece) → gathered property_pieces given ≡ pieces
    → value_places (values.ObjectExpression given) ≡ places_in pieces
object_places given pieces is = operand_places_in (gathered property_pieces given) ∙ ap places_in is

pub form_places : {w : NodeWord} {fields parts : Pieces} {pieces : List Piece} {v : InstructionValue} → IsForm w fields parts pieces v
    → value_places v ≡ places_in pieces
form_places Binary = refl
form_places (Unary plain) = refl
form_places Await = refl
form_places (Load is) = (member_places is).0
form_places (Delete operator deletes inside is) = (member_places is).1
form_places (Call {callee} {es} {f} {pieces} {given} plain are) = called_places f given pieces are
form_places (New {callee} {es} {f} {pieces} {given} are) =
    ap (λ (l : List Place). f ∷ l) (operand_places_in (gathered argument_pieces given) ∙ ap places_in are)
form_places (Array {es} {pieces} {elements} are) = operand_places_in (gathered element_pieces elements) ∙ ap places_in are
form_places (Template {texts} {es} {pieces} {quasis} {places} said are) =
    operand_places_in (gathered quasi_pieces quasis ++ gathered value_pieces places)
    ∙ quasi_places said (gathered value_pieces places) ∙ ap places_in are
form_places (Tagged {t} {quasis} {places} raw said are) =
    ap (λ (l : List Place). t ∷ l)
    (operand_places_in (gathered quasi_pieces quasis ++ gathered value_pieces places)
    ∙ quasi_places said (gathered value_pieces places) ∙ ap places_in are)
form_places RegExp = refl
form_places ImportMeta = refl

-- Texts and keys

-- The notation has the texts of the pieces, and their keys.
abbrev pub AreWritten : List Piece → Type 0
AreWritten [] = Unit {0}
AreWritten (Says text ∷ pieces) = IsUtf8 text × AreWritten pieces
AreWritten (Names name ∷ pieces) = IsUtf8 (46 ∷ name) × AreWritten pieces
AreWritten (Gives p ∷ pieces) = AreWritten pieces
AreWritten (Spreads p ∷ pieces) = AreWritten pieces
AreWritten (Takes (Use p) ∷ pieces) = AreWritten pieces
AreWritten (Takes (Key key) ∷ pieces) = IsWritable (operand_tree (Key key)) × AreWritten pieces

place_utf8 : IsUtf8 (codes "place")
unfolding lib.Utf8.encode
place_utf8 = (codes "place", (refl, refl))

spread_utf8 : IsUtf8 (codes "spread")
unfolding lib.Utf8.encode
spread_utf8 = (codes "spread", (refl, refl))

pub hole_utf8 : IsUtf8 (codes "hole")
unfolding lib.Utf8.encode
hole_utf8 = (codes "hole", (refl, refl))

pub dot_utf8 : IsUtf8 (46 ∷ [])
unfolding lib.Utf8.encode
dot_utf8 = (46 ∷ [], (refl, refl))

abbrev pub WritesPlace : Place → Type 0
WritesPlace p = IsWritable (listing.place p)

pub texts_written : (pieces : List Piece) → AreWritten pieces → AreWritable (row_parts rows.Texts pieces)
texts_written [] w = tt
texts_written (Says text ∷ pieces) w = (w.0, texts_written pieces w.1)
texts_written (Names name ∷ pieces) w = (w.0, texts_written pieces w.1)
texts_written (Gives p ∷ pieces) w = (place_utf8, texts_written pieces w)
texts_written (Spreads p ∷ pieces) w = (spread_utf8, texts_written pieces w)
texts_written (Takes (Use p) ∷ pieces) w = texts_written pieces w
texts_written (Takes (Key key) ∷ pieces) w = texts_written pieces w.1

pub operands_written : (pieces : List Piece) → AreWritten pieces → All WritesPlace (places_in pieces)
    → AreWritable (row_parts rows.Operands pieces)
operands_written [] w all = tt
operands_written (Says text ∷ pieces) w all = operands_written pieces w.1 all
operands_written (Names name ∷ pieces) w all = operands_written pieces w.1 all
operands_written (Gives p ∷ pieces) w all =
    (All-head WritesPlace p (places_in pieces) all, operands_written pieces w (All-tail WritesPlace p (places_in pieces) all))
operands_written (Spreads p ∷ pieces) w all =
    (All-head WritesPlace p (places_in pieces) all, operands_written pieces w (All-tail WritesPlace p (places_in pieces) all))
operands_written (Takes (Use p) ∷ pieces) w all =
    (All-head WritesPlace p (places_in pieces) all, operands_written pieces w (All-tail WritesPlace p (places_in pieces) all))
operands_written (Takes (Key key) ∷ pieces) w all = (w.0, operands_written pieces w.1 all)

asks_writable : (word : List ℕ) (pieces : List Piece) → IsWord word → AreWritten pieces → All WritesPlace (places_in pieces)
    → IsWritable (form_tree (Asks word pieces))
asks_writable word pieces is w all = (is, (texts_written pieces w, (operands_written pieces w all, tt)))

arguments_written : (given : List PlaceOrSpread) → AreWritten (gathered argument_pieces given)
arguments_written [] = tt
arguments_written (arguments.Place p ∷ given) = arguments_written given
arguments_written (arguments.Spread p ∷ given) = arguments_written given

elements_written : (given : List ArrayElement) → AreWritten (gathered element_pieces given)
elements_written [] = tt
elements_written (elements.Place p ∷ given) = elements_written given
elements_written (elements.Spread p ∷ given) = elements_written given
elements_written (elements.Hole ∷ given) = (hole_utf8, elements_written given)

values_written : (given : List Place) → AreWritten (gathered value_pieces given)
values_written [] = tt
values_written (p ∷ given) = values_written given

-- Texts of a template in front of values
quasis_written : {texts : Pieces} {quasis : List TemplateQuasi} → AreQuasis texts quasis → (more : List Piece)
    → AreWritable (plain_parts texts) → AreWritten more → AreWritten (gathered quasi_pieces quasis ++ more)
quasis_written NoQuasi more small rest = rest
quasis_written (NextQuasi {cooked} are) more small rest =
    (small.0.1.0, (IsUtf8-append (46 ∷ []) cooked dot_utf8 small.0.1.1.0, quasis_written are more small.1 rest))
quasis_written (NextUncooked are) more small rest = (small.0.1.0, (IsUtf8-nil, quasis_written are more small.1 rest))

-- The instructions of properties

number_key : (text : List ℕ) → is_numeral text ≡ true → IsWritable (operand_tree (Key (keys.Number (number_of text))))
number_key text numeral = ((lit< tt, refl), (numeral_fits text (number_of text) numeral refl, tt))

string_key : (key : List ℕ) → IsUtf8 key → IsWritable (operand_tree (Key (keys.String key)))
string_key key utf8 = ((lit< tt, refl), (utf8, tt))

pub load_writable : {w : NodeWord} {fields parts : Pieces} {pieces : List Piece} {object : Place} {key : MemberKey}
    → IsMember w fields parts pieces object key → (at : At) → IsSmallTree (Node at w fields) → All WritesPlace (places_in pieces)
    → IsWritable (listing.value (load_of object key))
load_writable (Static {key} {p}) at small all =
    asks_writable (codes "propertyload") (used p ∷ Takes (Key (keys.String key)) ∷ []) (lit< tt, refl)
    (string_key key small.1.1.1.1.0, tt) all
load_writable (Indexed {p} {q} other) at small all =
    asks_writable (codes "computedload") (used p ∷ used q ∷ []) (lit< tt, refl) tt all
load_writable (Numbered {text} {p} numeral) at small all =
    asks_writable (codes "propertyload") (used p ∷ Takes (Key (keys.Number (number_of text))) ∷ []) (lit< tt, refl)
    (number_key text numeral, tt) all

pub delete_writable : {w : NodeWord} {fields parts : Pieces} {pieces : List Piece} {object : Place} {key : MemberKey}
    → IsMember w fields parts pieces object key → (at : At) → IsSmallTree (Node at w fields) → All WritesPlace (places_in pieces)
    → IsWritable (listing.value (delete_of object key))
delete_writable (Static {key} {p}) at small all =
    asks_writable (codes "propertydelete") (used p ∷ Takes (Key (keys.String key)) ∷ []) (lit< tt, refl)
    (string_key key small.1.1.1.1.0, tt) all
delete_writable (Indexed {p} {q} other) at small all =
    asks_writable (codes "computeddelete") (used p ∷ used q ∷ []) (lit< tt, refl) tt all
delete_writable (Numbered {text} {p} numeral) at small all =
    asks_writable (codes "propertydelete") (used p ∷ Takes (Key (keys.Number (number_of text))) ∷ []) (lit< tt, refl)
    (number_key text numeral, tt) all

pub store_writable : {w : NodeWord} {fields parts : Pieces} {pieces : List Piece} {object : Place} {key : MemberKey}
    → IsMember w fields parts pieces object key → (at : At) (v : Place) → IsSmallTree (Node at w fields)
    → All WritesPlace (places_in pieces ++ v ∷ []) → IsWritable (listing.value (store_of object key v))
store_writable (Static {key} {p}) at v small all =
    asks_writable (codes "propertystore") (used p ∷ Takes (Key (keys.String key)) ∷ used v ∷ []) (lit< tt, refl)
    (string_key key small.1.1.1.1.0, tt) all
store_writable (Indexed {p} {q} other) at v small all =
    asks_writable (codes "computedstore") (used p ∷ used q ∷ used v ∷ []) (lit< tt, refl) tt all
store_writable (Numbered {text} {p} numeral) at v small all =
    asks_writable (codes "propertystore") (used p ∷ Takes (Key (keys.Number (number_of text))) ∷ used v ∷ []) (lit< tt, refl)
    (number_key text numeral, tt) all

-- A global that takes a value, and the steps of loops over keys and values

pub global_store_writable : (name : List ℕ) (v : Place) → IsUtf8 name → IsWritable (listing.place v)
    → IsWritable (listing.value (values.StoreGlobal name v))
global_store_writable name v utf8 w =
    asks_writable (codes "storeglobal") (Says name ∷ used v ∷ []) (lit< tt, refl) (utf8, tt)
    (All-cons WritesPlace v [] w (All-nil WritesPlace))

pub key_step_writable : (v : Place) → IsWritable (listing.place v) → IsWritable (listing.value (values.NextPropertyOf v))
key_step_writable v w =
    asks_writable (codes "nextpropertyof") (used v ∷ []) (lit< tt, refl) tt (All-cons WritesPlace v [] w (All-nil WritesPlace))

pub iterator_writable : (v : Place) → IsWritable (listing.place v) → IsWritable (listing.value (values.GetIterator v))
iterator_writable v w =
    asks_writable (codes "getiterator") (used v ∷ []) (lit< tt, refl) tt (All-cons WritesPlace v [] w (All-nil WritesPlace))

pub item_step_writable : (iterator v : Place) → IsWritable (listing.place iterator) → IsWritable (listing.place v)
    → IsWritable (listing.value (values.IteratorNext iterator v))
item_step_writable iterator v first second =
    asks_writable (codes "iteratornext") (used iterator ∷ used v ∷ []) (lit< tt, refl) tt
    (All-cons WritesPlace iterator (v ∷ []) first (All-cons WritesPlace v [] second (All-nil WritesPlace)))

-- The call of a method, a debugger statement, and an object literal

pub method_writable : (object method : Place) (given : List PlaceOrSpread) (pieces : List Piece) → gathered argument_pieces given ≡ pieces
    → All WritesPlace (object ∷ method ∷ places_in pieces)
    → IsWritable (listing.value (values.MethodCall (record { receiver = object; property = method; arguments = given })))
method_writable object method given pieces is all =
    asks_writable (codes "methodcall") (used object ∷ used method ∷ gathered argument_pieces given) (lit< tt, refl)
    (arguments_written given)
    (subst (λ (l : List Piece). All WritesPlace (object ∷ method ∷ places_in l)) (sym is) all)

pub called_writable : (callee : Place) (given : List PlaceOrSpread) (pieces : List Piece) → gathered argument_pieces given ≡ pieces
    → All WritesPlace (callee ∷ places_in pieces) → IsWritable (listing.value (values.CallExpression callee given))
called_writable callee given pieces is all =
    asks_writable (codes "call") (used callee ∷ gathered argument_pieces given) (lit< tt, refl) (arguments_written given)
    (subst (λ (l : List Piece). All WritesPlace (callee ∷ places_in l)) (sym is) all)

pub debugger_writable : IsWritable (listing.value values.Debugger)
debugger_writable = ((lit< tt, refl), (tt, (tt, tt)))

pub object_writable : (given : List ObjectProperty) (pieces : List Piece) → gathered property_pieces given ≡ pieces → AreWritten pieces
    → All WritesPlace (places_in pieces) → IsWritable (listing.value (values.ObjectExpression given))
object_writable given pieces is written all =
    asks_writable (codes "object") (gathered property_pieces given) (lit< tt, refl) (subst AreWritten (sym is) written)
    (subst (λ (l : List Piece). All WritesPlace (places_in l)) (sym is) all)

-- The text of a key
pub key_utf8 : {computed : Bool} {key : Syntax} {text : List ℕ} → HasText computed key text → IsWritable (plain key) → IsUtf8 text
key_utf8 (Name at said) small = IsUtf8-append (46 ∷ []) said dot_utf8 small.1.0
key_utf8 (Word at said) small = IsUtf8-append (46 ∷ []) said dot_utf8 small.1.0
key_utf8 (Bracketed at said) small = IsUtf8-append (46 ∷ []) said dot_utf8 small.1.0
key_utf8 (Digits at said numeral) small = IsUtf8-append (46 ∷ []) said dot_utf8 small.1.0

-- The instruction

pub form_writable : {w : NodeWord} {fields parts : Pieces} {pieces : List Piece} {v : InstructionValue} → IsForm w fields parts pieces v
    → (at : At) → IsSmallTree (Node at w fields) → All WritesPlace (places_in pieces) → IsWritable (listing.value v)
form_writable (Binary {operator} {left} {right} {l} {r}) at small all =
    asks_writable (codes "binary") (Says (operator_text operator) ∷ used l ∷ used r ∷ []) (lit< tt, refl) (small.1.1.0, tt) all
form_writable (Unary {operator} {e} {p} plain) at small all =
    asks_writable (codes "unary") (Says (unary_text operator) ∷ used p ∷ []) (lit< tt, refl) (small.1.1.0, tt) all
form_writable (Await {e} {p}) at small all = asks_writable (codes "await") (used p ∷ []) (lit< tt, refl) tt all
form_writable (Load is) at small all = load_writable is at small all
form_writable (Delete operator {there} deletes inside is) at small all =
    delete_writable is there (inside_small inside (small.0.1.1.0, small.1.1.1.0)) all
form_writable (Call {callee} {es} {f} {pieces} {given} plain are) at small all = called_writable f given pieces are all
form_writable (New {callee} {es} {f} {pieces} {given} are) at small all =
    asks_writable (codes "new") (used f ∷ gathered argument_pieces given) (lit< tt, refl) (arguments_written given)
    (subst (λ (l : List Piece). All WritesPlace (f ∷ places_in l)) (sym are) all)
form_writable (Array {es} {pieces} {elements} are) at small all =
    asks_writable (codes "array") (gathered element_pieces elements) (lit< tt, refl) (elements_written elements)
    (subst (λ (l : List Piece). All WritesPlace (places_in l)) (sym are) all)
form_writable (Template {texts} {es} {pieces} {quasis} {places} said are) at small all =
    asks_writable (codes "template") (gathered quasi_pieces quasis ++ gathered value_pieces places) (lit< tt, refl)
    (quasis_written said (gathered value_pieces places) small.1.1.0 (values_written places))
    (subst (All WritesPlace) (sym (quasi_places said (gathered value_pieces places) ∙ ap places_in are)) all)
form_writable (Tagged {texts} {es} {t} {quasis} {places} raw said are) at small all =
    asks_writable (codes "tagged") (Gives t ∷ (gathered quasi_pieces quasis ++ gathered value_pieces places)) (lit< tt, refl)
    (quasis_written said (gathered value_pieces places) small.1.1.1.0.1.0 (values_written places))
    (subst (λ (l : List Place). All WritesPlace (t ∷ l)) (sym (quasi_places said (gathered value_pieces places) ∙ ap places_in are)) all)
form_writable (RegExp {pattern} {flags}) at small all =
    asks_writable (codes "regexp") (Says pattern ∷ Says flags ∷ []) (lit< tt, refl) (small.1.1.0, (small.1.1.1.0, tt)) all
form_writable ImportMeta at small all = asks_writable (codes "metaproperty") [] (lit< tt, refl) tt all

-- Literals

pub literal_writable : {w : NodeWord} {fields : Pieces} {p : PrimitiveValue} → IsLiteral w fields p → (at : At)
    → IsSmallTree (Node at w fields) → IsWritable (listing.value (values.Primitive p))
literal_writable Null at small = null_writable
literal_writable (Boolean {flag}) at small = boolean_writable flag
literal_writable (String {text}) at small = string_writable text small.1.1.0
literal_writable (Number {text} numeral) at small = number_writable (number_of text) (numeral_fits text (number_of text) numeral refl)
