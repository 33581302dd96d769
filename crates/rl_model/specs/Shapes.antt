-- Shapes, keys and names of events, as far as the syntax alone says them.
use Rattle.std.specs.Prelude.{ℕ, Bool, true, false, ◌&&◌, ◌||◌, not, nat_le, if◌then◌else◌, Option, Some, None, is_some, List, [], ◌∷◌}
use Rattle.std.specs.Prelude.{◌++◌, codes, unwrap_or}
use Rattle.std.specs.Str.{bytes_eq}
use Rattle.rl_text.specs.Numeral.{is_numeral}
use Rattle.rl_model.specs.Scene.{Scene}
use Rattle.rl_syntax.specs.Syntax.{Syntax, Node, Said, Flag, Absent, Pieces, End, Then}
use Rattle.rl_syntax.specs.declared.word.Word.TheVariants as word

abbrev pub is_absent : Syntax → Bool
is_absent Absent = true
is_absent _ = false

abbrev pub is_hole : Syntax → Bool
is_hole (Node at word.Hole parts) = true
is_hole _ = false

-- The text of a name that is known: it begins with a point.
abbrev pub said : List ℕ → List ℕ
said text = codes "." ++ text

-- The key of a literal or of a pattern, as a text. None of a key without a meaning (rows F8, F9 and F43).
abbrev pub key_text : (computed : Bool) → Syntax → Option (List ℕ)
key_text false (Node at word.Name (Then (Said name) End)) = Some (said name)
key_text _ (Node at word.Str (Then (Said text) End)) = Some (said text)
key_text false (Node at word.Num (Then (Said text) End)) = if is_numeral text then Some (said text) else None
key_text _ _ = None

-- True of a key that is computed when the literal is evaluated. A text in brackets is known before.
abbrev pub is_computed : (computed : Bool) → Syntax → Bool
is_computed computed (Node at word.Str parts) = false
is_computed computed key = computed

-- The shape of an argument, an element or a property.
abbrev pub shape_of : Syntax → List (List ℕ)
shape_of (Node at word.Spread parts) = codes "spread" ∷ []
shape_of (Node at word.Hole parts) = codes "hole" ∷ []
shape_of (Node at word.Prop (Then (Flag computed) (Then key parts))) =
    unwrap_or (key_text computed key) (codes "place") ∷ codes "place" ∷ []
shape_of (Node at word.Method (Then (Flag computed) (Then key parts))) =
    unwrap_or (key_text computed key) (codes "place") ∷ codes "place" ∷ []
shape_of _ = codes "place" ∷ []

abbrev pub shapes : Pieces → List (List ℕ)
shapes End = []
shapes (Then part parts) = shape_of part ++ shapes parts

-- The shape of the rest of a pattern.
abbrev pub rest_shape : Syntax → List (List ℕ)
rest_shape Absent = []
rest_shape _ = codes "spread" ∷ []

-- The shape of a part of a pattern: its key, and then its place.
abbrev pub piece_shape : Syntax → List (List ℕ)
piece_shape (Node at word.Hole parts) = codes "hole" ∷ []
piece_shape (Node at word.Keyedpat (Then (Flag computed) (Then key parts))) = unwrap_or (key_text computed key) [] ∷ codes "place" ∷ []
piece_shape (Node at word.Keyed (Then (Flag computed) (Then key parts))) = unwrap_or (key_text computed key) [] ∷ codes "place" ∷ []
piece_shape (Node at word.Short (Then (Node there word.Id (Then (Said name) End)) parts)) = said name ∷ codes "place" ∷ []
piece_shape _ = codes "place" ∷ []

abbrev pub piece_shapes : Pieces → List (List ℕ)
piece_shapes End = []
piece_shapes (Then part parts) = piece_shape part ++ piece_shapes parts

-- False of a part of a pattern whose key has no meaning (rows F8, F9 and F43).
abbrev pub has_key : Syntax → Bool
has_key (Node at word.Keyedpat (Then (Flag computed) (Then key parts))) = not computed && is_some (key_text computed key)
has_key (Node at word.Keyed (Then (Flag computed) (Then key parts))) = not computed && is_some (key_text computed key)
has_key _ = true

abbrev pub have_keys : Pieces → Bool
have_keys End = true
have_keys (Then part parts) = has_key part && have_keys parts

-- The rest of an object is a plain name (row F10).
abbrev pub is_plain_rest : Syntax → Bool
is_plain_rest Absent = true
is_plain_rest (Node at word.Rest (Then (Node there word.Bind parts) End)) = true
is_plain_rest (Node at word.Rest (Then (Node there word.Id parts) End)) = true
is_plain_rest _ = false

-- The texts of a template: each raw, and then cooked.
abbrev pub cooked_text : Syntax → List ℕ
cooked_text (Said text) = said text
cooked_text _ = []

abbrev pub quasis : Pieces → List (List ℕ)
quasis (Then (Node at word.Quasi (Then (Said raw) (Then cooked End))) parts) = raw ∷ cooked_text cooked ∷ quasis parts
quasis _ = []

-- True of a template that is cooked as it is written (row F13).
abbrev pub is_same_text : (raw : List ℕ) → (cooked : Syntax) → Bool
is_same_text raw (Said text) = bytes_eq raw text
is_same_text raw _ = bytes_eq raw []

abbrev pub are_raw : Pieces → Bool
are_raw (Then (Node at word.Quasi (Then (Said raw) (Then cooked End))) parts) = is_same_text raw cooked && are_raw parts
are_raw _ = true

-- True of a callee that lends the object of its last link as the receiver of the call.
abbrev pub lends : Syntax → Bool
lends (Node at word.Member parts) = true
lends (Node at word.Index parts) = true
lends (Node at word.Privatemember parts) = true
lends (Node at word.Chain (Then expression End)) = lends expression
lends (Node at word.Paren (Then expression End)) = lends expression
lends (Node at word.As (Then expression parts)) = lends expression
lends (Node at word.Satisfies (Then expression parts)) = lends expression
lends (Node at word.Assert (Then type (Then expression End))) = lends expression
lends (Node at word.Nonnull (Then expression End)) = lends expression
lends (Node at word.Instantiate (Then expression parts)) = lends expression
lends _ = false

abbrev pub is_link : Syntax → Bool
is_link (Node at word.Member parts) = true
is_link (Node at word.Index parts) = true
is_link (Node at word.Privatemember parts) = true
is_link _ = false

-- As the port has it, only a property itself lends its object, and no tag does.
abbrev pub lends_receiver : Scene → Syntax → Bool
lends_receiver scene callee = if scene.ported then is_link callee else lends callee

abbrev pub lends_to_tag : Scene → Syntax → Bool
lends_to_tag scene tag = not scene.ported && lends tag

-- The operator of a compound assignment, without its last character.
abbrev pub operator_in : List ℕ → List ℕ
operator_in [] = []
operator_in (c ∷ []) = []
operator_in (c ∷ d ∷ cs) = c ∷ operator_in (d ∷ cs)

abbrev pub first_character : List ℕ → List ℕ
first_character [] = []
first_character (c ∷ cs) = c ∷ []

-- Logical assignments have no meaning (row F23).
abbrev pub is_logical : List ℕ → Bool
is_logical operator = bytes_eq operator (codes "&&=") || bytes_eq operator (codes "||=") || bytes_eq operator (codes "??=")

-- The first letter is one of A to Z.
abbrev pub is_capital : List ℕ → Bool
is_capital [] = false
is_capital (c ∷ cs) = nat_le 65 c && nat_le c 90

-- The name of a builtin element, as a text. None of another tag, whose value is taken.
abbrev pub builtin : Syntax → Option (List ℕ)
builtin (Node at word.Tag (Then (Said name) End)) = if is_capital name then None else Some (said name)
builtin (Node at word.Id (Then (Said name) End)) = if is_capital name then None else Some (said name)
builtin (Node at word.This End) = Some (codes ".this")
builtin _ = None

abbrev pub tag_shape : Syntax → List (List ℕ)
tag_shape tag = unwrap_or (builtin tag) (codes "place") ∷ []

abbrev pub attribute_name : Syntax → List ℕ
attribute_name (Node at word.Attrname (Then (Said name) End)) = said name
attribute_name (Node at word.Attrns (Then (Said namespace) (Then (Said name) End))) = said (namespace ++ codes ":" ++ name)
attribute_name _ = []

-- An attribute or a child that is a container without an expression is dropped.
abbrev pub attribute_shape : Syntax → List (List ℕ)
attribute_shape (Node at word.Attr (Then name (Then (Node there word.Container (Then Absent End)) End))) = []
attribute_shape (Node at word.Attr (Then name parts)) = attribute_name name ∷ codes "place" ∷ []
attribute_shape _ = codes "spread" ∷ []

abbrev pub attribute_shapes : Pieces → List (List ℕ)
attribute_shapes End = []
attribute_shapes (Then part parts) = attribute_shape part ++ attribute_shapes parts

abbrev pub child_shape : Scene → Syntax → List (List ℕ)
child_shape scene (Node at word.Text (Then (Said text) End)) = if is_some (scene.child_text at.id.0 text) then codes "place" ∷ [] else []
child_shape scene (Node at word.Container (Then Absent End)) = []
child_shape scene _ = codes "place" ∷ []

abbrev pub child_shapes : Scene → Pieces → List (List ℕ)
child_shapes scene End = []
child_shapes scene (Then part parts) = child_shape scene part ++ child_shapes scene parts
