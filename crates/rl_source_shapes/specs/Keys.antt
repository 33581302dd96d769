-- Keys and names among the parts of a node.
use Rattle.std.specs.Prelude.{ℕ, Bool, true, false, ◌&&◌, not, Option, Some, None, is_some, List, [], ◌∷◌, codes, unwrap_or}
use Rattle.rl_model.specs.Shapes.{key_text, said}
use Rattle.rl_syntax.specs.Syntax.{Syntax, Node, Said, Flag, Pieces, End, Then}
use Rattle.rl_syntax.specs.declared.word.Word.TheVariants as word

-- The text that is the one part of a node.
abbrev pub only_text : Pieces → Option (List ℕ)
only_text (Then (Said text) End) = Some text
only_text _ = None

-- A key, or `unknown` where it has no text, and its place.
abbrev pub key_shape : (unknown : List ℕ) → (computed : Bool) → (key : Syntax) → List (List ℕ)
key_shape unknown computed key = unwrap_or (key_text computed key) unknown ∷ codes "place" ∷ []

abbrev pub keyed_shape : (unknown : List ℕ) → Pieces → List (List ℕ)
keyed_shape unknown (Then (Flag computed) (Then key parts)) = key_shape unknown computed key
keyed_shape unknown _ = codes "place" ∷ []

abbrev pub short_shape : Pieces → List (List ℕ)
short_shape (Then (Node there word.Id (Then (Said name) End)) parts) = said name ∷ codes "place" ∷ []
short_shape _ = codes "place" ∷ []

-- False of parts whose key has no meaning.
abbrev pub keyed_has_key : Pieces → Bool
keyed_has_key (Then (Flag computed) (Then key parts)) = not computed && is_some (key_text computed key)
keyed_has_key _ = true

-- True of parts that begin with a flag and a key.
abbrev pub is_keyed : Pieces → Bool
is_keyed (Then (Flag computed) (Then key parts)) = true
is_keyed _ = false

-- True of one part that is a plain name.
abbrev pub is_name : Pieces → Bool
is_name (Then (Node there word.Bind parts) End) = true
is_name (Then (Node there word.Id parts) End) = true
is_name _ = false
