-- Types with listed values, each written by a text. `text_of` gives the text of a value.
use Rattle.std.specs.Prelude.{ℕ, Bool, List}
use Rattle.std.specs.List.{list_any}
use Rattle.std.specs.Str.{bytes_eq}

-- True if `text` writes one of `values`.
abbrev pub is_written : {X : Type 0} → (text_of : X → List ℕ) → (values : List X) → (text : List ℕ) → Bool
is_written text_of values text = list_any (λ value. bytes_eq (text_of value) text) values
