-- Values that are found by their texts. `text_of` gives the text of a value.
use Rattle.std.specs.Prelude.{◌≡◌, ℕ, Option, Some, List}
use Rattle.std.specs.List.{find}
use Rattle.std.specs.Str.{bytes_eq}

-- The first of `values` that `text` writes.
abbrev pub written_in : {X : Type 0} → (text_of : X → List ℕ) → (values : List X) → (text : List ℕ) → Option X
written_in text_of values text = find (λ value. bytes_eq (text_of value) text) values

-- Each value is one of `values`, and is found there by its text: no two values have one text.
abbrev pub AreFound : {X : Type 0} → (text_of : X → List ℕ) → (values : List X) → Type 0
AreFound {X} text_of values = (value : X) → written_in text_of values (text_of value) ≡ Some value
