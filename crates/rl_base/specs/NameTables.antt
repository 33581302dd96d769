-- Lists of items with names. `name_of` gives the name of an item.
use Rattle.std.specs.Prelude.{ℕ, ◌+◌, Option, Some, None, List, [], ◌∷◌, if◌then◌else◌}
use Rattle.std.specs.Str.{bytes_eq}

-- `index_from name_of first items name`: the index of the first of `items` that is named `name`, if indices count from `first`.
abbrev pub index_from : {X : Type 0} → (X → List ℕ) → ℕ → List X → List ℕ → Option ℕ
index_from name_of first [] name = None
index_from name_of first (x ∷ items) name = if bytes_eq (name_of x) name then Some first else index_from name_of (first + 1) items name

-- The index of the first item that is named `name`.
abbrev pub index_named : {X : Type 0} → (X → List ℕ) → List X → List ℕ → Option ℕ
index_named name_of items name = index_from name_of 0 items name

-- The first item that is named `name`.
abbrev pub item_named : {X : Type 0} → (X → List ℕ) → List X → List ℕ → Option X
item_named name_of [] name = None
item_named name_of (x ∷ items) name = if bytes_eq (name_of x) name then Some x else item_named name_of items name
