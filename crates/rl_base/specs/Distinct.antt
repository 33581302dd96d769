-- Lists without repetition.
use Rattle.std.specs.Prelude.{◌≡◌, ℕ, Some, List, slice_get}

-- The items are unique: no item has two indices.
abbrev pub AreDistinct : {X : Type 0} → List X → Type 0
AreDistinct {X} items = (i j : ℕ) (item : X) → slice_get items i ≡ Some item → slice_get items j ≡ Some item → i ≡ j
