-- Items with keys that are numbers: the items of each key, in order.
use Rattle.std.specs.Prelude.{ℕ, if◌then◌else◌, nat_eq, nat_lt, List, [], ◌∷◌}

module _ {T : Type 0} where
  -- The items with a key, in order.
  abbrev pub those : (key : ℕ) → List (ℕ × T) → List T
  those key [] = []
  those key (pair ∷ pairs) = if nat_eq pair.0 key then pair.1 ∷ those key pairs else those key pairs

  -- As `those`, for keys below `count`. None for any other key.
  abbrev pub those_below : (count key : ℕ) → List (ℕ × T) → List T
  those_below count key pairs = if nat_lt key count then those key pairs else []
