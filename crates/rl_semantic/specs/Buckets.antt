-- Tables of items by keys that are numbers: the items of each key, in order, or the first of them alone.
use Rattle.std.specs.Prelude.{ℕ, ◌+◌, ◌≡◌, if◌then◌else◌, nat_lt, slice_get, slice_set, Option, Some, None, List, [], ◌∷◌, ◌++◌, replicate}
use Rattle.rl_ast.specs.Marked.{first}
use Rattle.rl_semantic.specs.Items.{of_item}
pub use Rattle.rl_semantic.specs.Keyed.{those, those_below}

-- The larger of `most` and the number above a key, if the key is below `count`; else `most`.
abbrev pub further : (most count key : ℕ) → ℕ
further most count key = if nat_lt key count then (if nat_lt most (key + 1) then key + 1 else most) else most

module _ {T : Type 0} where
  -- Number above the keys that are below `count`: `most` if that is more, or there are none.
  abbrev pub keys_used : (most count : ℕ) → List (ℕ × T) → ℕ
  keys_used most count [] = most
  keys_used most count (pair ∷ pairs) = keys_used (further most count pair.0) count pairs

  abbrev pub itself : List T → List T
  itself items = items

  -- The items that a table has for a key. None past its end.
  abbrev pub bucket : List (List T) → (key : ℕ) → List T
  bucket table key = of_item [] itself (slice_get table key)

  -- The table with one more item, at its key. A key past its end changes nothing.
  abbrev pub put : List (List T) → ℕ × T → List (List T)
  put table pair = slice_set table pair.0 (bucket table pair.0 ++ pair.1 ∷ [])

  abbrev pub put_all : List (List T) → List (ℕ × T) → List (List T)
  put_all table [] = table
  put_all table (pair ∷ pairs) = put_all (put table pair) pairs

  -- The table of pairs for `count` keys, made step by step.
  abbrev pub tabled : (count : ℕ) → List (ℕ × T) → List (List T)
  tabled count pairs = put_all (replicate count []) pairs

  -- The table has for each key below `count` the items of that key.
  pub record AreBuckets (table : List (List T)) (count : ℕ) (pairs : List (ℕ × T)) : Type 0 where
    pub at : (key : ℕ) → bucket table key ≡ those_below count key pairs

  abbrev pub same : Option T → Option T
  same item = item

  -- The item that a table of first items has for a key. None past its end.
  abbrev pub first_at : List (Option T) → (key : ℕ) → Option T
  first_at table key = of_item None same (slice_get table key)

  -- The table with one more item at its key, if `there` says that none is there.
  abbrev pub put_at : (there : Option T) → List (Option T) → ℕ × T → List (Option T)
  put_at None table pair = slice_set table pair.0 (Some pair.1)
  put_at (Some item) table pair = table

  -- The table with the item of a pair at its key, unless the key has one. A key past its end changes nothing.
  abbrev pub put_first : List (Option T) → ℕ × T → List (Option T)
  put_first table pair = put_at (first_at table pair.0) table pair

  abbrev pub put_firsts : List (Option T) → List (ℕ × T) → List (Option T)
  put_firsts table [] = table
  put_firsts table (pair ∷ pairs) = put_firsts (put_first table pair) pairs

  -- The table of first items of pairs for `count` keys, made step by step.
  abbrev pub firsts_tabled : (count : ℕ) → List (ℕ × T) → List (Option T)
  firsts_tabled count pairs = put_firsts (replicate count None) pairs

  -- The table has for each key below `count` the first item of that key.
  pub record AreFirsts (table : List (Option T)) (count : ℕ) (pairs : List (ℕ × T)) : Type 0 where
    pub at : (key : ℕ) → first_at table key ≡ first (those_below count key pairs)
