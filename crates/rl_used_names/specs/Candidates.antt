-- The names that a symbol's identifier may get.
use Rattle.std.specs.Prelude.{ℕ, zero, suc, List, ◌++◌, codes}
use Rattle.std.specs.Fmt.{decimal}

-- The candidates for a symbol's name, by index from 0: `name`, `name_0`, `name_1` ..
abbrev pub candidate : (name : List ℕ) → (index : ℕ) → List ℕ
candidate name zero = name
candidate name (suc k) = name ++ codes "_" ++ decimal k
