-- The number of nodes in bytes, and the largest number of parentheses open at once.
use Rattle.std.specs.Prelude.{ℕ, ◌+◌, ◌-◌, max, Bool, false, not, ◌==◌, if◌then◌else◌, List, [], ◌∷◌, count_by}

-- The bytes outside texts, if `within` says that the first of them stands in a text. Each quote opens or closes a text, and is
-- left out.
abbrev pub outside : (within : Bool) → List ℕ → List ℕ
outside within [] = []
outside within (byte ∷ bytes) = if byte == 34 then outside (not within) bytes else if within then outside within bytes else byte ∷ outside within bytes

-- The number of `(` outside texts.
abbrev pub nodes_in : List ℕ → ℕ
nodes_in bytes = count_by (λ byte. byte == 40) (outside false bytes)

-- The number of parentheses open after a byte: `(` opens one, and `)` closes one, if any is open.
abbrev pub open_after : (count byte : ℕ) → ℕ
open_after count byte = if byte == 40 then count + 1 else if byte == 41 then count - 1 else count

-- The most that are open at once, if `count` are open before the bytes.
abbrev pub deepest_from : (count : ℕ) → List ℕ → ℕ
deepest_from count [] = count
deepest_from count (byte ∷ bytes) = max count (deepest_from (open_after count byte) bytes)

abbrev pub deepest_in : List ℕ → ℕ
deepest_in bytes = deepest_from 0 (outside false bytes)
