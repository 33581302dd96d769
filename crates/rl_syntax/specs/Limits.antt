-- Limits on the size of a unit.
use Rattle.std.specs.Prelude.{ℕ, ◌^◌, ◌+◌, ◌<◌, ◌⊎◌, List, length}
use Rattle.rl_text.specs.Measure.{nodes_in, deepest_in}

-- Number of bytes of the longest unit that is accepted.
abbrev pub most_bytes : ℕ
most_bytes = 2 ^ 24

-- Number of nodes of the largest unit that is accepted.
abbrev pub most_nodes : ℕ
most_nodes = 2 ^ 16

-- Number of nodes that may be open at once, that is, the depth of nesting.
abbrev pub most_open : ℕ
most_open = 256

-- Number of bytes that a source is read up to: with one byte more than `most_bytes`, a longer text is known to be too large.
abbrev pub most_read : ℕ
most_read = 2 ^ 24 + 1

-- `bytes` exceed a limit. The measure is taken of bytes of any form, also of those that spell no unit.
abbrev pub IsTooLarge : List ℕ → Type 0
IsTooLarge bytes = (most_bytes < length bytes) ⊎ (most_nodes < nodes_in bytes) ⊎ (most_open < deepest_in bytes)
