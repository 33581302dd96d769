-- Numbers of 32 bits.
use Rattle.std.specs.Prelude.{ℕ, ◌<◌, ◌^◌}

-- The number is below 2^32.
abbrev pub IsNarrow : ℕ → Type 0
IsNarrow number = number < 2 ^ 32
