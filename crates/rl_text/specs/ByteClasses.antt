-- Classes of the bytes that a scan of a text passes in one run.
use Rattle.std.specs.Prelude.{ℕ, Bool, not, ◌==◌}
use Rattle.rl_text.specs.Quoted.{is_escaped}

-- True of a byte that closes no text.
abbrev pub is_inside : ℕ → Bool
is_inside byte = not (byte == 34)

-- True of a byte that stands for itself in a quoted text.
abbrev pub is_plain : ℕ → Bool
is_plain byte = not (is_escaped byte)
