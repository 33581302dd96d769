-- Flags by number.
use Rattle.std.specs.Prelude.{ℕ, Bool, false, slice_get, List}
use Rattle.rl_semantic.specs.Items.{of_item}

-- The flag of a number; false past the end.
abbrev pub flag_at : List Bool → (number : ℕ) → Bool
flag_at flags number = of_item false (λ flag. flag) (slice_get flags number)
