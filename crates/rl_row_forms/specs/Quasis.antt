-- The texts of a template that a tag takes, by parts in a row.
use Rattle.std.specs.Prelude.{ℕ, Bool, true, false, ◌&&◌, ◌||◌, not, Option, None, List}
use Rattle.rl_model.specs.Shapes.{is_same_text}
use Rattle.rl_row_forms.specs.Shaped.{node_in, said_pair}
use Rattle.rl_semantic.specs.Items.{of_item}
use Rattle.rl_syntax.specs.Syntax.{Syntax, Pieces, End, Then}
use Rattle.rl_syntax.specs.declared.word.Word.{Word}
use Rattle.rl_syntax.specs.declared.word.Word.TheVariants as word

abbrev pub quasi_of : Word → Pieces → Option (List ℕ × Syntax)
quasi_of word.Quasi parts = said_pair parts
quasi_of _ parts = None

-- The raw text of a quasi, and the cooked one.
abbrev pub quasi_in : Syntax → Option (List ℕ × Syntax)
quasi_in part = of_item None (λ n. quasi_of n.1.0 n.1.1) (node_in part)

abbrev pub is_quasi : Syntax → Bool
is_quasi part = of_item false (λ q. true) (quasi_in part)

abbrev pub is_raw : Syntax → Bool
is_raw part = of_item true (λ q. is_same_text q.0 q.1) (quasi_in part)

-- As `are_raw`: the quasis up to the first part that is none are cooked as they are written.
abbrev pub are_raw_among : Pieces → Bool
are_raw_among End = true
are_raw_among (Then part parts) = not (is_quasi part) || (is_raw part && are_raw_among parts)
