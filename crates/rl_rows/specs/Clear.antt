-- The rows in a part of a function, as a test: true where none applies.
use Rattle.std.specs.Prelude.{ℕ, Bool, true, ◌&&◌, if◌then◌else◌, List, [], ◌∷◌}
use Rattle.rl_model.specs.Applied.{Facts, is_loop, rows_in}
use Rattle.rl_model.specs.Applied.{Above as ModelAbove}
use Rattle.rl_model.specs.Code.{is_function, is_no_code}
use Rattle.rl_model.specs.Supported.{is_none}
use Rattle.rl_row_forms.specs.Aboves.{part, seen, top}
use Rattle.rl_row_forms.specs.Shaped.{said_pair}
use Rattle.rl_row_forms.specs.Wordy.{is_labeled}
use Rattle.rl_row_forms.specs.declared.above.Above.{Above}
use Rattle.rl_row_names.specs.Bodiless.{clear_no_code}
use Rattle.rl_rows.specs.Itself.{clear_itself, clear_place}
use Rattle.rl_rows.specs.Plans.{clear_from, parts_plan}
use Rattle.rl_semantic.specs.Items.{of_item}
use Rattle.rl_syntax.specs.Syntax.{Syntax, Pieces, End, Then}
use Rattle.rl_syntax.specs.declared.numbered.At.{At}
use Rattle.rl_syntax.specs.declared.word.Word.{Word}

-- Trees in a row.
abbrev pub clear_among : Facts → ModelAbove → Pieces → Bool
clear_among f a End = true
clear_among f a (Then piece pieces) = is_none (rows_in f a piece) && clear_among f a pieces

-- The statement behind a label.
abbrev pub clear_inner : Facts → Above → (labels : List (List ℕ × Bool)) → (label : List ℕ) → (body : Syntax) → Bool
clear_inner f a labels label body = is_none (rows_in f (seen (part a) ((label, is_loop body) ∷ labels)) body)

-- The parts of a statement with a label.
abbrev pub clear_labeled : Facts → Above → (labels : List (List ℕ × Bool)) → Pieces → Bool
clear_labeled f a labels parts =
    of_item (clear_among f (seen (part a) labels) parts) (λ p. clear_inner f a labels p.0 p.1) (said_pair parts)

-- The parts of a function.
abbrev pub clear_function : Facts → Pieces → Bool
clear_function f parts = clear_among f (seen top []) parts

-- The parts of a node that is code.
abbrev pub clear_below : Facts → Above → (labels : List (List ℕ × Bool)) → Word → Pieces → Bool
clear_below f a labels w parts =
    if is_function w then clear_function f parts
    else if is_labeled w then clear_labeled f a labels parts else clear_from f labels (parts_plan a w parts) parts

-- The parts of a node.
abbrev pub clear_inside : Facts → Above → (labels : List (List ℕ × Bool)) → Word → Pieces → Bool
clear_inside f a labels w parts = if is_no_code w parts then clear_no_code f w parts else clear_below f a labels w parts

-- A node and its parts.
abbrev pub clear_node : Facts → Above → (labels : List (List ℕ × Bool)) → At → Word → Pieces → Bool
clear_node f a labels at w parts = clear_itself f a labels at w parts && (clear_place f a at w parts && clear_inside f a labels w parts)
