-- Bytes that a text holds.
use Rattle.std.specs.Prelude.{◌≡◌, ℕ, Bool, true, not, ◌||◌, ◌==◌, List, [], ◌∷◌, ◌++◌}
use Rattle.std.specs.List.{list_any}
use Rattle.rl_jsx.specs.JsxTexts.{joined_lines}

-- `mark` is one of the bytes.
abbrev pub Holds : (mark : ℕ) → (text : List ℕ) → Type 0
Holds mark text = list_any (λ byte. byte == mark) text ≡ true

-- The text is two texts with `mark` between, which the first does not hold.
abbrev pub IsFirstCut : (mark : ℕ) → (text before behind : List ℕ) → Type 0
IsFirstCut mark text before behind = (text ≡ before ++ mark ∷ behind) × (Holds mark before → ⊥)

-- As `IsFirstCut`, where the second does not hold it.
abbrev pub IsLastCut : (mark : ℕ) → (text before behind : List ℕ) → Type 0
IsLastCut mark text before behind = (text ≡ before ++ mark ∷ behind) × (Holds mark behind → ⊥)

-- If `old` is lines joined, `new` is those and one more joined.
abbrev pub AddsLine : (old new line : List ℕ) → Type 0
AddsLine old new line = (lines : List (List ℕ)) → old ≡ joined_lines lines → new ≡ joined_lines (lines ++ line ∷ [])

-- True of a byte that is neither a carriage return nor a line feed.
abbrev pub is_inside : ℕ → Bool
is_inside byte = not (byte == 13 || byte == 10)
