-- Two rules together: a node passes if it passes the test of each, in the context of that rule.
use Rattle.std.specs.Prelude.{ℕ, Bool, ◌&&◌}
use Rattle.rl_syntax.specs.Syntax.{Pieces}
use Rattle.rl_syntax.specs.declared.word.Word.{Word}

-- The tests `first` and `second`, each in its own context of the two.
abbrev pub both_pass : {A B : Type 0} → (first : A → Word → Pieces → Bool) → (second : B → Word → Pieces → Bool) → A × B → Word → Pieces → Bool
both_pass first second above w parts = first above.0 w parts && second above.1 w parts

-- The two contexts of the part at an index.
abbrev pub both_below : {A B : Type 0} → (first : A → Word → ℕ → A) → (second : B → Word → ℕ → B) → A × B → Word → (index : ℕ) → A × B
both_below first second above w index = (first above.0 w index, second above.1 w index)
