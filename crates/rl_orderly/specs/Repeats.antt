-- Numbers that stand in a list more than once, and the variables that defaults name.
use Rattle.std.specs.Prelude.{ℕ, nat_eq, Bool, true, false, ◌||◌, ◌&&◌, not, if◌then◌else◌, List, [], ◌∷◌}
use Rattle.std.specs.BTreeSet.{BTreeSet, contains_by}
use Rattle.std.specs.Ordering.{nat_cmp}
use Rattle.rl_model.specs.Code.{contains}
use Rattle.rl_model.specs.Orderly.{used_in}
use Rattle.rl_names.specs.Names.{Names}
use Rattle.rl_syntax.specs.Syntax.{Syntax}

-- True of a number that stands in a list more than once; `once` and `twice` tell whether it stands before it, and more than once.
abbrev pub repeats : (once twice : Bool) → (number : ℕ) → List ℕ → Bool
repeats once twice number [] = twice
repeats once twice number (x ∷ xs) = if nat_eq number x then repeats true (twice || once) number xs else repeats once twice number xs

abbrev pub is_none : List ℕ → Bool
is_none [] = true
is_none (x ∷ xs) = false

-- A symbol that is not open, used or repeated.
abbrev pub is_alone : (opens used : List ℕ) → (twice : BTreeSet ℕ) → (symbol : ℕ) → Bool
is_alone opens used twice symbol = not (contains opens symbol) && not (contains used symbol) && not (contains_by (nat_cmp symbol) twice)

-- The variables that an expression names, outside its inner functions.
unfoldable pub used_here : Names → (expression : Syntax) → List ℕ
used_here names expression = used_in names expression
