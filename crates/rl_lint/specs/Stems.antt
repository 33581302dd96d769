-- Names less what makes them unique.
use Rattle.std.specs.Prelude.{ℕ, nat_eq, Bool, true, false, ◌&&◌, not, if◌then◌else◌, List, [], ◌∷◌}
use Rattle.std.specs.Char.{is_digit}
use Rattle.std.specs.List.{list_all}

abbrev pub is_none : List ℕ → Bool
is_none [] = true
is_none (c ∷ cs) = false

-- True of `_` and digits behind it, at least one.
unfoldable pub is_ending : List ℕ → Bool
is_ending [] = false
is_ending (c ∷ cs) = nat_eq c 95 && not (is_none cs) && list_all (λ digit. is_digit digit 10) cs

-- A name less an ending `_` and digits; a name without such an ending as it is.
unfoldable pub stem : (name : List ℕ) → List ℕ
stem [] = []
stem (c ∷ cs) = if is_ending (c ∷ cs) then [] else c ∷ stem cs
