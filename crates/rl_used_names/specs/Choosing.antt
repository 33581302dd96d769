-- The first free candidate of a name, and the symbol that gets it.
use Rattle.std.specs.Prelude.{◌≡◌, ℕ, zero, suc, ◌+◌, ◌<◌, Bool, true, false, nat_eq, if◌then◌else◌, List, [], ◌∷◌, length}
use Rattle.std.specs.Option.{option_map_or}
use Rattle.std.specs.Str.{bytes_eq}
use Rattle.rl_used_names.specs.UsedName.{UsedName, user_of, candidate}

-- The entries with `name` given to `symbol`: in the entry that the name has, or in a new one at the end.
abbrev pub with_user : List UsedName → List ℕ → ℕ → List UsedName
with_user [] name symbol = record { name = name; symbol = symbol } ∷ []
with_user (u ∷ used) name symbol = if bytes_eq name u.name then record u { symbol = symbol } ∷ used else u ∷ with_user used name symbol

-- True if no symbol but `symbol` has the name.
abbrev pub is_free : List UsedName → ℕ → List ℕ → Bool
is_free used symbol name = option_map_or (λ user. nat_eq user symbol) (user_of used name) true

abbrev pub IsFree : List UsedName → ℕ → List ℕ → Type 0
IsFree used symbol name = is_free used symbol name ≡ true

-- `place_from used symbol name index count`: of the `count` candidates from `index` on, the index of the first that is
-- free; where none is, `index + count`.
abbrev pub place_from : List UsedName → ℕ → List ℕ → ℕ → ℕ → ℕ
place_from used symbol name place zero = place
place_from used symbol name place (suc more) = if is_free used symbol (candidate name place) then place else place_from used symbol name (place + 1) more

-- The index of the first free candidate. Of one candidate more than there are used names, one is free.
abbrev pub free_place : List UsedName → ℕ → List ℕ → ℕ
free_place used symbol name = place_from used symbol name 0 (length used)

-- The first free candidate.
unfoldable pub chosen : List UsedName → ℕ → List ℕ → List ℕ
chosen used symbol name = candidate name (free_place used symbol name)

-- No candidate before the index is free.
abbrev pub AllTaken : List UsedName → ℕ → List ℕ → ℕ → Type 0
AllTaken used symbol name place = (before : ℕ) → before < place → is_free used symbol (candidate name before) ≡ false

-- The candidate at the index is free, and none before it is.
pub record IsFirstFree (used : List UsedName) (symbol : ℕ) (name : List ℕ) (place : ℕ) : Type 0 where
  pub free : IsFree used symbol (candidate name place)
  pub taken : AllTaken used symbol name place
