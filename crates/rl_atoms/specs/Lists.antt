-- Options and lists of values that are spelled by bytes: `spells` relates a value and its spellings.
use Rattle.std.specs.Prelude.{◌≡◌, ℕ, ◌≤◌, ◌<◌, Bool, true, false, Option, None, Some, List, [], ◌∷◌, ◌++◌, length, drop}
use Rattle.rl_text.specs.Spaced.{gap}

-- The bytes are `-` for `None`, or the spelling of a value.
abbrev pub SpellsOption : {X : Type 0} → (spells : X → List ℕ → Type 0) → Option X → (bytes : List ℕ) → Type 0
SpellsOption spells None bytes = bytes ≡ 45 ∷ []
SpellsOption spells (Some value) bytes = spells value bytes

-- The bytes are spellings of the values, in order, with a space between, and one in front of the first if `apart`.
abbrev pub SpellsRow : {X : Type 0} → (spells : X → List ℕ → Type 0) → (apart : Bool) → List X → (bytes : List ℕ) → Type 0
SpellsRow spells apart [] bytes = bytes ≡ []
SpellsRow spells apart (value ∷ values) bytes =
    (first : List ℕ) × (rest : List ℕ) × spells value first × SpellsRow spells true values rest × (bytes ≡ gap apart ++ (first ++ rest))

-- The bytes are `[`, spellings of the values with a space between, and `]`.
abbrev pub SpellsList : {X : Type 0} → (spells : X → List ℕ → Type 0) → List X → (bytes : List ℕ) → Type 0
SpellsList spells values bytes = (row : List ℕ) × SpellsRow spells false values row × (bytes ≡ 91 ∷ (row ++ 93 ∷ []))

-- `new` is `old` and values whose row stands at the offset `at`, with `]` behind it, up to the offset `next`.
pub record AddsRow {X : Type 0} (spells : X → List ℕ → Type 0) (apart : Bool) (bytes : List ℕ) (at next : ℕ) (old new : List X) : Type 0 where
  pub more : List X
  pub row : List ℕ
  pub added : new ≡ old ++ more
  pub spelled : SpellsRow spells apart more row
  pub there : drop at bytes ≡ row ++ 93 ∷ drop next bytes
  pub forward : at < next
  pub within : next ≤ length bytes

-- No row of values with `]` behind it stands at the offset.
abbrev pub NoRow : {X : Type 0} → (spells : X → List ℕ → Type 0) → (apart : Bool) → (bytes : List ℕ) → (at : ℕ) → Type 0
NoRow {X} spells apart bytes at = (values : List X) (row rest : List ℕ) → SpellsRow spells apart values row → drop at bytes ≡ row ++ 93 ∷ rest → ⊥
