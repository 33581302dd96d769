-- The search for a free name, which goes on from the end of the last search for that name.
use Rattle.std.specs.Prelude.{◌≡◌, ℕ, suc, ◌<◌, Bool, true, Option, Some, is_some, List, get_or, slice_get}
use Rattle.std.specs.Option.{option_map}
use Rattle.rl_base.specs.declared.ids.SymbolId.{SymbolId}
use Rattle.rl_hir.specs.Symbols.{has}
use Rattle.rl_used_names.specs.UsedName.{UsedName, user_of, candidate}

-- True if a symbol has the name.
abbrev pub is_used : List UsedName → List ℕ → Bool
is_used used name = is_some (user_of used name)

-- The name of the entry at an index.
abbrev pub name_at : List UsedName → ℕ → Option (List ℕ)
name_at used entry = option_map (λ u. u.name) (slice_get used entry)

-- The entry at the index has a name, and the candidate of that name that ends in `number` is used.
pub record IsTried (used : List UsedName) (entry number : ℕ) : Type 0 where
  pub name : List ℕ
  pub named : name_at used entry ≡ Some name
  pub taken : is_used used (candidate name (suc number)) ≡ true

-- `numbers` has for the index of an entry a number, 0 past the end: the candidates of the entry's name that end in smaller numbers
-- are used. `owners` has each symbol that has a name.
pub record IsSearched (used : List UsedName) (numbers : List ℕ) (owners : List SymbolId) : Type 0 where
  pub tried : (entry number : ℕ) → number < get_or numbers entry 0 → IsTried used entry number
  pub owned : (name : List ℕ) (symbol : ℕ) → user_of used name ≡ Some symbol → has owners (record { 0 = symbol }) ≡ true

-- Numbers that were right stay right, as names and owners are added.
abbrev pub KeepsSearched : (used : List UsedName) (owners : List SymbolId) (more : List UsedName) (more_owners : List SymbolId) → Type 0
KeepsSearched used owners more more_owners = (numbers : List ℕ) → IsSearched used numbers owners → IsSearched more numbers more_owners

-- `entries` has for the index of each entry of `child` the index of the entry of the same name.
abbrev pub AreEntries : (used : List UsedName) (entries : List ℕ) (child : List UsedName) → Type 0
AreEntries used entries child = (i entry : ℕ) (name : List ℕ) → slice_get entries i ≡ Some entry → name_at child i ≡ Some name → name_at used entry ≡ Some name

-- The candidates of the entries that end in numbers below those of `child` are used too.
abbrev pub AreTried : (used : List UsedName) (entries child : List ℕ) → Type 0
AreTried used entries child = (i entry number : ℕ) → slice_get entries i ≡ Some entry → number < get_or child i 0 → IsTried used entry number

-- Numbers that were right stay right, if those of `child` are right of the entries too.
abbrev pub KeepsTried : (old new entries child : List ℕ) → Type 0
KeepsTried old new entries child = (used : List UsedName) (owners : List SymbolId) → AreTried used entries child → IsSearched used old owners → IsSearched used new owners
