-- Values that are spelled by bytes, and the bytes at an offset. `spells value bytes` relates a value and its spellings.
use Rattle.std.specs.Prelude.{◌≡◌, ℕ, ◌+◌, ◌≤◌, ◌<◌, Bool, true, ◌||◌, ◌==◌, List, [], ◌∷◌, ◌++◌, length, drop}
use Rattle.rl_text.specs.Notation.{Tree, Said, Spells}

-- True of the bytes that may follow a spelling: a space, `)` and `]`.
abbrev pub is_end : (byte : ℕ) → Bool
is_end byte = byte == 32 || byte == 41 || byte == 93

-- True if a spelling may end in front of the bytes: a byte of `is_end` comes first, or none.
abbrev pub ends : (rest : List ℕ) → Bool
ends [] = true
ends (byte ∷ rest) = is_end byte

-- A spelling of `value` stands at the offset `at`, up to the offset `next`, where a spelling may end.
pub record StandsAt {X : Type 0} (spells : X → List ℕ → Type 0) (bytes : List ℕ) (at : ℕ) (value : X) (next : ℕ) : Type 0 where
  pub spelling : List ℕ
  pub spelled : spells value spelling
  pub there : drop at bytes ≡ spelling ++ drop next bytes
  pub forward : at < next
  pub within : next ≤ length bytes
  pub ended : ends (drop next bytes) ≡ true

-- The spelling of no value stands at the offset.
abbrev pub NoneStandsAt : {X : Type 0} → (spells : X → List ℕ → Type 0) → (bytes : List ℕ) → (at : ℕ) → Type 0
NoneStandsAt {X} spells bytes at = (value : X) (next : ℕ) → StandsAt spells bytes at value next → ⊥

-- The value has a spelling.
abbrev pub HasSpelling : {X : Type 0} → (spells : X → List ℕ → Type 0) → (value : X) → Type 0
HasSpelling spells value = (spelling : List ℕ) × spells value spelling

-- `new` is `old` and a spelling of the value behind it.
pub record AppendsSpelling {X : Type 0} (spells : X → List ℕ → Type 0) (old new : List ℕ) (value : X) : Type 0 where
  pub spelling : List ℕ
  pub spelled : spells value spelling
  pub appended : new ≡ old ++ spelling

-- Each value has one spelling at most.
abbrev pub HaveOneSpelling : {X : Type 0} → (spells : X → List ℕ → Type 0) → Type 0
HaveOneSpelling {X} spells = (value : X) (s t : List ℕ) → spells value s → spells value t → s ≡ t

-- Different values never begin the same bytes, if a spelling may end in front of the rest of them.
abbrev pub AreApart : {X : Type 0} → (spells : X → List ℕ → Type 0) → Type 0
AreApart {X} spells = (x y : X) (s t u v : List ℕ) → spells x s → spells y t → ends u ≡ true → ends v ≡ true → s ++ u ≡ t ++ v → x ≡ y

-- No spelling is empty, and none begins with the byte.
abbrev pub NeverBegin : {X : Type 0} → (spells : X → List ℕ → Type 0) → (byte : ℕ) → Type 0
NeverBegin {X} spells byte = (value : X) (s u v : List ℕ) → spells value s → s ++ u ≡ byte ∷ v → ⊥

-- The value stands behind `before`, up to `rest`, and no other value stands there.
pub record IsReadBack {X : Type 0} (spells : X → List ℕ → Type 0) (value : X) (before spelling rest : List ℕ) : Type 0 where
  pub stands : StandsAt spells (before ++ (spelling ++ rest)) (length before) value (length before + length spelling)
  pub unique : (other : X) (next : ℕ) → StandsAt spells (before ++ (spelling ++ rest)) (length before) other next
      → (other ≡ value) × (next ≡ length before + length spelling)

-- Each value is read back from its spelling, wherever that stands.
abbrev pub AreReadBack : {X : Type 0} → (spells : X → List ℕ → Type 0) → Type 0
AreReadBack {X} spells = (value : X) (before spelling rest : List ℕ) → spells value spelling → ends rest ≡ true → IsReadBack spells value before spelling rest

-- The bytes are the spelling of the value's tree, and the notation has that tree.
abbrev pub SpelledAs : {X : Type 0} → (tree : X → Tree) → (value : X) → (bytes : List ℕ) → Type 0
SpelledAs tree value bytes = Spells bytes (tree value)

-- The tree of a value that a text of its own writes.
abbrev pub text_tree : {X : Type 0} → (text_of : X → List ℕ) → X → Tree
text_tree text_of value = Said (text_of value)
