-- Reading of a tree, of parts and of a word: `shown` gives the tree of a value, and `fits` holds of the values that can be read.
use Rattle.std.specs.Prelude.{◌≡◌, ℕ, ◌≤◌, List}
use Rattle.rl_text.specs.Notation.{Tree, Parts, height}
pub use Rattle.rl_trace_text.specs.Narrow.{IsNarrow}
use Rattle.rl_trace_text.specs.RunWords.{IsWordOf}

-- The tree is that of the value, which can be read.
pub record IsShown {X : Type 0} (shown : X → Tree) (fits : X → Type 0) (tree : Tree) (value : X) : Type 0 where
  pub same : shown value ≡ tree
  pub fitting : fits value

-- The tree is that of no value that can be read.
abbrev pub NoneIsShown : {X : Type 0} → (shown : X → Tree) → (fits : X → Type 0) → (tree : Tree) → Type 0
NoneIsShown {X} shown fits tree = (value : X) → fits value → shown value ≡ tree → ⊥

-- The parts are those of the values, which can be read.
pub record AreShown {X : Type 0} (row : X → Parts) (fits : X → Type 0) (parts : Parts) (values : X) : Type 0 where
  pub same : row values ≡ parts
  pub fitting : fits values

-- The parts are those of no values that can be read.
abbrev pub NoneAreShown : {X : Type 0} → (row : X → Parts) → (fits : X → Type 0) → (parts : Parts) → Type 0
NoneAreShown {X} row fits parts = (values : X) → fits values → row values ≡ parts → ⊥

-- Any value can be read.
abbrev pub Always : {X : Type 0} → X → Type 0
Always value = Unit {0}

-- The word spells the tree of no value that can be read and whose tree has at most `depth` nodes and lists open at once.
abbrev pub NoWordOf : {X : Type 0} → (shown : X → Tree) → (fits : X → Type 0) → (depth : ℕ) → (word : List ℕ) → Type 0
NoWordOf {X} shown fits depth word = (value : X) → height (shown value) ≤ depth → IsWordOf shown fits word value → ⊥
