-- The notation: plain trees, and how each is spelled.
use Rattle.std.specs.Prelude.{◌≡◌, ℕ, ◌+◌, ◌<◌, ◌≤◌, max, Bool, nat_le, ◌&&◌, true, if◌then◌else◌, List, [], ◌∷◌, ◌++◌, length}
use Rattle.std.specs.List.{list_all}
use Rattle.std.specs.Str.{IsUtf8}
use Rattle.rl_text.specs.Quoted.{quoted}
use Rattle.rl_text.specs.Number.{largest, numeral}

mutual
  -- A node with its word and parts, a list, a text, a number, a flag, or the sign of what is absent.
  pub data Tree : Type 0 where
    Node : (word : List ℕ) (parts : Parts) → Tree
    Listed : (parts : Parts) → Tree
    Said : (text : List ℕ) → Tree
    Count : (number : ℕ) → Tree
    Flag : (flag : Bool) → Tree
    Absent : Tree

  pub data Parts : Type 0 where
    End : Parts
    Then : (first : Tree) (rest : Parts) → Parts

abbrev mutual
  -- The text of a tree.
  pub spelling : Tree → List ℕ
  spelling (Node word parts) = 40 ∷ (word ++ spelled_on 41 parts)
  spelling (Listed End) = 91 ∷ 93 ∷ []
  spelling (Listed (Then part parts)) = 91 ∷ (spelling part ++ spelled_on 93 parts)
  spelling (Said text) = quoted text
  spelling (Count number) = numeral number
  spelling (Flag flag) = (if flag then 121 else 110) ∷ []
  spelling Absent = 45 ∷ []

  -- Each part after a space, and then the bracket `close`.
  pub spelled_on : ℕ → Parts → List ℕ
  spelled_on close End = close ∷ []
  spelled_on close (Then part parts) = 32 ∷ (spelling part ++ spelled_on close parts)

-- Words: letters a to z, at least one.
abbrev pub IsWord : List ℕ → Type 0
IsWord word = (0 < length word) × (list_all (λ c. nat_le 97 c && nat_le c 122) word ≡ true)

abbrev mutual
  -- The notation has this tree: words are words, texts are UTF-8, and numbers are at most `largest`.
  pub IsWritable : Tree → Type 0
  IsWritable (Node word parts) = IsWord word × AreWritable parts
  IsWritable (Listed parts) = AreWritable parts
  IsWritable (Said text) = IsUtf8 text
  IsWritable (Count number) = number ≤ largest
  IsWritable (Flag flag) = Unit {0}
  IsWritable Absent = Unit {0}

  pub AreWritable : Parts → Type 0
  AreWritable End = Unit {0}
  AreWritable (Then part parts) = IsWritable part × AreWritable parts

-- The bytes, all of them, spell a tree of the notation.
pub record Spells (bytes : List ℕ) (tree : Tree) : Type 0 where
  pub writable : IsWritable tree
  pub spelled : bytes ≡ spelling tree

abbrev mutual
  -- The largest number of nodes and lists open at once.
  pub height : Tree → ℕ
  height (Node word parts) = height_of parts + 1
  height (Listed parts) = height_of parts + 1
  height (Said text) = 0
  height (Count number) = 0
  height (Flag flag) = 0
  height Absent = 0

  pub height_of : Parts → ℕ
  height_of End = 0
  height_of (Then part parts) = max (height part) (height_of parts)
