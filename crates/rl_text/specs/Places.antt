-- Bytes at an offset.
use Rattle.std.specs.Prelude.{◌≡◌, ℕ, ◌-◌, ◌≤◌, ◌<◌, Bool, true, false, ◌||◌, ◌&&◌, ◌==◌, nat_le, List, [], ◌∷◌, ◌++◌, length, take, drop, map}
use Rattle.std.specs.List.{list_all}
use Rattle.std.specs.Char.{is_ascii_digit}
use Rattle.rl_text.specs.Notation.{Tree, Node, Listed, Said, Count, Flag, Absent, Parts, End, Then, spelling, spelled_on, IsWritable, AreWritable, height, height_of}
use Rattle.rl_text.specs.declared.raw.Raw.{Raw}
use Rattle.rl_text.specs.Raw.{tree, parts_of}

-- True of a small letter.
abbrev pub is_letter : ℕ → Bool
is_letter byte = nat_le 97 byte && nat_le byte 122

-- The test fails at the first byte, if there is one.
abbrev pub StopsAt : (ℕ → Bool) → List ℕ → Type 0
StopsAt test [] = Unit {0}
StopsAt test (byte ∷ bytes) = test byte ≡ false

abbrev pub NoDigit : List ℕ → Type 0
NoDigit bytes = StopsAt is_ascii_digit bytes

-- The bytes from the offset `at` up to `after` pass the test, and the next byte does not.
pub record IsRun (test : ℕ → Bool) (bytes : List ℕ) (at after : ℕ) : Type 0 where
  pub forward : at ≤ after
  pub within : after ≤ length bytes
  pub passed : list_all test (take (after - at) (drop at bytes)) ≡ true
  pub stopped : StopsAt test (drop after bytes)

-- The tree may end in front of `rest`: a number needs that no digit follows, and no other tree needs anything.
abbrev pub Ends : Tree → List ℕ → Type 0
Ends (Node word parts) rest = Unit {0}
Ends (Listed parts) rest = Unit {0}
Ends (Said text) rest = Unit {0}
Ends (Count number) rest = NoDigit rest
Ends (Flag flag) rest = Unit {0}
Ends Absent rest = Unit {0}

-- The bytes begin with the spelling of the tree, whose height is at most `depth`, and go on with `rest`.
pub record Begins (depth : ℕ) (tree : Tree) (bytes rest : List ℕ) : Type 0 where
  pub writable : IsWritable tree
  pub low : height tree ≤ depth
  pub ends : Ends tree rest
  pub spelled : bytes ≡ spelling tree ++ rest

-- No tree of a height of at most `depth` begins the bytes.
abbrev pub NoneBegins : ℕ → List ℕ → Type 0
NoneBegins depth bytes = (tree : Tree) (rest : List ℕ) → Begins depth tree bytes rest → ⊥

-- The byte is `)` or `]`.
abbrev pub IsBracket : ℕ → Type 0
IsBracket close = (close == 41 || close == 93) ≡ true

-- The bytes begin with the parts, each behind a space, and the bracket `close`, and go on with `rest`.
pub record GoesOn (close depth : ℕ) (parts : Parts) (bytes rest : List ℕ) : Type 0 where
  pub writable : AreWritable parts
  pub low : height_of parts ≤ depth
  pub spelled : bytes ≡ spelled_on close parts ++ rest

abbrev pub NoneGoesOn : ℕ → ℕ → List ℕ → Type 0
NoneGoesOn close depth bytes = (parts : Parts) (rest : List ℕ) → GoesOn close depth parts bytes rest → ⊥

-- Parts with a space between them, and one in front if `apart` is true, and then the bracket.
abbrev pub spelled_parts : Bool → ℕ → Parts → List ℕ
spelled_parts true close parts = spelled_on close parts
spelled_parts false close End = close ∷ []
spelled_parts false close (Then part parts) = spelling part ++ spelled_on close parts

-- `new` is `old` followed by the parts that the bytes from `at` up to `after` spell, closing bracket included.
pub record Adds (close depth : ℕ) (bytes : List ℕ) (at after : ℕ) (old new : List Raw) : Type 0 where
  pub more : List Raw
  pub added : new ≡ old ++ more
  pub forward : at < after
  pub within : after ≤ length bytes
  pub there : GoesOn close depth (parts_of (map tree more)) (drop at bytes) (drop after bytes)
