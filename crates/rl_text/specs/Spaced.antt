-- Parts of a tree in a row, without the brackets around them.
use Rattle.std.specs.Prelude.{ℕ, Bool, true, false, Option, Some, None, List, [], ◌∷◌, ◌++◌, codes}
use Rattle.rl_base.specs.declared.span.Span.{Span}
use Rattle.rl_text.specs.Notation.{Tree, Node, Count, Absent, Parts, End, Then, spelling}

-- Each part behind a space.
abbrev pub spaced : Parts → List ℕ
spaced End = []
spaced (Then first rest) = 32 ∷ (spelling first ++ spaced rest)

-- The bytes in front of a part: a space, or none in front of the first of a list.
abbrev pub gap : (apart : Bool) → List ℕ
gap true = 32 ∷ []
gap false = []

-- Parts with a space between, and one in front if `apart`.
abbrev pub separated : (apart : Bool) → Parts → List ℕ
separated apart End = []
separated apart (Then first rest) = gap apart ++ (spelling first ++ spaced rest)

-- The parts of one row, and then those of another.
abbrev pub join : Parts → Parts → Parts
join End more = more
join (Then first rest) more = Then first (join rest more)

-- The tree of an optional item; the sign of absence for `None`.
abbrev pub optional : {X : Type 0} → (X → Tree) → Option X → Tree
optional tree None = Absent
optional tree (Some item) = tree item

-- `(at START END)`
abbrev pub span : Span → Tree
span s = Node (codes "at") (Then (Count s.start) (Then (Count s.end) End))
