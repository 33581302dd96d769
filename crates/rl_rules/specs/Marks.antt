-- Rule B1: one function is marked, and it has a body.
use Rattle.std.specs.Prelude.{if◌then◌else◌, List, [], ◌∷◌, ◌++◌, Bool, true, false, not, ◌&&◌}
use Rattle.rl_syntax.specs.Forms.{is_absent}
use Rattle.rl_syntax.specs.Syntax.{Syntax, Node, Listed, Said, Count, Flag, Absent, Pieces, End, Then}
use Rattle.rl_syntax.specs.declared.word.Word.{Word}
use Rattle.rl_syntax.specs.declared.word.Word.TheVariants as word
use Rattle.rl_rules.specs.Pieces.{is_yes, first_is, behind}

-- True of the words of functions.
abbrev pub is_function : Word → Bool
is_function word.Arrow = true
is_function word.Fundecl = true
is_function word.Funexpr = true
is_function _ = false

-- True of a function that is marked: its first part is `y`.
abbrev pub is_marked : Word → Pieces → Bool
is_marked w parts = is_function w && first_is is_yes parts

-- True of a function with a body. A `fundecl` has none if its last part, the sixth, is `-`.
abbrev pub has_body : Word → Pieces → Bool
has_body word.Fundecl parts = not (first_is is_absent (behind (behind (behind (behind (behind parts))))))
has_body _ parts = true

-- For a marked function, the one item that says if it has a body; no item for any other node.
abbrev pub body_of : Word → Pieces → List Bool
body_of w parts = if is_marked w parts then has_body w parts ∷ [] else []

abbrev mutual
  -- For each marked function of a tree, in the order of the nodes: true if it has a body.
  pub bodies : Syntax → List Bool
  bodies (Node at w parts) = body_of w parts ++ bodies_among parts
  bodies (Listed parts) = bodies_among parts
  bodies (Said text) = []
  bodies (Count number) = []
  bodies (Flag flag) = []
  bodies Absent = []

  -- As `bodies`, for parts in a row.
  pub bodies_among : Pieces → List Bool
  bodies_among End = []
  bodies_among (Then piece pieces) = bodies piece ++ bodies_among pieces

-- True of a list of one item, `true`.
abbrev pub is_one_true : List Bool → Bool
is_one_true [] = false
is_one_true (body ∷ []) = body
is_one_true (body ∷ next ∷ bodies) = false

-- Rule B1 of a tree.
abbrev pub keeps_mark : Syntax → Bool
keeps_mark unit = is_one_true (bodies unit)
