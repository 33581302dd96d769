-- The marked functions of a tree.
use Rattle.std.specs.Prelude.{Bool, true, false, if◌then◌else◌, Option, Some, None, List, [], ◌∷◌, ◌++◌}
use Rattle.rl_syntax.specs.Syntax.{Syntax, Node, Listed, Said, Count, Flag, Absent, Pieces, End, Then}
use Rattle.rl_syntax.specs.declared.word.Word.{Word}
use Rattle.rl_syntax.specs.declared.word.Word.TheVariants as word

-- True of a function whose first part, the flag that marks it, is `y`.
abbrev pub is_marked : Word → Pieces → Bool
is_marked word.Arrow (Then (Flag true) parts) = true
is_marked word.Fundecl (Then (Flag true) parts) = true
is_marked word.Funexpr (Then (Flag true) parts) = true
is_marked _ _ = false

abbrev mutual
  -- The marked functions of a tree, in the order of their nodes.
  pub marked_functions : Syntax → List Syntax
  marked_functions (Node at w parts) = (if is_marked w parts then Node at w parts ∷ [] else []) ++ marked_among parts
  marked_functions (Listed parts) = marked_among parts
  marked_functions (Said text) = []
  marked_functions (Count number) = []
  marked_functions (Flag flag) = []
  marked_functions Absent = []

  -- As `marked_functions`, for parts in a row.
  pub marked_among : Pieces → List Syntax
  marked_among End = []
  marked_among (Then piece pieces) = marked_functions piece ++ marked_among pieces

-- The first item of a list.
abbrev pub first : {X : Type 0} → List X → Option X
first [] = None
first (x ∷ xs) = Some x
