-- The size of a tree: the measure by which walks over it end.
use Rattle.std.specs.Prelude.{ℕ, ◌+◌}
use Rattle.rl_syntax.specs.Syntax.{Syntax, Node, Listed, Said, Count, Flag, Absent, Pieces, End, Then}

abbrev mutual
  -- The size of a tree's parts, and 1.
  pub size : Syntax → ℕ
  size (Node at word parts) = size_of parts + 1
  size (Listed parts) = size_of parts + 1
  size (Said text) = 1
  size (Count number) = 1
  size (Flag flag) = 1
  size Absent = 1

  -- The sum of the parts' sizes, and 1 for each part.
  pub size_of : Pieces → ℕ
  size_of End = 0
  size_of (Then piece pieces) = size piece + size_of pieces + 1
