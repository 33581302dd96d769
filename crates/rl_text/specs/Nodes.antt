-- The number of nodes of a tree, and the largest number of them open at once. Lists do not count.
use Rattle.std.specs.Prelude.{ℕ, ◌+◌, max}
use Rattle.rl_text.specs.Notation.{Tree, Node, Listed, Said, Count, Flag, Absent, Parts, End, Then}

abbrev mutual
  pub count : Tree → ℕ
  count (Node word parts) = count_of parts + 1
  count (Listed parts) = count_of parts
  count (Said text) = 0
  count (Count number) = 0
  count (Flag flag) = 0
  count Absent = 0

  pub count_of : Parts → ℕ
  count_of End = 0
  count_of (Then part parts) = count part + count_of parts

abbrev mutual
  pub depth : Tree → ℕ
  depth (Node word parts) = depth_of parts + 1
  depth (Listed parts) = depth_of parts
  depth (Said text) = 0
  depth (Count number) = 0
  depth (Flag flag) = 0
  depth Absent = 0

  pub depth_of : Parts → ℕ
  depth_of End = 0
  depth_of (Then part parts) = max (depth part) (depth_of parts)
