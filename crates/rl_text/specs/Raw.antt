-- The plain tree that a `Raw` stands for.
use Rattle.std.specs.Prelude.{List, [], ◌∷◌}
use Rattle.rl_text.specs.Notation.{Tree, Node, Listed, Said, Count, Flag, Absent, Parts, End, Then}
use Rattle.rl_text.specs.declared.raw.Raw.{Raw}
use Rattle.rl_text.specs.declared.raw.Raw.TheOpen as open_raw
use Rattle.rl_text.specs.declared.raw.Raw.TheFolds.{fold-Raw}

-- Trees in a row.
abbrev pub parts_of : List Tree → Parts
parts_of [] = End
parts_of (tree ∷ trees) = Then tree (parts_of trees)

-- A layer of `tree`.
abbrev pub layer : open_raw.Raw-F Tree → Tree
layer (open_raw.Node word parts) = Node word (parts_of parts)
layer (open_raw.List parts) = Listed (parts_of parts)
layer (open_raw.Text text) = Said text
layer (open_raw.Number number) = Count number
layer (open_raw.Flag flag) = Flag flag
layer open_raw.Absent = Absent

unfoldable pub tree : Raw → Tree
tree = fold-Raw Tree layer
