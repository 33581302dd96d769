-- The nodes of a tree as a list, by their ids.
use Rattle.std.specs.Prelude.{Option, Some, None, List, [], ◌∷◌, ◌++◌}
use Rattle.rl_base.specs.declared.ids.NodeId.{NodeId}
use Rattle.rl_syntax.specs.Syntax.{Syntax, Node, Listed, Said, Count, Flag, Absent, Pieces, End, Then}
use Rattle.rl_syntax.specs.declared.nodes.NodeEntry.{NodeEntry}

abbrev mutual
  -- The nodes of a tree in the order in which they open, if its outermost nodes have the parent `parent`.
  pub entries_under : (parent : Option NodeId) → Syntax → List NodeEntry
  entries_under parent (Node at word parts) = record { word = word; parent = parent; at = at } ∷ entries_among (Some at.id) parts
  entries_under parent (Listed parts) = entries_among parent parts
  entries_under parent (Said text) = []
  entries_under parent (Count number) = []
  entries_under parent (Flag flag) = []
  entries_under parent Absent = []

  -- As `entries_under`, for parts in a row.
  pub entries_among : (parent : Option NodeId) → Pieces → List NodeEntry
  entries_among parent End = []
  entries_among parent (Then piece pieces) = entries_under parent piece ++ entries_among parent pieces

-- The nodes of a whole tree.
abbrev pub entries : Syntax → List NodeEntry
entries tree = entries_under None tree
