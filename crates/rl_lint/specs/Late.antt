-- Late declarations at the ends of paths.
use Rattle.std.specs.Prelude.{ℕ, ◌+◌, Bool, true, false, ◌&&◌, ◌||◌, List}
use Rattle.rl_lint.specs.Roles.{item_place, place_below, role_of}
use Rattle.rl_lint.specs.declared.role.Place.{Place}
use Rattle.rl_lint.specs.declared.role.Place.TheVariants as place
use Rattle.rl_lint.specs.declared.role.Role.{Role}
use Rattle.rl_lint.specs.declared.role.Role.TheVariants as role
use Rattle.rl_lint_hints.specs.Hints.{is_on_path}
use Rattle.rl_syntax.specs.Syntax.{Syntax, Node, Listed, Said, Count, Flag, Absent, Pieces, End, Then}
use Rattle.rl_syntax.specs.declared.numbered.At.{At}

-- True of the place of a pattern in a late declaration.
abbrev pub is_late : Place → Bool
is_late (place.Late first statement) = true
is_late _ = false

-- True of a `bind` node of a late declaration, by its place.
abbrev pub is_late_bind : Role → Place → Bool
is_late_bind role.Bind p = is_late p
is_late_bind _ p = false

abbrev mutual
  -- True of a tree at a place in which a late declaration is on a path, as are all nodes around it in the tree.
  pub has_late : (paths : List Bool) → Place → Syntax → Bool
  has_late paths p (Node at w parts) = is_on_path paths at.id.0
      && (is_late_bind (role_of w parts) p || has_late_from paths p at (role_of w parts) 0 parts)
  has_late paths p (Listed items) = has_late_among paths (item_place p items) items
  has_late paths p (Said text) = false
  has_late paths p (Count number) = false
  has_late paths p (Flag flag) = false
  has_late paths p Absent = false

  -- As `has_late`, of one of the parts of a node of the role `r`, the first of them at `index`.
  pub has_late_from : (paths : List Bool) → Place → At → (r : Role) → (index : ℕ) → Pieces → Bool
  has_late_from paths p at r index End = false
  has_late_from paths p at r index (Then piece pieces) = has_late paths (place_below p at r index) piece
      || has_late_from paths p at r (index + 1) pieces

  -- As `has_late`, of one of the trees in a row that have the same place.
  pub has_late_among : (paths : List Bool) → Place → Pieces → Bool
  has_late_among paths p End = false
  has_late_among paths p (Then piece pieces) = has_late paths p piece || has_late_among paths p pieces
