-- The nodes that the rules on names look at, in the order of the text.
use Rattle.std.specs.Prelude.{ℕ, ◌+◌, if◌then◌else◌, List, [], ◌∷◌, ◌++◌}
use Rattle.rl_lint.specs.Roles.{role_of, below, listed, top}
use Rattle.rl_lint.specs.declared.role.Above.{Above}
use Rattle.rl_lint.specs.declared.role.Place.{Place}
use Rattle.rl_lint.specs.declared.role.Place.TheVariants as place
use Rattle.rl_lint.specs.declared.role.Role.{Role}
use Rattle.rl_lint.specs.declared.role.Role.TheVariants as role
use Rattle.rl_lint.specs.declared.site.Site.{Site}
use Rattle.rl_lint.specs.declared.site.Site.TheVariants as site
use Rattle.rl_syntax.specs.Syntax.{Syntax, Node, Listed, Said, Count, Flag, Absent, Pieces, End, Then}
use Rattle.rl_syntax.specs.declared.numbered.At.{At}

-- A use of a name, unless it stands in a type.
abbrev pub use_site : Above → At → List Site
use_site a at = if a.in_type then [] else site.Use (record { at = at; function = a.function }) ∷ []

-- The site that a `bind` node is, by its place.
abbrev pub bind_site : Place → Above → At → List Site
bind_site (place.Late first statement) a at = site.Late
    (record { bind = at.id; first = first; statement = statement; function = a.function }) ∷ []
bind_site (place.Name scope) a at = site.Named (record { bind = at; scope = scope }) ∷ []
bind_site _ a at = []

-- The site that a node itself is. None at most nodes.
abbrev pub site_of : Role → Above → At → List Site
site_of role.Use a at = use_site a at
site_of role.Bind a at = bind_site a.place a at
site_of _ a at = []

abbrev mutual
  -- The sites of a tree, by what stands above it.
  pub sites : Above → Syntax → List Site
  sites a (Node at w parts) = site_of (role_of w parts) a at ++ sites_from a at (role_of w parts) 0 parts
  sites a (Listed items) = sites_among (listed a items) items
  sites a (Said text) = []
  sites a (Count number) = []
  sites a (Flag flag) = []
  sites a Absent = []

  -- The sites of parts of a node of the role `r`, the first of them at `index`.
  pub sites_from : Above → At → (r : Role) → (index : ℕ) → Pieces → List Site
  sites_from a at r index End = []
  sites_from a at r index (Then piece pieces) = sites (below a at r index) piece ++ sites_from a at r (index + 1) pieces

  -- The sites of trees in a row that have the same above them.
  pub sites_among : Above → Pieces → List Site
  sites_among a End = []
  sites_among a (Then piece pieces) = sites a piece ++ sites_among a pieces

-- The sites of a unit.
abbrev pub sites_in : Syntax → List Site
sites_in tree = sites top tree
