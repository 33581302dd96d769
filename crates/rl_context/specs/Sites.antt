-- The sites of a function, in the order of its nodes: its references, its declarations, and the wrapped targets of its
-- assignments. Classes in it hold none.
use Rattle.std.specs.Prelude.{ℕ, ◌+◌, Bool, true, false, if◌then◌else◌, List, [], ◌∷◌, ◌++◌}
use Rattle.rl_base.specs.declared.span.Span.{Span}
use Rattle.rl_context.specs.Roles.{role_of, below, top}
use Rattle.rl_context.specs.declared.role.Above.{Above}
use Rattle.rl_context.specs.declared.role.Role.{Role}
use Rattle.rl_context.specs.declared.role.Role.TheVariants as role
use Rattle.rl_context.specs.declared.role.Target.{Target}
use Rattle.rl_context.specs.declared.role.Target.TheVariants as target
use Rattle.rl_context.specs.declared.site.IdentEntry.{IdentEntry}
use Rattle.rl_context.specs.declared.site.ReferenceSite.{ReferenceSite}
use Rattle.rl_context.specs.declared.site.Site.{Site}
use Rattle.rl_context.specs.declared.site.Site.TheVariants as site
use Rattle.rl_context.specs.declared.site.Wrapper.{Wrapper}
use Rattle.rl_syntax.specs.Syntax.{Syntax, Node, Listed, Said, Count, Flag, Absent, Pieces, End, Then}
use Rattle.rl_syntax.specs.declared.numbered.At.{At}
use Rattle.rl_syntax.specs.declared.word.Word.{Word}

abbrev pub is_assigned : Target → Bool
is_assigned target.Nothing = false
is_assigned (target.Assignment assignment) = true
is_assigned target.Update = true

-- The entry of an `id` node in the index.
abbrev pub entry_of : Above → At → IdentEntry
entry_of a at = record { span = at.span; in_type_annotation = a.in_type; opening_element_span = a.opening }

-- The reference that an `id` node is.
abbrev pub reference_of : Above → At → ReferenceSite
reference_of a at = record { reference = at.reference; entry = entry_of a at; function = a.function; assigned = is_assigned a.target }

-- A wrapper is a site if it is a target of an `assign`.
abbrev pub wrapped_site : Target → Span → Wrapper → List Site
wrapped_site (target.Assignment assignment) span wrapper = site.Wrapped (record { assignment = assignment; wrapper = wrapper; span = span }) ∷ []
wrapped_site _ span wrapper = []

-- The site that a node itself is. None at most nodes.
abbrev pub site_of : Role → Above → At → List Site
site_of role.Reference a at = site.Reference (reference_of a at) ∷ []
site_of role.Declaration a at = site.Declaration at.id ∷ []
site_of (role.Wrapper wrapper) a at = wrapped_site a.target at.span wrapper
site_of role.Class a at = []
site_of role.Plain a at = []

abbrev pub is_class : Role → Bool
is_class role.Class = true
is_class _ = false

abbrev mutual
  -- The sites of a tree, by what stands above it. A class has none.
  pub sites : Above → Syntax → List Site
  sites a (Node at w parts) = if is_class (role_of w) then [] else site_of (role_of w) a at ++ sites_from a at w 0 parts
  sites a (Listed items) = sites_among a items
  sites a (Said text) = []
  sites a (Count number) = []
  sites a (Flag flag) = []
  sites a Absent = []

  -- The sites of parts of a node of the word `w`, the first of them at `index`.
  pub sites_from : Above → At → Word → (index : ℕ) → Pieces → List Site
  sites_from a at w index End = []
  sites_from a at w index (Then piece pieces) = sites (below a at w index) piece ++ sites_from a at w (index + 1) pieces

  -- The sites of trees in a row that have the same above them.
  pub sites_among : Above → Pieces → List Site
  sites_among a End = []
  sites_among a (Then piece pieces) = sites a piece ++ sites_among a pieces

-- The sites of a function: those of its name, its parameters and its body.
abbrev pub sites_in : (function : Syntax) → List Site
sites_in (Node at w parts) = sites_among top parts
sites_in _ = []
