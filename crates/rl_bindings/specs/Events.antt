-- The events of a tree's nodes, in the order of the text: which scopes begin and end, which names are declared and used.
use Rattle.std.specs.Prelude.{ℕ, zero, suc, List, [], ◌∷◌, ◌++◌}
use Rattle.rl_bindings.specs.Names.{name_of}
use Rattle.rl_bindings.specs.Roles.{role_of, parts_ahead, scope_kind, parent_of, scope_of, outside, below}
use Rattle.rl_bindings.specs.declared.event.BindKind.TheVariants as kind
use Rattle.rl_bindings.specs.declared.event.Bound.{Bound}
use Rattle.rl_bindings.specs.declared.event.Event.{Event}
use Rattle.rl_bindings.specs.declared.event.Event.TheVariants as event
use Rattle.rl_bindings.specs.declared.event.Place.TheVariants as place
use Rattle.rl_bindings.specs.declared.event.ScopeEntry.{ScopeEntry}
use Rattle.rl_bindings.specs.declared.names.Name.{Name}
use Rattle.rl_bindings.specs.declared.role.Above.{Above}
use Rattle.rl_bindings.specs.declared.role.Role.{Role}
use Rattle.rl_bindings.specs.declared.role.Role.TheVariants as role
use Rattle.rl_syntax.specs.Syntax.{Syntax, Node, Listed, Said, Count, Flag, Absent, Pieces, End, Then}
use Rattle.rl_syntax.specs.declared.numbered.At.{At}
use Rattle.rl_syntax.specs.declared.word.Word.{Word}

-- The scope that a node makes.
abbrev pub entry_of : Above → At → Word → ScopeEntry
entry_of a at word = record { node = at.id; kind = scope_kind word; parent = parent_of a word }

-- The declaration that a `bind` node is.
abbrev pub bound_of : List Name → Above → At → Pieces → Bound
bound_of names a at parts = record { node = at.id; span = at.span; name = name_of names parts; scope = scope_of a; kind = a.kind; place = a.place }

-- A node that makes a scope says so first of all.
abbrev pub sign : Role → Above → At → Word → List Event
sign role.Maker a at word = event.Scope (entry_of a at word) ∷ []
sign _ a at word = []

-- The event of a node before the parts that stand in its scope: its scope begins, or its name is declared or used.
abbrev pub front : List Name → Role → Above → At → Pieces → List Event
front names role.Maker a at parts = event.Open at.scope ∷ []
front names role.Binder a at parts = event.Bind (bound_of names a at parts) ∷ []
front names role.User a at parts = event.Use at.id (name_of names parts) ∷ []
front names role.Plain a at parts = []

-- The event of a node behind its parts: its scope ends.
abbrev pub back : Role → List Event
back role.Maker = event.Close ∷ []
back _ = []

abbrev mutual
  -- The events of a tree, by what stands above it.
  pub events : List Name → Above → Syntax → List Event
  events names a (Node at word parts) = sign (role_of word) a at word ++ (lead names (parts_ahead word) (outside a word) parts ++ (front names (role_of word) a at parts ++ (trail names (parts_ahead word) (below a at word parts) parts ++ back (role_of word))))
  events names a (Listed parts) = trail names 0 a parts
  events names a (Said text) = []
  events names a (Count number) = []
  events names a (Flag flag) = []
  events names a Absent = []

  -- The events of the first `n` of parts in a row.
  pub lead : List Name → (n : ℕ) → Above → Pieces → List Event
  lead names n a End = []
  lead names zero a (Then piece pieces) = []
  lead names (suc n) a (Then piece pieces) = events names a piece ++ lead names n a pieces

  -- The events of parts in a row, the first `n` aside.
  pub trail : List Name → (n : ℕ) → Above → Pieces → List Event
  trail names n a End = []
  trail names zero a (Then piece pieces) = events names a piece ++ trail names zero a pieces
  trail names (suc n) a (Then piece pieces) = trail names n a pieces

-- Nothing stands above a unit.
abbrev pub top : Above
top = record { scope = record { 0 = 0 }; function = record { 0 = 0 }; kind = kind.Var; place = place.Inner }
