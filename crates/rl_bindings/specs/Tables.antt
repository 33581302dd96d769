-- The tables of a unit's names: its scopes, symbols and references, and the least rule on names that it breaks.
use Rattle.std.specs.Prelude.{ℕ, Option, List, [], ◌∷◌, map}
use Rattle.rl_bindings.specs.Events.{events, top}
use Rattle.rl_bindings.specs.NameRules.{lexical_of, least_of}
use Rattle.rl_bindings.specs.Names.{names_in}
use Rattle.rl_bindings.specs.Standing.{standing, references}
use Rattle.rl_bindings.specs.Symbols.{bounds, is_own, number_at, symbols_of}
use Rattle.rl_bindings.specs.declared.event.Bound.{Bound}
use Rattle.rl_bindings.specs.declared.event.Event.{Event}
use Rattle.rl_bindings.specs.declared.event.Event.TheVariants as event
use Rattle.rl_bindings.specs.declared.event.ScopeEntry.{ScopeEntry}
use Rattle.rl_bindings.specs.declared.resolve.Declaration.{Declaration}
use Rattle.rl_bindings.specs.declared.resolve.Reference.{Reference}
use Rattle.rl_syntax.specs.Syntax.{Syntax}

abbrev pub events_in : Syntax → List Event
events_in tree = events (names_in tree) top tree

-- The scopes among events, in order.
abbrev pub scopes_of : List Event → List ScopeEntry
scopes_of [] = []
scopes_of (event.Scope s ∷ es) = s ∷ scopes_of es
scopes_of (_ ∷ es) = scopes_of es

-- The scopes of a tree, in the order of the nodes that make them. The index of a scope is its `ScopeId`.
abbrev pub scopes_in : Syntax → List ScopeEntry
scopes_in tree = scopes_of (events_in tree)

-- The symbols of a tree. The index of a symbol is its `SymbolId`.
abbrev pub symbols_in : Syntax → List Bound
symbols_in tree = symbols_of (events_in tree)

-- A declaration's node, with the symbol that it declares.
abbrev pub declared_by : (symbols : List Bound) → Bound → Declaration
declared_by symbols b = record { node = b.node; symbol = number_at (is_own b.kind) b.scope.0 b.name symbols }

abbrev pub declarations_of : (symbols : List Bound) → List Event → List Declaration
declarations_of symbols es = map (declared_by symbols) (bounds es)

-- The `bind` nodes of a tree, in order, each with the symbol that it declares.
abbrev pub declarations_in : Syntax → List Declaration
declarations_in tree = declarations_of (symbols_in tree) (events_in tree)

-- The `id` nodes of a tree, in order, each with the symbol that it resolves to. The index of a reference is its `ReferenceId`.
abbrev pub references_in : Syntax → List Reference
references_in tree = references (standing (names_in tree) (symbols_in tree) top [] tree)

-- The least of the rules B2 to B5 that a tree breaks.
abbrev pub least_broken : Syntax → Option ℕ
least_broken tree = least_of (events_in tree) (standing (names_in tree) (lexical_of (events_in tree)) top [] tree)
