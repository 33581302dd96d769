-- Context identifiers: the symbols that a function shares with its inner functions. `b` are the names of the unit.
use Rattle.std.specs.Prelude.{ℕ, Bool, false, not, ◌&&◌, ◌||◌, if◌then◌else◌, nat_eq, nat_le, nat_lt, Option, Some, None, slice_get, List}
use Rattle.std.specs.BTreeSet.{BTreeSet, contains_by}
use Rattle.std.specs.List.{list_any}
use Rattle.std.specs.Ordering.{nat_cmp}
use Rattle.rl_base.specs.declared.ids.NodeId.{NodeId}
use Rattle.rl_base.specs.declared.ids.SymbolId.{SymbolId}
use Rattle.rl_bindings.specs.declared.bindings.Bindings.{Bindings}
use Rattle.rl_context.specs.declared.site.NodeRange.{NodeRange}
use Rattle.rl_context.specs.declared.site.ReferenceSite.{ReferenceSite}
use Rattle.rl_context.specs.declared.site.Site.{Site}
use Rattle.rl_context.specs.declared.site.Site.TheVariants as site
use Rattle.rl_resolver.specs.Lookups.{symbol_of_reference, symbol_scope}
use Rattle.rl_semantic.specs.Items.{of_item}

-- The symbol that a reference resolves to.
abbrev pub symbol_of : Bindings → ReferenceSite → Option SymbolId
symbol_of b r = symbol_of_reference b.references r.reference.0

-- The node that makes the scope of a symbol. The unit's node for a scope that the unit does not have.
abbrev pub scope_node : Bindings → (symbol : ℕ) → NodeId
scope_node b symbol = of_item (record { 0 = 0 }) (λ s. s.node) (slice_get b.scopes (symbol_scope b.symbols symbol).0)

-- True of a node in the range.
abbrev pub holds : NodeRange → NodeId → Bool
holds range node = nat_le range.start.0 node.0 && nat_lt node.0 range.end.0

-- True in an inner function that does not declare the symbol: the node that makes the symbol's scope is not in it. `innermost`
-- are the nodes of the function that a site stands in. Where it declares the symbol, so do those around it, since they hold its
-- nodes too.
abbrev pub is_outside : Bindings → (innermost : Option NodeRange) → SymbolId → Bool
is_outside b None symbol = false
is_outside b (Some range) symbol = not (holds range (scope_node b symbol.0))

-- A symbol that passes the test.
abbrev pub symbol_if : (test : SymbolId → Bool) → Option SymbolId → Option SymbolId
symbol_if test None = None
symbol_if test (Some symbol) = if test symbol then Some symbol else None

-- The symbol that a site assigns.
abbrev pub assigned_at : Bindings → Site → Option SymbolId
assigned_at b (site.Reference r) = if r.assigned then symbol_of b r else None
assigned_at b _ = None

-- The symbol that a site names in an inner function that does not declare it.
abbrev pub captured_at : Bindings → Site → Option SymbolId
captured_at b (site.Reference r) = symbol_if (is_outside b r.function) (symbol_of b r)
captured_at b _ = None

abbrev pub is_symbol : (symbol : ℕ) → Option SymbolId → Bool
is_symbol symbol None = false
is_symbol symbol (Some found) = nat_eq found.0 symbol

abbrev pub assigns : Bindings → (symbol : ℕ) → Site → Bool
assigns b symbol s = is_symbol symbol (assigned_at b s)

abbrev pub captures : Bindings → (symbol : ℕ) → Site → Bool
captures b symbol s = is_symbol symbol (captured_at b s)

-- True of a context identifier of a function with the sites `ss`: an inner function assigns the symbol, or something assigns it
-- and an inner function names it. An inner function that declares the symbol itself does not count.
abbrev pub is_context : Bindings → (ss : List Site) → (symbol : ℕ) → Bool
is_context b ss symbol = list_any (λ s. assigns b symbol s && captures b symbol s) ss || (list_any (assigns b symbol) ss && list_any (captures b symbol) ss)

-- True of a symbol in a set.
abbrev pub has : BTreeSet SymbolId → SymbolId → Bool
has symbols symbol = contains_by (λ s. nat_cmp symbol.0 s.0) symbols
