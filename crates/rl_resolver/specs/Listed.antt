-- The references of each symbol, the symbols of each scope, the symbol of each first declaration, and the names that no scope
-- binds.
use Rattle.std.specs.Prelude.{ℕ, ◌+◌, Bool, true, false, if◌then◌else◌, Option, None, List, [], ◌∷◌, ◌++◌, length, map}
use Rattle.rl_ast.specs.Marked.{first}
use Rattle.rl_base.specs.declared.ids.NodeId.{NodeId}
use Rattle.rl_base.specs.declared.ids.ReferenceId.{ReferenceId}
use Rattle.rl_base.specs.declared.ids.SymbolId.{SymbolId}
use Rattle.rl_bindings.specs.Names.{number_of}
use Rattle.rl_bindings.specs.Symbols.{binding}
use Rattle.rl_bindings.specs.declared.event.Bound.{Bound}
use Rattle.rl_bindings.specs.declared.event.ScopeEntry.{ScopeEntry}
use Rattle.rl_bindings.specs.declared.names.Name.{Name}
use Rattle.rl_bindings.specs.declared.resolve.Declaration.{Declaration}
use Rattle.rl_bindings.specs.declared.resolve.Reference.{Reference}
use Rattle.rl_semantic.specs.Keyed.{those_below}
use Rattle.rl_resolver.specs.Kinds.{has_identifier}
use Rattle.rl_resolver.specs.Lookups.{is_number, symbol_id}
use Rattle.rl_semantic.specs.Items.{of_item}
use Rattle.rl_syntax.specs.declared.nodes.NodeEntry.{NodeEntry}

-- A reference with its id, at the symbol that it resolves to. None of a global.
abbrev pub resolved_pair : (reference : ℕ) → Reference → List (ℕ × ReferenceId)
resolved_pair reference r = of_item [] (λ symbol. (symbol, record { 0 = reference }) ∷ []) r.symbol

-- The references that resolve, each at its symbol, if `reference` is the id of the first of all.
abbrev pub resolved_from : (reference : ℕ) → List Reference → List (ℕ × ReferenceId)
resolved_from reference [] = []
resolved_from reference (r ∷ references) = resolved_pair reference r ++ resolved_from (reference + 1) references

-- The references that resolve to a symbol, in order. None for a number that is no symbol's.
abbrev pub reference_ids : List Bound → List Reference → (symbol : ℕ) → List ReferenceId
reference_ids symbols references symbol = those_below (length symbols) symbol (resolved_from 0 references)

-- A symbol at the scope that binds its name to it. None of an own name that another name of the scope shadows.
abbrev pub bound_pair : (symbols : List Bound) → (symbol : ℕ) → Bound → List (ℕ × SymbolId)
bound_pair symbols symbol b = if is_number symbol (binding symbols b.scope.0 b.name) then (b.scope.0, record { 0 = symbol }) ∷ [] else []

-- The symbols that scopes bind names to, each at its scope, if `symbol` is the id of the first of `bs`.
abbrev pub bound_from : (symbols : List Bound) → (symbol : ℕ) → (bs : List Bound) → List (ℕ × SymbolId)
bound_from symbols symbol [] = []
bound_from symbols symbol (b ∷ bs) = bound_pair symbols symbol b ++ bound_from symbols (symbol + 1) bs

-- The symbols that a scope binds names to, in order. None for a number that is no scope's.
abbrev pub bindings_in : List ScopeEntry → List Bound → (scope : ℕ) → List SymbolId
bindings_in scopes symbols scope = those_below (length scopes) scope (bound_from symbols 0 symbols)

-- A symbol at the node of its first declaration. None of an interface.
abbrev pub declared_pair : (symbol : ℕ) → Bound → List (ℕ × SymbolId)
declared_pair symbol b = if has_identifier b.kind then (b.node.0, record { 0 = symbol }) ∷ [] else []

-- The symbols, interfaces aside, each at the node of its first declaration, if `symbol` is the id of the first of all.
abbrev pub declared_from : (symbol : ℕ) → List Bound → List (ℕ × SymbolId)
declared_from symbol [] = []
declared_from symbol (b ∷ bs) = declared_pair symbol b ++ declared_from (symbol + 1) bs

-- The symbol that a node declares first. None for an interface, for a later declaration, and for any other node.
abbrev pub symbol_declared : List NodeEntry → List Bound → (node : ℕ) → Option SymbolId
symbol_declared nodes symbols node = first (those_below (length nodes) node (declared_from 0 symbols))

-- The node of a reference, at the number of its name. None of a reference that resolves.
abbrev pub unresolved_pair : Reference → List (ℕ × NodeId)
unresolved_pair r = of_item ((r.name, r.node) ∷ []) (λ symbol. []) r.symbol

-- The nodes of the references that resolve to no symbol, each at the number of its name.
abbrev pub unresolved_in : List Reference → List (ℕ × NodeId)
unresolved_in [] = []
unresolved_in (r ∷ references) = unresolved_pair r ++ unresolved_in references

abbrev pub has_some : {X : Type 0} → List X → Bool
has_some [] = false
has_some (x ∷ xs) = true

-- True of a name that some reference has that resolves to no symbol.
abbrev pub has_unresolved_reference : List Name → List Reference → (text : List ℕ) → Bool
has_unresolved_reference names references text = of_item false (λ name. has_some (those_below (length names) name (unresolved_in references))) (number_of names text)

-- The symbol that a declaration declares, at its node.
abbrev pub declaration_pair : Declaration → ℕ × Option SymbolId
declaration_pair d = (d.node.0, symbol_id d.symbol)

abbrev pub of_first : List (Option SymbolId) → Option SymbolId
of_first [] = None
of_first (symbol ∷ symbols) = symbol

-- The symbol that a node declares, be it the first to declare it or a later one. None for a node that declares none.
abbrev pub declared_symbol : List NodeEntry → List Declaration → (node : ℕ) → Option SymbolId
declared_symbol nodes declarations node = of_first (those_below (length nodes) node (map declaration_pair declarations))
