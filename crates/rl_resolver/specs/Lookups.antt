-- Look-ups of scopes, symbols and references by number, in the lists of a unit's names. Each is total: of a number that none
-- has, it says what is there in place of one.
use Rattle.std.specs.Prelude.{ℕ, Bool, false, ◌&&◌, if◌then◌else◌, nat_eq, nat_le, nat_lt, Option, Some, None, slice_get, List, []}
use Rattle.rl_base.specs.declared.ids.NodeId.{NodeId}
use Rattle.rl_base.specs.declared.ids.ScopeId.{ScopeId}
use Rattle.rl_base.specs.declared.ids.SymbolId.{SymbolId}
use Rattle.rl_base.specs.declared.span.Span.{Span}
use Rattle.rl_bindings.specs.Names.{number_of}
use Rattle.rl_bindings.specs.Symbols.{binding}
use Rattle.rl_bindings.specs.declared.event.Bound.{Bound}
use Rattle.rl_bindings.specs.declared.event.ScopeEntry.{ScopeEntry}
use Rattle.rl_bindings.specs.declared.event.ScopeKind.{ScopeKind}
use Rattle.rl_bindings.specs.declared.event.ScopeKind.TheVariants as scope_kinds
use Rattle.rl_bindings.specs.declared.names.Name.{Name}
use Rattle.rl_bindings.specs.declared.resolve.Reference.{Reference}
use Rattle.rl_resolver.specs.Kinds as kinds
use Rattle.rl_semantic.specs.Items.{of_item}
use Rattle.rl_syntax.specs.declared.nodes.NodeEntry.{NodeEntry}

-- The id with a number. None above the largest id: no symbol has such a number, since each has a node of its own.
abbrev pub numbered : (number : ℕ) → Option SymbolId
numbered number = if nat_le number 4294967295 then Some (record { 0 = number }) else None

abbrev pub symbol_id : (number : Option ℕ) → Option SymbolId
symbol_id number = of_item None numbered number

-- The symbol that a reference resolves to. None for a global, and for a number that is no reference's.
abbrev pub symbol_of_reference : List Reference → (reference : ℕ) → Option SymbolId
symbol_of_reference references reference = of_item None (λ r. symbol_id r.symbol) (slice_get references reference)

-- The node of a reference. The unit's node for a number that is no reference's.
abbrev pub reference_node_id : List Reference → (reference : ℕ) → NodeId
reference_node_id references reference = of_item (record { 0 = 0 }) (λ r. r.node) (slice_get references reference)

-- The kind of a scope. `Program` for a number that is no scope's.
abbrev pub scope_kind : List ScopeEntry → (scope : ℕ) → ScopeKind
scope_kind scopes scope = of_item scope_kinds.Program (λ s. s.kind) (slice_get scopes scope)

-- The scope around a scope. None for the program's, and for a number that is no scope's.
abbrev pub scope_parent : List ScopeEntry → (scope : ℕ) → Option ScopeId
scope_parent scopes scope = of_item None (λ s. s.parent) (slice_get scopes scope)

-- The text of a name. Empty for a number that is no name's.
abbrev pub name_text : List Name → (name : ℕ) → List ℕ
name_text names name = of_item [] (λ n. n.text) (slice_get names name)

-- The name of a symbol. Empty for a number that is no symbol's.
abbrev pub symbol_name : List Name → List Bound → (symbol : ℕ) → List ℕ
symbol_name names symbols symbol = of_item [] (λ b. name_text names b.name) (slice_get symbols symbol)

-- True of a symbol that is a type alone. Not true of a number that is no symbol's.
abbrev pub is_type_only_binding : List Bound → (symbol : ℕ) → Bool
is_type_only_binding symbols symbol = of_item false (λ b. kinds.is_type_only b.kind) (slice_get symbols symbol)

-- A declaration, if it has a declaration identifier.
abbrev pub identified : Bound → Option Bound
identified b = if kinds.has_identifier b.kind then Some b else None

-- The first declaration of a symbol. None for an interface, and for a number that is no symbol's.
abbrev pub declaration_ident : List Bound → (symbol : ℕ) → Option Bound
declaration_ident symbols symbol = of_item None identified (slice_get symbols symbol)

-- The span of the first `bind` node of a symbol. Empty at offset 0 for a number that is no symbol's.
abbrev pub first_bind : List Bound → (symbol : ℕ) → Span
first_bind symbols symbol = of_item (record { start = 0; end = 0 }) (λ b. b.span) (slice_get symbols symbol)

abbrev pub is_number : (wanted : ℕ) → Option ℕ → Bool
is_number wanted None = false
is_number wanted (Some number) = nat_eq number wanted

-- The scope that a symbol counts for: the one that its declaration binds in, if its name is bound to that symbol there, else the
-- program's. The program's also for a number that is no symbol's.
abbrev pub symbol_scope : List Bound → (symbol : ℕ) → ScopeId
symbol_scope symbols symbol = of_item (record { 0 = 0 }) (λ b. if is_number symbol (binding symbols b.scope.0 b.name) then b.scope else record { 0 = 0 }) (slice_get symbols symbol)

-- True of a node that is `root` or stands inside it: its id is in the range of ids that the nodes of `root` have. Not true where
-- `root` is no node of the table.
abbrev pub node_within : List NodeEntry → (node root : ℕ) → Bool
node_within nodes node root = of_item false (λ n. nat_le root node && nat_lt node n.at.end.0) (slice_get nodes root)

-- The symbol that a scope itself binds a name to. None for a name that it does not bind, and for a number that is no scope's.
abbrev pub get_binding : List Name → List Bound → (scope : ℕ) → (text : List ℕ) → Option SymbolId
get_binding names symbols scope text = of_item None (λ name. symbol_id (binding symbols scope name)) (number_of names text)
