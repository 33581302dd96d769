-- The meanings of the names of a unit in the lowering of its marked function: of a local variable its symbol, and of any other
-- name the binding that the module gives to it.
use Rattle.std.specs.Prelude.{ℕ, Bool, true, false, ◌&&◌, nat_eq, nat_le, nat_lt, if◌then◌else◌, unwrap_or, option_map, Option, Some, None, slice_get, List, [], ◌∷◌, ◌++◌}
use Rattle.rl_base.specs.declared.ids.NodeId.{NodeId}
use Rattle.rl_base.specs.declared.ids.ScopeId.{ScopeId}
use Rattle.rl_base.specs.declared.ids.SymbolId.{SymbolId}
use Rattle.rl_base.specs.declared.span.Span.{Span}
use Rattle.rl_bindings.specs.Names as names
use Rattle.rl_bindings.specs.Tables as tables
use Rattle.rl_bindings.specs.declared.event.BindKind.{BindKind}
use Rattle.rl_bindings.specs.declared.event.BindKind.TheVariants as kind
use Rattle.rl_bindings.specs.declared.event.Bound.{Bound}
use Rattle.rl_bindings.specs.declared.event.ScopeEntry.{ScopeEntry}
use Rattle.rl_bindings.specs.declared.names.Name.{Name}
use Rattle.rl_bindings.specs.declared.resolve.Declaration.{Declaration}
use Rattle.rl_bindings.specs.declared.resolve.Reference.{Reference}
use Rattle.rl_hir.specs.declared.instruction.NonLocalBinding.{NonLocalBinding}
use Rattle.rl_hir.specs.declared.instruction.NonLocalBinding.TheVariants as binding
use Rattle.rl_names.specs.declared.names.Meaning.{Meaning}
use Rattle.rl_names.specs.declared.names.Meaning.TheVariants.{Local, Outer}
use Rattle.rl_names.specs.declared.parameters.Parameter.{Parameter}
use Rattle.rl_resolver.specs.Imported.{import_data}
use Rattle.rl_resolver.specs.Listed as resolver
use Rattle.rl_semantic.specs.Imports.{imports_in}
use Rattle.rl_semantic.specs.declared.imports.ImportBindingData.{ImportBindingData}
use Rattle.rl_semantic.specs.declared.imports.ImportBindingKind.{ImportBindingKind}
use Rattle.rl_semantic.specs.declared.imports.ImportBindingKind.TheVariants as import
use Rattle.rl_resolver.specs.Lookups.{declaration_ident, symbol_name, symbol_of_reference, symbol_scope}
use Rattle.rl_semantic.specs.Items.{of_item}
use Rattle.rl_syntax.specs.Nodes.{entries}
use Rattle.rl_syntax.specs.Syntax.{Syntax, Node, Listed, Said, Pieces, End, Then}
use Rattle.rl_syntax.specs.declared.nodes.NodeEntry.{NodeEntry}
use Rattle.rl_syntax.specs.declared.numbered.At.{At}
use Rattle.rl_syntax.specs.declared.word.Word.TheVariants as word

-- The names of a unit, in the lowering of its marked function.
pub record Names : Type 0 where
  -- The meaning of the `id` node with this reference number and this name.
  pub meaning : (reference : ℕ) (name : List ℕ) → Meaning
  -- The symbol that a `bind` node declares, by the node's id. None at any other node.
  pub declared : (node : ℕ) → Option SymbolId
  -- The name of a symbol.
  pub name : (symbol : ℕ) → List ℕ
  -- The span of the declaration identifier of a symbol. None of a symbol without one.
  pub declaration : (symbol : ℕ) → Option Span
  -- True of a symbol that is declared as a constant.
  pub is_const : (symbol : ℕ) → Bool
  -- True of an `id` node, by its reference number, whose name is not declared below the program's scope.
  pub is_module : (reference : ℕ) → Bool

-- The local variable of a meaning. None of any other name.
abbrev pub local_of : Meaning → Option SymbolId
local_of (Local symbol) = Some symbol
local_of (Outer binding) = None

-- True of a node that is the one with these ids, or stands inside it.
abbrev pub is_inside : At → NodeId → Bool
is_inside at node = nat_le at.id.0 node.0 && nat_lt node.0 at.end.0

-- True of a scope that the node with these ids makes, or a node inside it.
abbrev pub is_scope_inside : At → List ScopeEntry → (scope : ℕ) → Bool
is_scope_inside at scopes scope = of_item false (λ s. is_inside at s.node) (slice_get scopes scope)

-- True of a declaration of a variable. A type alias, an enum and a namespace are none.
abbrev pub is_variable : BindKind → Bool
is_variable kind.TypeAlias = false
is_variable kind.Enum = false
is_variable kind.Namespace = false
is_variable _ = true

-- True of a declaration of a constant: by `const`, `using` or `await using`.
abbrev pub is_const_kind : BindKind → Bool
is_const_kind kind.Const = true
is_const_kind _ = false

abbrev pub is_program_scope : ScopeId → Bool
is_program_scope scope = nat_eq scope.0 0

-- True of a local variable of the function with these ids: a variable whose scope is the function's or one inside it.
abbrev pub is_local : At → List ScopeEntry → List Bound → (symbol : ℕ) → Bool
is_local at scopes symbols symbol = of_item false (λ b. is_variable b.kind) (slice_get symbols symbol) && is_scope_inside at scopes (symbol_scope symbols symbol).0

-- The binding of a name that an import of the kind makes, from the module `source`; `imported` is the name of the export.
abbrev pub binding_of_kind : ImportBindingKind → (name source imported : List ℕ) → NonLocalBinding
binding_of_kind import.Default name source imported = binding.ImportDefault name source
binding_of_kind import.Namespace name source imported = binding.ImportNamespace name source
binding_of_kind import.Named name source imported = binding.ImportSpecifier name (record { «module» = source; imported = imported })

abbrev pub import_binding : (name : List ℕ) → ImportBindingData → NonLocalBinding
import_binding name d = binding_of_kind d.kind name d.source (unwrap_or d.imported [])

-- The binding of a name of the module: that of its import, or else of another declaration. Only a symbol of the program's scope
-- counts as imported.
abbrev pub module_binding : (import_data : Option ImportBindingData) → (scope : ScopeId) → (name : List ℕ) → NonLocalBinding
module_binding import_data scope name = if is_program_scope scope then of_item (binding.ModuleLocal name) (import_binding name) import_data else binding.ModuleLocal name

-- The binding of a name that stands for a symbol which is no local: a global, if it is that of no variable.
abbrev pub symbol_binding : (import_data : ℕ → Option ImportBindingData) → List Bound → (symbol : ℕ) → (name : List ℕ) → NonLocalBinding
symbol_binding import_data symbols symbol name = of_item (binding.Global name) (λ b. if is_variable b.kind then module_binding (import_data symbol) (symbol_scope symbols symbol) name else binding.Global name) (slice_get symbols symbol)

-- The meaning of a name that resolves to `symbol`: a global, where it does not resolve.
abbrev pub meaning_of : (import_data : ℕ → Option ImportBindingData) → At → List ScopeEntry → List Bound → (symbol : Option SymbolId) → (name : List ℕ) → Meaning
meaning_of import_data at scopes symbols None name = Outer (binding.Global name)
meaning_of import_data at scopes symbols (Some symbol) name = if is_local at scopes symbols symbol.0 then Local symbol else Outer (symbol_binding import_data symbols symbol.0 name)

-- The names of a unit by its tables, in the lowering of the function with these ids.
abbrev pub names_by : At → List NodeEntry → (imports : List (ℕ × ImportBindingData)) → List Name → List ScopeEntry → List Bound → List Declaration → List Reference → Names
names_by at nodes imports names scopes symbols declarations references = record {
  meaning = λ reference name. meaning_of (λ symbol. import_data nodes imports symbols symbol) at scopes symbols (symbol_of_reference references reference) name;
  declared = λ node. resolver.declared_symbol nodes declarations node;
  name = λ symbol. symbol_name names symbols symbol;
  declaration = λ symbol. option_map (λ b. b.span) (declaration_ident symbols symbol);
  is_const = λ symbol. of_item false (λ b. is_const_kind b.kind) (slice_get symbols symbol);
  is_module = λ reference. of_item true (λ s. is_program_scope (symbol_scope symbols s.0)) (symbol_of_reference references reference);
}

-- The ids of no node.
abbrev pub no_at : At
no_at = record { id = record { 0 = 0 }; end = record { 0 = 0 }; scope = record { 0 = 0 }; reference = record { 0 = 0 }; span = record { start = 0; end = 0 } }

-- The ids of a node. Those of no node for any other tree.
abbrev pub at_of : Syntax → At
at_of (Node at w parts) = at
at_of _ = no_at

-- The ids of a node of the table. Those of no node for an id that is no node's.
abbrev pub at_in : List NodeEntry → NodeId → At
at_in nodes node = of_item no_at (λ n. n.at) (slice_get nodes node.0)

-- The ids of the node that makes a scope. Those of no node for a number that is no scope's.
abbrev pub scope_at : List NodeEntry → List ScopeEntry → (scope : ℕ) → At
scope_at nodes scopes scope = of_item no_at (λ s. at_in nodes s.node) (slice_get scopes scope)

-- The names of a unit, in the lowering of one of its functions.
abbrev pub function_names : (unit function : Syntax) → Names
function_names u f = names_by (at_of f) (entries u) (imports_in u) (names.names_in u) (tables.scopes_in u) (tables.symbols_in u) (tables.declarations_in u) (tables.references_in u)

-- The parameter that a `param` node is. None of a pattern, whose names come behind the parameters.
abbrev pub parameter_of : Names → Syntax → List Parameter
parameter_of names (Node at word.Param (Then (Node bind word.Bind (Then (Said name) type)) default)) = of_item [] (λ symbol. record { symbol = symbol; name = name; declaration = bind.span } ∷ []) (names.declared bind.id.0)
parameter_of names _ = []

-- As `parameter_of`, for nodes in a row.
abbrev pub parameters_among : Names → Pieces → List Parameter
parameters_among names End = []
parameters_among names (Then param params) = parameter_of names param ++ parameters_among names params

-- The parameters in a `params` node.
abbrev pub parameters_in : Names → Syntax → List Parameter
parameters_in names (Node at word.Params (Then (Listed params) rest)) = parameters_among names params
parameters_in names _ = []
