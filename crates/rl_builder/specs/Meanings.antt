-- Variables that identifiers stand for, with the identifiers of local variables.
use Rattle.std.specs.Prelude.{◌≡◌, ℕ, Bool, true, false, if◌then◌else◌, Option, Some, None, List}
use Rattle.rl_base.specs.Reserved.{is_reserved}
use Rattle.rl_base.specs.declared.diagnostic.Diagnostic.{Diagnostic}
use Rattle.rl_base.specs.declared.ids.SymbolId.{SymbolId}
use Rattle.rl_base.specs.declared.span.Span.{Span}
use Rattle.rl_bindings.specs.declared.symbol_kind.BindingKind.{BindingKind as Kind}
use Rattle.rl_bindings.specs.declared.symbol_kind.BindingKind.TheVariants as kind
use Rattle.rl_hir.specs.Pairs.{identifier_of}
use Rattle.rl_hir.specs.Symbols.{has}
use Rattle.rl_hir.specs.declared.binding.BindingKind.{BindingKind}
use Rattle.rl_hir.specs.declared.binding.BindingKind.TheVariants as binding_kind
use Rattle.rl_hir.specs.declared.binding.VariableBinding.{VariableBinding}
use Rattle.rl_hir.specs.declared.binding.VariableBinding.TheVariants as variable
use Rattle.rl_hir.specs.declared.instruction.NonLocalBinding.{NonLocalBinding}
use Rattle.rl_hir.specs.declared.instruction.NonLocalBinding.TheVariants as binding
use Rattle.rl_names.specs.Names.{is_program_scope}
use Rattle.rl_names.specs.declared.names.Meaning.{Meaning}
use Rattle.rl_names.specs.declared.names.Meaning.TheVariants.{Local, Outer}
use Rattle.rl_resolver.specs.Inside.{find_binding_in_descendants}
use Rattle.rl_resolver.specs.Lookups as lookups
use Rattle.rl_resolver.specs.SymbolKinds as symbol_kinds
use Rattle.rl_semantic.specs.Items.{of_item}
use Rattle.rl_builder.specs.Builder.{State}
use Rattle.rl_builder.specs.Names.{resolved, resolved_identifier, IsStopped}

-- The kind of a variable, by that of its binding.
abbrev pub converted : Kind → BindingKind
converted kind.Var = binding_kind.Var
converted kind.Let = binding_kind.Let
converted kind.Const = binding_kind.Const
converted kind.Param = binding_kind.Param
converted kind.Module = binding_kind.Module
converted kind.Hoisted = binding_kind.Hoisted
converted kind.Local = binding_kind.Local
converted kind.Unknown = binding_kind.Unknown

-- The variable of a name that no local variable has.
abbrev pub outer_variable : NonLocalBinding → VariableBinding
outer_variable (binding.Global name) = variable.Global name
outer_variable (binding.ModuleLocal name) = variable.ModuleLocal name
outer_variable (binding.ImportDefault name source) = variable.ImportDefault name source
outer_variable (binding.ImportNamespace name source) = variable.ImportNamespace name source
outer_variable (binding.ImportSpecifier name import) = variable.ImportSpecifier name import.«module» import.imported

-- The variable of a name that has a meaning: of a local variable its identifier, or the one that it gets, and its kind.
abbrev pub variable_of : State → Meaning → VariableBinding
variable_of s (Local symbol) = variable.Identifier (record { 0 = resolved_identifier s symbol.0 }) (converted (symbol_kinds.binding_kind s.semantic.bindings.symbols symbol.0))
variable_of s (Outer outer) = outer_variable outer

-- Resolves a name that has a meaning, at a node with the span: a local variable that has no identifier gets one.
abbrev pub with_variable : State → Meaning → (name : List ℕ) → (span : Span) → State
with_variable s (Local symbol) name span = resolved s name symbol.0 (Some span)
with_variable s (Outer outer) name span = s

-- Resolving a name that has a meaning stops with the diagnostic: it is a local variable's, reserved, and has no identifier.
abbrev pub IsStoppedAt : State → Meaning → (name : List ℕ) → (span : Span) → Diagnostic → Type 0
IsStoppedAt s (Local symbol) name span d = IsStopped s name symbol.0 (Some span) d
IsStoppedAt s (Outer outer) name span d = ⊥

-- A name that has a meaning may be resolved: one of a local variable that has no identifier is not reserved.
abbrev pub IsAllowedAt : State → Meaning → (name : List ℕ) → Type 0
IsAllowedAt s (Local symbol) name = identifier_of s.bindings symbol.0 ≡ None → is_reserved name ≡ false
IsAllowedAt s (Outer outer) name = Unit {0}

-- True of a symbol that counts for the program's scope.
abbrev pub is_of_program : State → SymbolId → Bool
is_of_program s symbol = is_program_scope (lookups.symbol_scope s.semantic.bindings.symbols symbol.0)

-- True of a context identifier. Not true where there is no symbol, and of one of the program's scope.
abbrev pub is_context : State → Option SymbolId → Bool
is_context s None = false
is_context s (Some symbol) = if is_of_program s symbol then false else has s.context_identifiers symbol

-- The symbol that a reference resolves to.
abbrev pub symbol_at : State → (reference : ℕ) → Option SymbolId
symbol_at s reference = lookups.symbol_of_reference s.semantic.bindings.references reference

-- True of a name that the marked function, or a scope in it, binds to a symbol which is not of the program's scope.
abbrev pub has_local_binding : State → (name : List ℕ) → Bool
has_local_binding s name = of_item false (λ symbol. if is_of_program s symbol then false else true) (find_binding_in_descendants s.semantic.bindings.names s.semantic.bindings.symbols s.semantic.bindings.scopes name s.component_scope)
