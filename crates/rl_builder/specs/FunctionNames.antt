-- The symbol that the name of a function declaration stands for, as names are after symbols got their identifiers.
use Rattle.std.specs.Prelude.{ℕ, Bool, true, false, not, ◌&&◌, ◌||◌, if◌then◌else◌, is_some, Option, Some, None, List, [], ◌∷◌}
use Rattle.std.specs.Option.{option_map_or, option_or}
use Rattle.rl_base.specs.declared.ids.ScopeId.{ScopeId}
use Rattle.rl_base.specs.declared.ids.SymbolId.{SymbolId}
use Rattle.rl_bindings.specs.declared.event.Bound.{Bound}
use Rattle.rl_bindings.specs.declared.symbol_kind.DeclKind.{DeclKind}
use Rattle.rl_bindings.specs.declared.symbol_kind.DeclKind.TheVariants as kind
use Rattle.rl_hir.specs.Pairs.{identifier_of}
use Rattle.rl_names.specs.Names.{is_scope_inside}
use Rattle.rl_resolver.specs.Around.{ancestors}
use Rattle.rl_resolver.specs.Listed.{bindings_in}
use Rattle.rl_resolver.specs.Lookups.{get_binding, is_type_only_binding, symbol_scope}
use Rattle.rl_resolver.specs.SymbolKinds.{decl_kind}
use Rattle.rl_builder.specs.Builder.{State}
use Rattle.rl_used_names.specs.IdentifierNames.{is_named, name_of}

abbrev pub is_enum : DeclKind → Bool
is_enum kind.TSEnumDeclaration = true
is_enum _ = false

-- True of a symbol that the search passes over: a type alone, and an enum.
abbrev pub is_passed_over : List Bound → SymbolId → Bool
is_passed_over symbols symbol = is_type_only_binding symbols symbol.0 || is_enum (decl_kind symbols symbol.0)

-- True of a symbol whose identifier has the name.
abbrev pub has_name : State → (name : List ℕ) → SymbolId → Bool
has_name s name symbol = option_map_or (λ identifier. is_named (name_of s.env.identifiers identifier) name) (identifier_of s.bindings symbol.0) false

-- The first of some symbols whose identifier has the name.
abbrev pub first_named : State → (name : List ℕ) → List SymbolId → Option SymbolId
first_named s name [] = None
first_named s name (symbol ∷ symbols) = if has_name s name symbol && not (is_passed_over s.semantic.bindings.symbols symbol) then Some symbol else first_named s name symbols

-- The symbol, if it has no identifier yet.
abbrev pub without_identifier : State → Option SymbolId → Option SymbolId
without_identifier s None = None
without_identifier s (Some symbol) = if is_some (identifier_of s.bindings symbol.0) || is_passed_over s.semantic.bindings.symbols symbol then None else Some symbol

-- The symbol that the name stands for in a scope: the first that the scope binds whose identifier has the name, else the one
-- that the scope binds the name to, if it has no identifier yet.
abbrev pub found_in : State → (name : List ℕ) → ScopeId → Option SymbolId
found_in s name scope = option_or (first_named s name (bindings_in s.semantic.bindings.scopes s.semantic.bindings.symbols scope.0)) (without_identifier s (get_binding s.semantic.bindings.names s.semantic.bindings.symbols scope.0 name))

-- The symbol that the name stands for in the first of some scopes in which it stands for one.
abbrev pub found_among : State → (name : List ℕ) → List ScopeId → Option SymbolId
found_among s name [] = None
found_among s name (scope ∷ scopes) = option_or (found_in s name scope) (found_among s name scopes)

-- The symbol, if it counts for a scope that the marked function makes, or one inside it.
abbrev pub if_inside : State → Option SymbolId → Option SymbolId
if_inside s None = None
if_inside s (Some symbol) = if is_scope_inside s.function s.semantic.bindings.scopes (symbol_scope s.semantic.bindings.symbols symbol.0).0 then Some symbol else None

-- The symbol that the name of a function declaration stands for from a scope outwards.
abbrev pub function_binding : State → (scope : ScopeId) → (name : List ℕ) → Option SymbolId
function_binding s scope name = if_inside s (found_among s name (ancestors s.semantic.bindings.scopes scope))
