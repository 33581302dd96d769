-- The scopes around a scope, and what a name is bound to from there; the symbols of a unit by number.
use Rattle.std.specs.Prelude.{ℕ, zero, suc, ◌+◌, if◌then◌else◌, nat_le, Option, Some, None, slice_get, List, [], ◌∷◌, length}
use Rattle.rl_base.specs.declared.ids.ScopeId.{ScopeId}
use Rattle.rl_base.specs.declared.ids.SymbolId.{SymbolId}
use Rattle.rl_bindings.specs.Names.{number_of}
use Rattle.rl_bindings.specs.Symbols.{resolve}
use Rattle.rl_bindings.specs.declared.event.Bound.{Bound}
use Rattle.rl_bindings.specs.declared.event.ScopeEntry.{ScopeEntry}
use Rattle.rl_bindings.specs.declared.names.Name.{Name}
use Rattle.rl_resolver.specs.Lookups.{scope_parent, symbol_id}
use Rattle.rl_semantic.specs.Items.{of_item}

-- A scope, the one around it and so on, at most `most` of them.
abbrev pub outward : List ScopeEntry → (most : ℕ) → Option ScopeId → List ScopeId
outward scopes zero scope = []
outward scopes (suc most) None = []
outward scopes (suc most) (Some scope) = scope ∷ outward scopes most (scope_parent scopes scope.0)

-- The scopes around a scope, itself first. Empty for a number that is no scope's. A scope has a larger number than the one around
-- it, so that they are no more than its number and one.
abbrev pub ancestors : List ScopeEntry → ScopeId → List ScopeId
ancestors scopes scope = of_item [] (λ s. outward scopes (scope.0 + 1) (Some scope)) (slice_get scopes scope.0)

-- The symbol that a name stands for in a scope: that of the nearest scope around it that binds the name. None for a global, and
-- for a number that is no scope's.
abbrev pub find_binding : List Name → List Bound → List ScopeEntry → ScopeId → (text : List ℕ) → Option SymbolId
find_binding names symbols scopes scope text = of_item None (λ name. symbol_id (resolve symbols (ancestors scopes scope) name)) (number_of names text)

-- The ids from a number on, `count` of them.
abbrev pub ids_from : (number count : ℕ) → List SymbolId
ids_from number zero = []
ids_from number (suc count) = record { 0 = number } ∷ ids_from (number + 1) count

-- The number of ids that items have by their indices: no more than there are ids.
abbrev pub id_count : (items : ℕ) → ℕ
id_count items = if nat_le items 4294967295 then items else 4294967295

-- The ids of all symbols, in order.
abbrev pub symbol_ids : List Bound → List SymbolId
symbol_ids symbols = ids_from 0 (id_count (length symbols))
