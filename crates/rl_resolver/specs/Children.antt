-- The symbols of a scope and of the blocks right inside it.
use Rattle.std.specs.Prelude.{ℕ, ◌+◌, Bool, true, false, ◌&&◌, if◌then◌else◌, nat_eq, List, [], ◌∷◌, ◌++◌}
use Rattle.rl_base.specs.declared.ids.SymbolId.{SymbolId}
use Rattle.rl_bindings.specs.declared.event.Bound.{Bound}
use Rattle.rl_bindings.specs.declared.event.ScopeEntry.{ScopeEntry}
use Rattle.rl_bindings.specs.declared.event.ScopeKind.{ScopeKind}
use Rattle.rl_bindings.specs.declared.event.ScopeKind.TheVariants as scope_kinds
use Rattle.rl_resolver.specs.Listed.{bindings_in}
use Rattle.rl_semantic.specs.Items.{of_item}

abbrev pub is_block : ScopeKind → Bool
is_block scope_kinds.Block = true
is_block _ = false

-- True of a block that stands right inside a scope.
abbrev pub is_child_block : (scope : ℕ) → ScopeEntry → Bool
is_child_block scope s = is_block s.kind && of_item false (λ parent. nat_eq parent.0 scope) s.parent

-- The symbols of a scope with the number `number`, if it is a block right inside `scope`.
abbrev pub child_bindings : List ScopeEntry → List Bound → (scope number : ℕ) → ScopeEntry → List SymbolId
child_bindings scopes symbols scope number s = if is_child_block scope s then bindings_in scopes symbols number else []

-- The symbols of the blocks right inside `scope`, if `number` is that of the first scope of `left`.
abbrev pub children_from : List ScopeEntry → List Bound → (scope number : ℕ) → (left : List ScopeEntry) → List SymbolId
children_from scopes symbols scope number [] = []
children_from scopes symbols scope number (s ∷ left) = child_bindings scopes symbols scope number s ++ children_from scopes symbols scope (number + 1) left

-- The symbols of a scope, and behind them those of each block right inside it, in the order of the scopes' numbers.
abbrev pub bindings_with_child_blocks : List ScopeEntry → List Bound → (scope : ℕ) → List SymbolId
bindings_with_child_blocks scopes symbols scope = bindings_in scopes symbols scope ++ children_from scopes symbols scope 0 scopes
