-- The symbol that a name is bound to inside a scope, and the words of functions.
use Rattle.std.specs.Prelude.{ℕ, ◌+◌, Bool, true, false, if◌then◌else◌, nat_eq, Option, Some, None, List, [], ◌∷◌, drop}
use Rattle.std.specs.List.{list_any}
use Rattle.rl_base.specs.declared.ids.ScopeId.{ScopeId}
use Rattle.rl_base.specs.declared.ids.SymbolId.{SymbolId}
use Rattle.rl_bindings.specs.Names.{number_of}
use Rattle.rl_bindings.specs.Symbols.{binding, option_or}
use Rattle.rl_bindings.specs.declared.event.Bound.{Bound}
use Rattle.rl_bindings.specs.declared.event.ScopeEntry.{ScopeEntry}
use Rattle.rl_bindings.specs.declared.names.Name.{Name}
use Rattle.rl_resolver.specs.Around.{ancestors}
use Rattle.rl_resolver.specs.Lookups.{symbol_id}
use Rattle.rl_semantic.specs.Items.{of_item}
use Rattle.rl_syntax.specs.declared.word.Word.{Word}
use Rattle.rl_syntax.specs.declared.word.Word.TheVariants as word

abbrev pub is_scope : (wanted : ScopeId) → ScopeId → Bool
is_scope wanted scope = nat_eq scope.0 wanted.0

-- True of a scope that is `ancestor` or stands inside it. Not true of a number that is no scope's.
abbrev pub descends : List ScopeEntry → (ancestor scope : ScopeId) → Bool
descends scopes ancestor scope = list_any (is_scope ancestor) (ancestors scopes scope)

-- The symbol that a scope binds a name to, if it is `ancestor` or stands inside it.
abbrev pub bound_inside : List ScopeEntry → List Bound → (ancestor : ScopeId) → (name scope : ℕ) → Option ℕ
bound_inside scopes symbols ancestor name scope = of_item None (λ number. if descends scopes ancestor (record { 0 = scope }) then Some number else None) (binding symbols scope name)

-- The symbol that a name is bound to by the first of some scopes that is `ancestor` or stands inside it and binds the name; `scope`
-- is the number of the first of `left`.
abbrev pub found_from : List ScopeEntry → List Bound → (ancestor : ScopeId) → (name scope : ℕ) → (left : List ScopeEntry) → Option ℕ
found_from scopes symbols ancestor name scope [] = None
found_from scopes symbols ancestor name scope (s ∷ left) = option_or (bound_inside scopes symbols ancestor name scope) (found_from scopes symbols ancestor name (scope + 1) left)

-- The symbol that a name is bound to in a scope or in one inside it: in that with the least number, if several bind it. None if
-- none does, and for a number that is no scope's. Scopes inside another have larger numbers.
abbrev pub find_binding_in_descendants : List Name → List Bound → List ScopeEntry → (text : List ℕ) → (ancestor : ScopeId) → Option SymbolId
find_binding_in_descendants names symbols scopes text ancestor = of_item None (λ name. symbol_id (found_from scopes symbols ancestor name ancestor.0 (drop ancestor.0 scopes))) (number_of names text)

-- True of the words of functions.
abbrev pub is_function_word : Word → Bool
is_function_word word.Arrow = true
is_function_word word.Fundecl = true
is_function_word word.Funexpr = true
is_function_word _ = false
