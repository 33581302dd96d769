-- The symbols of a unit, and the symbol that a name stands for.
use Rattle.std.specs.Prelude.{ℕ, Bool, true, false, not, ◌&&◌, if◌then◌else◌, nat_eq, Option, Some, None, is_some, List, [], ◌∷◌, ◌++◌}
use Rattle.std.specs.List.{position_from}
use Rattle.rl_base.specs.declared.ids.ScopeId.{ScopeId}
use Rattle.rl_bindings.specs.declared.event.BindKind.{BindKind}
use Rattle.rl_bindings.specs.declared.event.BindKind.TheVariants as kind
use Rattle.rl_bindings.specs.declared.event.Bound.{Bound}
use Rattle.rl_bindings.specs.declared.event.Event.{Event}
use Rattle.rl_bindings.specs.declared.event.Event.TheVariants as event

-- The declarations among events, in order.
abbrev pub bounds : List Event → List Bound
bounds [] = []
bounds (event.Bind b ∷ es) = b ∷ bounds es
bounds (_ ∷ es) = bounds es

-- True of the own name of a function expression or a class expression.
abbrev pub is_own : BindKind → Bool
is_own kind.FunctionExpression = true
is_own kind.ClassExpression = true
is_own _ = false

abbrev pub same : Bool → Bool → Bool
same true b = b
same false b = not b

-- `is_at own scope name`: true of a declaration that binds `name` in the scope `scope`, as an own name or otherwise.
abbrev pub is_at : (own : Bool) → (scope name : ℕ) → Bound → Bool
is_at own scope name b = same own (is_own b.kind) && (nat_eq b.scope.0 scope && nat_eq b.name name)

-- The number of the symbol that a name is in a scope, as an own name or otherwise: its index among `symbols`.
abbrev pub number_at : (own : Bool) → (scope name : ℕ) → (symbols : List Bound) → Option ℕ
number_at own scope name symbols = position_from (is_at own scope name) 0 symbols

-- A declaration adds a symbol, unless there is one of its name in its scope. A symbol is known by its first declaration.
abbrev pub add : (symbols : List Bound) → Bound → List Bound
add symbols b = if is_some (number_at (is_own b.kind) b.scope.0 b.name symbols) then symbols else symbols ++ b ∷ []

abbrev pub add_all : (symbols : List Bound) → List Bound → List Bound
add_all symbols [] = symbols
add_all symbols (b ∷ bs) = add_all (add symbols b) bs

-- The symbols of events, each by its first declaration, in the order of these. The index of a symbol is its `SymbolId`.
abbrev pub symbols_of : List Event → List Bound
symbols_of es = add_all [] (bounds es)

abbrev pub option_or : {X : Type 0} → Option X → Option X → Option X
option_or (Some x) other = Some x
option_or None other = other

-- The symbol that a scope binds a name to: one that is no own name, if there is one, else the own name.
abbrev pub binding : (symbols : List Bound) → (scope name : ℕ) → Option ℕ
binding symbols scope name = option_or (number_at false scope name symbols) (number_at true scope name symbols)

-- The symbol that a name stands for under `scopes`, the innermost first: that of the nearest scope that binds it.
abbrev pub resolve : (symbols : List Bound) → (scopes : List ScopeId) → (name : ℕ) → Option ℕ
resolve symbols [] name = None
resolve symbols (s ∷ scopes) name = option_or (binding symbols s.0 name) (resolve symbols scopes name)
