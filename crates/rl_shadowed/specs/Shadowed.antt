-- Names of function declarations, and the symbols around them, by the lists of a unit's names.
use Rattle.std.specs.Prelude.{ℕ, nat_eq, ◌+◌, Bool, false, ◌&&◌, ◌||◌, not, Option, Some, None, List, [], ◌∷◌}
use Rattle.std.specs.List.{list_any}
use Rattle.std.specs.Str.{bytes_eq}
use Rattle.rl_base.specs.declared.ids.ScopeId.{ScopeId}
use Rattle.rl_base.specs.declared.ids.SymbolId.{SymbolId}
use Rattle.rl_bindings.specs.declared.event.Bound.{Bound}
use Rattle.rl_bindings.specs.declared.event.ScopeEntry.{ScopeEntry}
use Rattle.rl_bindings.specs.declared.names.Name.{Name}
use Rattle.rl_code.specs.Parts.{name_of}
use Rattle.rl_model.specs.Facts.{is_same, is_suffix, stem}
use Rattle.rl_names.specs.Names.{Names}
use Rattle.rl_resolver.specs.Around.{ancestors}
use Rattle.rl_resolver.specs.Lookups.{name_text}
use Rattle.rl_semantic.specs.Items.{of_item}
use Rattle.rl_syntax.specs.Syntax.{Syntax, Node, Said, Pieces, Then}
use Rattle.rl_syntax.specs.declared.numbered.At.{At}
use Rattle.rl_syntax.specs.declared.word.Word.{Word}
use Rattle.rl_syntax.specs.declared.word.Word.TheVariants as word

-- As `is_suffix` and `stem` of the model, as opaque words.
unfoldable pub is_ending : List ℕ → Bool
is_ending bytes = is_suffix bytes

unfoldable pub stem_of : (name : List ℕ) → List ℕ
stem_of name = stem name

-- Ids and name of a `bind` node, by its parts.
abbrev pub bind_as : At → Word → Pieces → Option (At × List ℕ)
bind_as at word.Bind (Then (Said name) type) = Some (at, name)
bind_as at _ parts = None

-- As `bind_as`, of a tree.
abbrev pub bind_of : Syntax → Option (At × List ℕ)
bind_of (Node at w parts) = bind_as at w parts
bind_of _ = None

abbrev pub first_bind : (names : List Syntax) → Option (At × List ℕ)
first_bind [] = None
first_bind (name ∷ names) = bind_of name

-- The `bind` node of the name of a function declaration, by the declaration's parts.
abbrev pub declared_bind : Word → Pieces → Option (At × List ℕ)
declared_bind w parts = first_bind (name_of w parts)

abbrev pub is_among : (scopes : List ScopeId) → ScopeId → Bool
is_among scopes scope = list_any (λ (s : ScopeId). nat_eq s.0 scope.0) scopes

-- A declaration of the name or of the other name.
abbrev pub has_either : List Name → (name other : List ℕ) → Bound → Bool
has_either names name other first = bytes_eq (name_text names first.name) name || bytes_eq (name_text names first.name) other

-- A declaration, in one of the scopes, of the name or of the other name.
abbrev pub takes_either : List Name → (scopes : List ScopeId) → (name other : List ℕ) → Bound → Bool
takes_either names scopes name other first = has_either names name other first && is_among scopes first.scope

-- As `takes_either`, of a symbol that is not `own`.
abbrev pub is_taking : List Name → (own : Option SymbolId) → (scopes : List ScopeId) → (name other : List ℕ) → (number : ℕ)
    → Bound → Bool
is_taking names own scopes name other number first = not (is_same number own) && takes_either names scopes name other first

-- True if one of the symbols from a number on takes the name or the other name, `own` aside.
abbrev pub is_taken_by : List Name → (own : Option SymbolId) → (scopes : List ScopeId) → (name other : List ℕ) → (number : ℕ)
    → List Bound → Bool
is_taken_by names own scopes name other number [] = false
is_taken_by names own scopes name other number (first ∷ symbols) =
    is_taking names own scopes name other number first || is_taken_by names own scopes name other (number + 1) symbols

-- True of a function declaration, by the `bind` node of its name, if another symbol around it takes the name or its stem.
abbrev pub shadowed_as : List Name → List ScopeEntry → List Bound → Names → At → Option (At × List ℕ) → Bool
shadowed_as texts scopes symbols names at bind =
    of_item false (λ p. is_taken_by texts (names.declared p.0.id.0) (ancestors scopes at.scope) p.1 (stem p.1) 0 symbols) bind

-- As `is_shadowed` of the model, by the lists that it reads.
abbrev pub is_shadowed_by : List Name → List ScopeEntry → List Bound → Names → Syntax → Bool
is_shadowed_by texts scopes symbols names (Node at w parts) = shadowed_as texts scopes symbols names at (declared_bind w parts)
is_shadowed_by texts scopes symbols names _ = false
