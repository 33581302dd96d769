-- Properties of a unit's names that rows and orderly functions ask for.
use Rattle.std.specs.Prelude.{ℕ, ◌+◌, nat_eq, Bool, true, false, ◌&&◌, ◌||◌, not, if◌then◌else◌, Option, Some, None, is_some, List, [], ◌∷◌}
use Rattle.std.specs.Prelude.{slice_get}
use Rattle.std.specs.Char.{is_digit}
use Rattle.std.specs.List.{list_all, list_any}
use Rattle.std.specs.Str.{bytes_eq}
use Rattle.rl_base.specs.declared.ids.ScopeId.{ScopeId}
use Rattle.rl_base.specs.declared.ids.SymbolId.{SymbolId}
use Rattle.rl_bindings.specs.declared.bindings.Bindings.{Bindings}
use Rattle.rl_bindings.specs.declared.event.BindKind.{BindKind}
use Rattle.rl_bindings.specs.declared.event.BindKind.TheVariants as kind
use Rattle.rl_bindings.specs.declared.event.Bound.{Bound}
use Rattle.rl_context.specs.Context.{is_context, scope_node}
use Rattle.rl_context.specs.Sites.{sites_in}
use Rattle.rl_names.specs.Names.{Names, at_of, is_const_kind, is_variable}
use Rattle.rl_resolver.specs.Around.{ancestors}
use Rattle.rl_resolver.specs.Inside.{find_binding_in_descendants}
use Rattle.rl_resolver.specs.Lookups.{name_text, symbol_of_reference, symbol_scope}
use Rattle.rl_semantic.specs.Items.{of_item}
use Rattle.rl_model.specs.Applied.{Facts}
use Rattle.rl_model.specs.Hoisting.{is_context_at, is_hoistable, is_marked_before}
use Rattle.rl_model.specs.Marked.{marked}
use Rattle.rl_model.specs.Supported.{is_dead_function}
use Rattle.rl_model.specs.Tables.{tables_of}
use Rattle.rl_model.specs.Units.{names_of}
use Rattle.rl_syntax.specs.Nodes.{entries}
use Rattle.rl_syntax.specs.Syntax.{Syntax, Node, Said, Then}
use Rattle.rl_syntax.specs.declared.nodes.NodeEntry.{NodeEntry}
use Rattle.rl_syntax.specs.declared.word.Word.{Word}
use Rattle.rl_syntax.specs.declared.word.Word.TheVariants as word

-- The kind of a symbol's first declaration has a property.
abbrev pub has_kind : Bindings → (BindKind → Bool) → (symbol : ℕ) → Bool
has_kind b test symbol = of_item false (λ first. test first.kind) (slice_get b.symbols symbol)

-- Names in patterns and of function declarations: variables that get markers, and parameters.
abbrev pub is_variable_kind : BindKind → Bool
is_variable_kind kind.Param = true
is_variable_kind k = is_hoistable k

abbrev pub is_for_in_or_of : Word → Bool
is_for_in_or_of word.Forin = true
is_for_in_or_of word.Forof = true
is_for_in_or_of _ = false

-- True of a symbol whose scope a `for`-`in` or `for`-`of` loop makes: its head declares it.
abbrev pub is_of_head : List NodeEntry → Bindings → (symbol : ℕ) → Bool
is_of_head nodes b symbol = of_item false (λ (e : NodeEntry). is_for_in_or_of e.word) (slice_get nodes (scope_node b symbol).0)

-- True of the declaration, at a node, of a constant that is a context identifier, outside heads of loops, without a marker (row F7).
abbrev pub is_lost_at : List NodeEntry → Bindings → Names → (marked : Syntax) → (bind symbol : ℕ) → Bool
is_lost_at nodes b names marked bind symbol =
    has_kind b is_const_kind symbol && not (is_of_head nodes b symbol) && is_context b (sites_in marked) symbol
    && not (is_marked_before b names marked bind symbol)

-- True of a reference to no symbol, or to an alias, an enum or a namespace.
abbrev pub is_global_in : Bindings → (reference : ℕ) → Bool
is_global_in b reference = of_item true (λ (s : SymbolId). not (has_kind b is_variable s.0)) (symbol_of_reference b.references reference)

-- True of a reference that names nothing below the program's scope.
abbrev pub is_module_in : Bindings → (reference : ℕ) → Bool
is_module_in b reference =
    of_item true (λ (s : SymbolId). nat_eq (symbol_scope b.symbols s.0).0 0) (symbol_of_reference b.references reference)

-- True of a name that a scope in the marked function binds.
abbrev pub is_bound_in : Bindings → (marked : Syntax) → (name : List ℕ) → Bool
is_bound_in b marked name = is_some (find_binding_in_descendants b.names b.symbols b.scopes name (at_of marked).scope)

-- A property of the symbol that a `bind` declares.
abbrev pub of_declared : Names → (ℕ → Bool) → (bind : ℕ) → Bool
of_declared names test bind = of_item false (λ (s : SymbolId). test s.0) (names.declared bind)

-- The facts of a unit whose marked function is lowered.
abbrev pub facts_of : (u : Syntax) → Facts
facts_of u = record {
  names = names_of u;
  is_const = has_kind (tables_of u) is_const_kind;
  is_context = is_context_at (tables_of u) (names_of u) (marked u);
  is_global = is_global_in (tables_of u);
  is_variable = of_declared (names_of u) (has_kind (tables_of u) is_variable_kind);
  is_lost = λ bind. of_declared (names_of u) (is_lost_at (entries u) (tables_of u) (names_of u) (marked u) bind) bind;
  is_bound = is_bound_in (tables_of u) (marked u);
  is_module = is_module_in (tables_of u);
  is_dead = is_dead_function (marked u);
}

abbrev pub is_none : List ℕ → Bool
is_none [] = true
is_none (c ∷ cs) = false

-- True of `_` and digits behind it.
abbrev pub is_suffix : List ℕ → Bool
is_suffix [] = false
is_suffix (c ∷ cs) = nat_eq c 95 && not (is_none cs) && list_all (λ digit. is_digit digit 10) cs

-- A name less an ending `_` and digits, as names are changed by.
abbrev pub stem : (name : List ℕ) → List ℕ
stem [] = []
stem (c ∷ cs) = if is_suffix (c ∷ cs) then [] else c ∷ stem cs

abbrev pub is_same : (symbol : ℕ) → Option SymbolId → Bool
is_same symbol None = false
is_same symbol (Some own) = nat_eq own.0 symbol

-- True of a declaration in one of the scopes, of the name or of its stem.
abbrev pub takes_name : Bindings → (scopes : List ScopeId) → (name : List ℕ) → Bound → Bool
takes_name b scopes name first =
    list_any (λ (s : ScopeId). nat_eq s.0 first.scope.0) scopes
    && (bytes_eq (name_text b.names first.name) name || bytes_eq (name_text b.names first.name) (stem name))

-- True if one of the symbols from a number on takes the name, `own` aside.
abbrev pub is_taken : Bindings → (own : Option SymbolId) → (scopes : List ScopeId) → (name : List ℕ) → (number : ℕ) → List Bound → Bool
is_taken b own scopes name number [] = false
is_taken b own scopes name number (first ∷ symbols) =
    (not (is_same number own) && takes_name b scopes name first) || is_taken b own scopes name (number + 1) symbols

-- True of a function declaration whose name, or the name less an ending `_` and digits, is also that of another symbol of its own scope or
-- of a scope around it.
abbrev pub is_shadowed : Bindings → Names → Syntax → Bool
is_shadowed b names (Node at word.Fundecl
    (Then marked (Then is_async (Then generator (Then (Node there word.Bind (Then (Said name) type)) parts))))) =
    is_taken b (names.declared there.id.0) (ancestors b.scopes at.scope) name 0 b.symbols
is_shadowed b names _ = false
