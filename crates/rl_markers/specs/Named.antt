-- The symbols that a statement names so that they get a marker, and the marks of statements.
use Rattle.std.specs.Prelude.{◌≡◌, ℕ, nat_eq, nat_le, Bool, true, false, ◌&&◌, ◌||◌, not, None, Some, slice_get, List}
use Rattle.std.specs.BTreeSet.{BTreeSet, contains_by}
use Rattle.std.specs.List.{list_any}
use Rattle.std.specs.Ordering.{nat_cmp}
use Rattle.rl_bindings.specs.declared.bindings.Bindings.{Bindings}
use Rattle.rl_bindings.specs.declared.event.Bound.{Bound}
use Rattle.rl_code.specs.declared.variables.Variables.{Variables}
use Rattle.rl_markers.specs.declared.marking.Mark.{Mark}
use Rattle.rl_model.specs.Code.{contains}
use Rattle.rl_markers.specs.NodeSymbols.{AreOf}
use Rattle.rl_markers.specs.declared.node_symbols.NodeSymbols.{NodeSymbols}
use Rattle.rl_model.specs.Hoisting.{StatementList, Use, is_direct, is_hoistable, is_hoisted_kind, is_use_of, marker_among, marker_in}
use Rattle.rl_names.specs.Names.{Names}
use Rattle.rl_semantic.specs.Items.{of_item}
use Rattle.rl_resolver.specs.Lookups.{symbol_scope}
use Rattle.rl_syntax.specs.Syntax.{Syntax, Pieces, End, Then}

-- The tables of a unit's names, less what is known of the binding rules.
abbrev pub bare : Bindings → Bindings
bare b = record b { least_broken_name_rule = None; keeps_other_rules = true }

abbrev pub tables : Variables → Bindings
tables variables = bare variables.names.resolver.now.semantic.now.bindings

-- True of a use that names the symbol so that it gets a marker.
abbrev pub names_as : Bindings → (symbol : ℕ) → Bound → Use → Bool
names_as b symbol first used = is_use_of b symbol used && (used.inner || is_hoisted_kind first.kind)

-- The numbers of `new` are those of `old`, and of the symbols those that pass the test.
pub record AddsSymbols (b : Bindings) (old new : List ℕ) (test : ℕ → Bound → Bool) : Type 0 where
  pub adds : (symbol : ℕ) (first : Bound) → slice_get b.symbols symbol ≡ Some first
      → contains new symbol ≡ (contains old symbol || test symbol first)

abbrev pub has : BTreeSet ℕ → ℕ → Bool
has set number = contains_by (nat_cmp number) set

-- True of a symbol that is marked in front of a statement up to a node.
abbrev pub is_marked : List Mark → (symbol node : ℕ) → Bool
is_marked marks symbol node = list_any (λ (m : Mark). nat_eq symbol m.symbol && nat_le m.node node) marks

abbrev pub up_to : (node marker : ℕ) → Bool
up_to node marker = nat_le marker node

-- True of a symbol that statements mark up to a node.
abbrev pub marks_in : Bindings → Names → (node symbol : ℕ) → Bound → Pieces → Bool
marks_in b names node symbol first statements = of_item false (up_to node) (marker_among b names symbol first statements)

-- As `marks_in`, for a list with its scope.
abbrev pub marks_list : Bindings → Names → (node symbol : ℕ) → Bound → StatementList → Bool
marks_list b names node symbol first list = of_item false (up_to node) (marker_in b names symbol first list)

-- The marks of `new` are those of `old`, and of symbols those that pass the test.
pub record AddsMarks (b : Bindings) (old new : List Mark) (test : (node symbol : ℕ) → Bound → Bool) : Type 0 where
  pub adds : (node symbol : ℕ) (first : Bound) → slice_get b.symbols symbol ≡ Some first
      → is_marked new symbol node ≡ (is_marked old symbol node || test node symbol first)

-- A statement was marked: what is behind it is marked and closed as if it stood ahead.
pub record StatementMarked (b : Bindings) (names : Names) (opened : List ℕ) (before after : BTreeSet ℕ) (old new : List Mark) (statement : Syntax) : Type 0 where
  pub step : (rest : Pieces) (node symbol : ℕ) (first : Bound) → slice_get b.symbols symbol ≡ Some first
      → (is_marked new symbol node || ((contains opened symbol && not (has after symbol)) && marks_in b names node symbol first rest))
      ≡ (is_marked old symbol node || ((contains opened symbol && not (has before symbol)) && marks_in b names node symbol first (Then statement rest)))

-- The numbers of `new` are those of `old`, and the symbols whose first declaration stands in the tree, if it is a declaration.
pub record AddsDirect (table : NodeSymbols) (old new : List ℕ) (tree : Syntax) : Type 0 where
  pub adds : (b : Bindings) → AreOf table b.symbols → AddsSymbols b old new (λ symbol first. is_direct first.node.0 (Then tree End))

-- True of a symbol that may be marked in the list with a scope, if it is bound there or in a block right inside.
abbrev pub is_candidate : Bindings → (direct : List ℕ) → (scope symbol : ℕ) → Bound → Bool
is_candidate b direct scope symbol first =
    is_hoistable first.kind && (nat_eq (symbol_scope b.symbols symbol).0 scope || contains direct symbol)
