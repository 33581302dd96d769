-- Hoisting: a variable that an inner function names before its declaration is declared in front of the statement in which the function
-- stands, by a marker, and is a context identifier from there on.
use Rattle.std.specs.Prelude.{ℕ, nat_eq, nat_le, nat_lt, Bool, true, false, ◌&&◌, ◌||◌, not, if◌then◌else◌, Option, Some, None, List, []}
use Rattle.std.specs.Prelude.{◌∷◌, ◌++◌, slice_get}
use Rattle.std.specs.List.{list_any}
use Rattle.rl_base.specs.declared.ids.SymbolId.{SymbolId}
use Rattle.rl_bindings.specs.declared.bindings.Bindings.{Bindings}
use Rattle.rl_bindings.specs.declared.event.BindKind.{BindKind}
use Rattle.rl_bindings.specs.declared.event.BindKind.TheVariants as kind
use Rattle.rl_bindings.specs.declared.event.Bound.{Bound}
use Rattle.rl_context.specs.Context.{is_context, is_symbol}
use Rattle.rl_context.specs.Roles.{makes_function}
use Rattle.rl_context.specs.Sites.{sites_in}
use Rattle.rl_names.specs.Functions.{body_in}
use Rattle.rl_names.specs.Names.{Names}
use Rattle.rl_resolver.specs.Children.{bindings_with_child_blocks}
use Rattle.rl_resolver.specs.Lookups.{symbol_of_reference, symbol_scope}
use Rattle.rl_semantic.specs.Items.{of_item}
use Rattle.rl_model.specs.Code.{bound_by, contains, is_no_code}
use Rattle.rl_syntax.specs.Syntax.{Syntax, Node, Listed, Pieces, End, Then}
use Rattle.rl_syntax.specs.declared.numbered.At.{At}
use Rattle.rl_syntax.specs.declared.word.Word.{Word}
use Rattle.rl_syntax.specs.declared.word.Word.TheVariants as word

-- A use of a name in a statement: its reference, and whether it stands in a function inside the statement.
pub record Use : Type 0 where
  pub reference : ℕ
  pub inner : Bool

abbrev pub use_at : At → (inner : Bool) → Use
use_at at inner = record { reference = at.reference.0; inner = inner }

abbrev mutual
  -- The names that are used in a part, tags of elements and classes aside. A function begins at the key of its property.
  pub uses_in : (inner : Bool) → Syntax → List Use
  uses_in inner (Node at word.Id parts) = use_at at inner ∷ []
  uses_in inner (Node at word.Opening (Then tag parts)) = uses_among inner parts
  uses_in inner (Node at word.Classdecl parts) = []
  uses_in inner (Node at word.Classexpr parts) = []
  uses_in inner (Node at w parts) = uses_among (inner || makes_function w) parts
  uses_in inner (Listed parts) = uses_among inner parts
  uses_in inner _ = []

  pub uses_among : (inner : Bool) → Pieces → List Use
  uses_among inner End = []
  uses_among inner (Then part parts) = uses_in inner part ++ uses_among inner parts

-- A list of statements that is lowered with a scope.
pub record StatementList : Type 0 where
  pub scope : ℕ
  pub statements : Pieces

abbrev pub list_of : At → Pieces → List StatementList
list_of at statements = record { scope = at.scope.0; statements = statements } ∷ []

-- The statements of a function's body, with the function's scope.
abbrev pub body_list : At → (body : Syntax) → List StatementList
body_list at (Node there word.Body (Then directives (Then (Listed statements) End))) = list_of at statements
body_list at _ = []

abbrev mutual
  -- The lists of a part of a function, those of its inner functions among them: bodies, blocks, and the body of each `catch`, which has the
  -- scope of the `catch`.
  pub lists_in : Syntax → List StatementList
  lists_in (Node at word.Block (Then (Listed statements) End)) = list_of at statements ++ lists_among statements
  lists_in (Node at word.Catch (Then param (Then (Node there word.Block (Then (Listed statements) End)) End))) =
      list_of at statements ++ lists_in param ++ lists_among statements
  lists_in (Node at w parts) = if is_no_code w parts then [] else body_list at (body_in (Node at w parts)) ++ lists_among parts
  lists_in (Listed parts) = lists_among parts
  lists_in _ = []

  pub lists_among : Pieces → List StatementList
  lists_among End = []
  lists_among (Then part parts) = lists_in part ++ lists_among parts

abbrev pub declared_among : Names → Pieces → List ℕ
declared_among names (Then (Node at word.Declarator (Then pattern parts)) declarators) =
    bound_by names pattern ++ declared_among names declarators
declared_among names _ = []

-- The symbols that a statement of a list declares by itself.
abbrev pub declared_by_statement : Names → Syntax → List ℕ
declared_by_statement names (Node at word.Var (Then kind (Then (Listed declarators) End))) = declared_among names declarators
declared_by_statement names (Node at word.Classdecl (Then name parts)) = bound_by names name
declared_by_statement names (Node at word.Fundecl (Then marked (Then is_async (Then generator (Then name parts))))) = bound_by names name
declared_by_statement names _ = []

abbrev pub is_declaration : Word → Bool
is_declaration word.Var = true
is_declaration word.Classdecl = true
is_declaration word.Fundecl = true
is_declaration _ = false

abbrev pub is_fundecl : Syntax → Bool
is_fundecl (Node at word.Fundecl parts) = true
is_fundecl _ = false

-- True of a node with the id, or around it.
abbrev pub is_around : (node : ℕ) → Syntax → Bool
is_around node (Node at w parts) = nat_le at.id.0 node && nat_lt node at.end.0
is_around node _ = false

-- True of a declaration that stands in a `var`, a class or a function declaration of the list itself.
abbrev pub is_direct : (node : ℕ) → Pieces → Bool
is_direct node End = false
is_direct node (Then (Node at w parts) statements) = (is_declaration w && is_around node (Node at w parts)) || is_direct node statements
is_direct node (Then statement statements) = is_direct node statements

-- Kinds of variables that get markers.
abbrev pub is_hoistable : BindKind → Bool
is_hoistable kind.Var = true
is_hoistable kind.Let = true
is_hoistable kind.Const = true
is_hoistable kind.Catch = true
is_hoistable kind.FunctionDeclaration = true
is_hoistable _ = false

abbrev pub is_hoisted_kind : BindKind → Bool
is_hoisted_kind kind.FunctionDeclaration = true
is_hoisted_kind _ = false

abbrev pub is_use_of : Bindings → (symbol : ℕ) → Use → Bool
is_use_of b symbol used = is_symbol symbol (symbol_of_reference b.references used.reference)

abbrev pub is_inner_use_of : Bindings → (symbol : ℕ) → Use → Bool
is_inner_use_of b symbol used = used.inner && is_use_of b symbol used

-- True of a statement in which the symbol is named so that it gets a marker: in an inner function; a function declaration anywhere, its own
-- name counts as a use in a statement that is no function declaration.
abbrev pub is_named_early : Bindings → (symbol : ℕ) → Bound → (statement : Syntax) → Bool
is_named_early b symbol first statement =
    list_any (is_inner_use_of b symbol) (uses_in false statement)
    || (is_hoisted_kind first.kind
    && (list_any (is_use_of b symbol) (uses_in false statement) || (not (is_fundecl statement) && is_around first.node.0 statement)))

-- The id of the statement in front of which the symbol gets its marker, among the statements of a list from some statement on. None where
-- it gets none there, or is declared before.
abbrev pub marker_among : Bindings → Names → (symbol : ℕ) → Bound → Pieces → Option ℕ
marker_among b names symbol first End = None
marker_among b names symbol first (Then (Node at w parts) statements) =
    if is_named_early b symbol first (Node at w parts) then Some at.id.0
    else if contains (declared_by_statement names (Node at w parts)) symbol then None else marker_among b names symbol first statements
marker_among b names symbol first (Then statement statements) = marker_among b names symbol first statements

-- True of a symbol of the list's scope, or of a block right inside it that the list declares by itself.
abbrev pub is_of_list : Bindings → StatementList → (symbol : ℕ) → Bound → Bool
is_of_list b list symbol first =
    list_any (λ (s : SymbolId). nat_eq s.0 symbol) (bindings_with_child_blocks b.scopes b.symbols list.scope)
    && (nat_eq (symbol_scope b.symbols symbol).0 list.scope || is_direct first.node.0 list.statements)

-- The marker of a symbol in a list.
abbrev pub marker_in : Bindings → Names → (symbol : ℕ) → Bound → StatementList → Option ℕ
marker_in b names symbol first list =
    if is_hoistable first.kind && is_of_list b list symbol first then marker_among b names symbol first list.statements else None

-- True of a symbol that has its marker before a node is lowered.
abbrev pub is_marked_before : Bindings → Names → (marked : Syntax) → (node symbol : ℕ) → Bool
is_marked_before b names marked node symbol =
    of_item false (λ first. list_any (λ list. of_item false (λ m. nat_le m node) (marker_in b names symbol first list)) (lists_in marked))
    (slice_get b.symbols symbol)

-- True of a context identifier where a node is lowered: a variable that inner functions share, or one with a marker.
abbrev pub is_context_at : Bindings → Names → (marked : Syntax) → (node symbol : ℕ) → Bool
is_context_at b names marked node symbol = is_context b (sites_in marked) symbol || is_marked_before b names marked node symbol
