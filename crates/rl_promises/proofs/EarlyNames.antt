-- In a covered function no variable is a context identifier, so each name in a binding pattern takes its piece before all other parts of
-- the pattern, in the port's run.
use Rattle.std.proofs.Common.{◌≡◌, ◌<◌, ◌≢◌, ℕ, Bool, true, false, true≢false, ◌&&◌, ◌||◌, not, nat_eq, nat_le, nat_lt, eqb-true, leb-true}
use Rattle.std.proofs.Common.{ltb-true, if◌then◌else◌, inl, inr, Option, Some, None, List, [], ◌++◌, slice_get, unwrap_or, refl, sym, ap}
use Rattle.std.proofs.Common.{subst, ◌∙◌, arith}
use Rattle.std.proofs.lemmas.Bool.{and_parts}
use Rattle.std.specs.List.{AllByRecursion, list_any}
use Rattle.rl_ast.proofs.MarkedFunctions.{Inside, InsideOf, IsMarked, first_found, inside_placed, marked_fits}
use Rattle.rl_ast.specs.Marked.{first, is_marked, marked_functions}
use Rattle.rl_ast.specs.Units.{IsOfGrammar}
use Rattle.rl_base.specs.declared.ids.SymbolId.{SymbolId}
use Rattle.rl_bindings.specs.Events.{top}
use Rattle.rl_bindings.specs.Names.{names_in}
use Rattle.rl_bindings.specs.Symbols.{binding, bounds}
use Rattle.rl_bindings.specs.Tables.{events_in, scopes_in, symbols_in}
use Rattle.rl_bindings.specs.declared.bindings.Bindings.{Bindings}
use Rattle.rl_bindings.specs.declared.event.Bound.{Bound}
use Rattle.rl_model.specs.Code.{contains, is_no_code}
use Rattle.rl_model.specs.Hoisting as hoisting
use Rattle.rl_model.specs.Hoisting.{StatementList, body_list, declared_by_statement, is_around, is_context_at, is_declaration, is_direct}
use Rattle.rl_model.specs.Hoisting.{is_fundecl, is_hoistable, is_hoisted_kind, is_marked_before, is_named_early, is_of_list, is_use_of}
use Rattle.rl_model.specs.Hoisting.{lists_among, lists_in, marker_among, marker_in, uses_in}
use Rattle.rl_model.specs.Marked.{marked}
use Rattle.rl_model.specs.PortedScenes.{ported_scene}
use Rattle.rl_model.specs.Scene.{Scene}
use Rattle.rl_model.specs.Tables.{tables_of}
use Rattle.rl_model.specs.Units.{names_of}
use Rattle.rl_names.proofs.Declarations.{declared_by_nodes, declares}
use Rattle.rl_names.proofs.FunctionScopes.{IsOther, found, scope_inside_parts}
use Rattle.rl_names.proofs.Items.{Has, each-append, each_has, each_weaker}
use Rattle.rl_names.proofs.MarkedScopes.{scope_above}
use Rattle.rl_names.proofs.SymbolNumbers.{symbol_declared}
use Rattle.rl_names.proofs.UnitSymbols.{split_has}
use Rattle.rl_names.specs.Functions.{body_in}
use Rattle.rl_names.specs.Names.{Names}
use Rattle.rl_promises.proofs.FunctionKinds.{FunctionKinds, function_kinds, unhoisted}
use Rattle.rl_promises.proofs.CoveredWorlds.{body_covered}
use Rattle.rl_promises.proofs.NoContexts.{no_context, no_inner_use, none_passes}
use Rattle.rl_promises.proofs.VariableKinds.{IsPlainKind, declared_within, only_plain}
use Rattle.rl_promises.proofs.VariableTrees.{HasVariables, HaveVariables, inside_through, is_named}
use Rattle.rl_promises.specs.Covered.{AreCovered, IsCovered, IsCoveredFunction}
use Rattle.rl_resolver.specs.Children.{bindings_with_child_blocks}
use Rattle.rl_resolver.specs.Lookups.{is_number, symbol_scope}
use Rattle.rl_semantic.specs.Items.{of_item}
use Rattle.rl_syntax.specs.Syntax.{Syntax, Node, Listed, Said, Count, Flag, Absent, Pieces, End, Then, IsPlaced, inside, outset}
use Rattle.rl_syntax.specs.Words.{makes_scope}
use Rattle.rl_syntax.specs.declared.numbered.At.{At}
use Rattle.rl_syntax.specs.declared.word.Word.{Word}
use Rattle.rl_syntax.specs.declared.word.Word.TheVariants as word

-- Each name in a binding pattern takes its piece before all other parts of the pattern.
abbrev pub IsEarly : Scene → Type 0
IsEarly scene = (everywhere : Bool) (bind : ℕ) → scene.takes_early everywhere bind ≡ true

-- A variable that no function declaration declares gets no marker in covered statements.
module _ (b : Bindings) (names : Names) (symbol : ℕ) (first : Bound) where
  named_late : (s : Syntax) → IsCovered s → is_hoisted_kind first.kind ≡ false → is_named_early b symbol first s ≡ false
  named_late s covered plain =
      ap (λ (x : Bool). x || (is_hoisted_kind first.kind
      && (list_any (is_use_of b symbol) (uses_in false s) || (not (is_fundecl s) && is_around first.node.0 s))))
      (no_inner_use b symbol s covered)
      ∙ ap (λ (x : Bool). x && (list_any (is_use_of b symbol) (uses_in false s) || (not (is_fundecl s) && is_around first.node.0 s))) plain

  by_tests : (named declared : Bool) (at : At) (more : Option ℕ) → named ≡ false → more ≡ None
      → (if named then Some at.id.0 else if declared then None else more) ≡ None
  by_tests true declared at more late none = absurd (true≢false late)
  by_tests false true at more late none = refl
  by_tests false false at more late none = none

  none_marked : (statements : Pieces) → AreCovered statements → is_hoisted_kind first.kind ≡ false
      → marker_among b names symbol first statements ≡ None
  none_marked End covered plain = refl
  none_marked (Then (Node at w parts) statements) covered plain =
      by_tests (is_named_early b symbol first (Node at w parts))
      (contains (declared_by_statement names (Node at w parts)) symbol) at _ (named_late (Node at w parts) covered.0 plain)
      (none_marked statements covered.1 plain)
  none_marked (Then _ statements) covered plain = none_marked statements covered.1 plain

-- A list of statements that marks no variable whose first declaration is `first`: where that is one of a function, it stands elsewhere.
record IsUnmarked (first : Bound) (list : StatementList) : Type 0 where
  covered : AreCovered list.statements
  above : 0 < list.scope
  scope : is_hoisted_kind first.kind ≡ true → first.scope.0 ≢ list.scope
  direct : is_hoisted_kind first.kind ≡ true → is_direct first.node.0 list.statements ≡ false

never_and : (x : Bool) → x && false ≡ false
never_and true = refl
never_and false = refl

module _ (u : Syntax) (names : Names) (symbol : ℕ) (first : Bound) (known : slice_get (symbols_in u) symbol ≡ Some first) where
  not_same : (k scope : ℕ) → k ≢ scope → nat_eq k scope ≡ false
  not_same k scope apart = by_test (nat_eq k scope) refl
    where
      by_test : (x : Bool) → nat_eq k scope ≡ x → x ≡ false
      by_test true is = absurd (apart (eqb-true k scope is))
      by_test false is = refl

  chosen : (found : Bool) (list : StatementList) → first.scope.0 ≢ list.scope → 0 < list.scope
      → nat_eq (if found then first.scope else record { 0 = 0 }).0 list.scope ≡ false
  chosen true list apart above = not_same first.scope.0 list.scope apart
  chosen false list apart above = not_same 0 list.scope (λ same. absurd (omega (arith, above, same)))

  elsewhere : (list : StatementList) → IsUnmarked first list → is_hoisted_kind first.kind ≡ true
      → is_of_list (tables_of u) list symbol first ≡ false
  elsewhere list unmarked hoisted =
      let scope : nat_eq (symbol_scope (symbols_in u) symbol).0 list.scope ≡ false =
      ap (λ (o : Option Bound). nat_eq (of_item (record { 0 = 0 })
      (λ b. if is_number symbol (binding (symbols_in u) b.scope.0 b.name) then b.scope else record { 0 = 0 }) o).0 list.scope) known
      ∙ chosen (is_number symbol (binding (symbols_in u) first.scope.0 first.name)) list (unmarked.scope hoisted) unmarked.above in
      (λ i. list_any (λ (s : SymbolId). nat_eq s.0 symbol)
      (bindings_with_child_blocks (scopes_in u) (symbols_in u) list.scope) && (scope i || unmarked.direct hoisted i))
      ∙ never_and _

  none_if : (test : Bool) (marker : Option ℕ) → marker ≡ None → (if test then marker else None) ≡ None
  none_if true marker none = none
  none_if false marker none = refl

  none_else : (hoistable of_list : Bool) (marker : Option ℕ) → of_list ≡ false → (if hoistable && of_list then marker else None) ≡ None
  none_else true true marker none = absurd (true≢false none)
  none_else true false marker none = refl
  none_else false of_list marker none = refl

  no_marker : (list : StatementList) → IsUnmarked first list → marker_in (tables_of u) names symbol first list ≡ None
  no_marker list unmarked = by_test (is_hoisted_kind first.kind) refl
    where
      by_test : (hoisted : Bool) → is_hoisted_kind first.kind ≡ hoisted → marker_in (tables_of u) names symbol first list ≡ None
      by_test true is =
          none_else (is_hoistable first.kind) (is_of_list (tables_of u) list symbol first) _ (elsewhere list unmarked is)
      by_test false is =
          none_if (is_hoistable first.kind && is_of_list (tables_of u) list symbol first) _
          (none_marked (tables_of u) names symbol first list.statements unmarked.covered is)

-- The lists of statements of a covered function that stands in a unit.
module _ (u : Syntax) (placed : IsPlaced outset u) (at : At) (w : Word) (ps : Pieces) (kinds : FunctionKinds at w ps)
    (there : Inside (Node at w ps) u) (above : 0 < at.scope.0) (first : Bound) (has : Has (bounds (events_in u)) first) where
  has_by_nodes : Has (declares (names_in u) top u) first
  has_by_nodes = subst (λ l. Has l first) (declared_by_nodes (names_in u) u top) has

  apart_from_top : (k : ℕ) → 0 < k → IsOther k top
  apart_from_top k high = record {
    scope = λ same. absurd (omega (arith, high, same));
    function = λ same. absurd (omega (arith, high, same));
  }

  -- Its own scope holds no name of a function declaration.
  own_scope : is_hoisted_kind first.kind ≡ true → first.scope.0 ≢ at.scope.0
  own_scope hoisted same =
      let place = found at w ps kinds.maker (names_in u) u top outset placed (apart_from_top at.scope.0 above) there in
      let some = declares (names_in u) place.over (Node at w ps) in
      let own = split_has at.scope.0 (declares (names_in u) top u) some first place.splits same has_by_nodes in
      true≢false (sym hoisted
      ∙ each_has (λ (b : Bound). b.scope.0 ≡ at.scope.0 → is_hoisted_kind b.kind ≡ false) some first
      (kinds.own (names_in u) place.over place.other) own same)

  -- An inner scope has a number of its own, and holds none either.

  inner_above : (bt : At) (v : Word) (qs : Pieces) → makes_scope v ≡ true → InsideOf (Node bt v qs) ps → 0 < bt.scope.0
  inner_above bt v qs maker within =
      let stands = inside_placed u (Node at w ps) outset placed there in
      let among = scope_inside_parts bt v qs maker ps (inside stands.from w) stands.placed.1 within in
      let own = stands.placed.0.scope in
      let low = among.above in omega (arith, above, own, low)

  inner_scope : (bt : At) (v : Word) (qs : Pieces) → makes_scope v ≡ true → InsideOf (Node bt v qs) ps → HasVariables false (Node bt v qs)
      → is_hoisted_kind first.kind ≡ true → first.scope.0 ≢ bt.scope.0
  inner_scope bt v qs maker within v' hoisted same =
      let inside_u = inside_through (Node bt v qs) (Node at w ps) (inr within) u there in
      let place = found bt v qs maker (names_in u) u top outset placed
      (apart_from_top bt.scope.0 (inner_above bt v qs maker within)) inside_u in
      let some = declares (names_in u) place.over (Node bt v qs) in
      let own = split_has bt.scope.0 (declares (names_in u) top u) some first place.splits same has_by_nodes in
      true≢false (sym hoisted
      ∙ unhoisted first.kind (each_has IsPlainKind some first
      (only_plain (names_in u) false (Node bt v qs) place.over (λ is. absurd (true≢false (sym is))) v') own))

  -- No `var` of it declares a function.
  var_apart : (bt : At) (qs : Pieces) → InsideOf (Node bt word.Var qs) ps → HasVariables false (Node bt word.Var qs)
      → is_hoisted_kind first.kind ≡ true → is_around first.node.0 (Node bt word.Var qs) ≡ false
  var_apart bt qs within v hoisted = by_test (is_around first.node.0 (Node bt word.Var qs)) refl
    where
      by_test : (x : Bool) → is_around first.node.0 (Node bt word.Var qs) ≡ x → x ≡ false
      by_test false is = refl
      by_test true is =
          let both = and_parts (nat_le bt.id.0 first.node.0) (nat_lt first.node.0 bt.end.0) is in
          let inside_u = inside_through (Node bt word.Var qs) (Node at w ps) (inr within) u there in
          let d = declared_within bt word.Var qs (names_in u) u top outset first placed inside_u has_by_nodes
          (leb-true bt.id.0 first.node.0 both.0, ltb-true first.node.0 bt.end.0 both.1) in
          absurd (true≢false (sym hoisted
          ∙ unhoisted first.kind (each_has IsPlainKind (declares (names_in u) d.over (Node bt word.Var qs)) first
          (only_plain (names_in u) false (Node bt word.Var qs) d.over (λ is. absurd (true≢false (sym is))) v) d.has)))

  statement_apart : (named : Bool) (bt : At) (v : Word) (qs : Pieces) → InsideOf (Node bt v qs) ps → HasVariables named (Node bt v qs)
      → IsCovered (Node bt v qs) → is_hoisted_kind first.kind ≡ true → is_declaration v && is_around first.node.0 (Node bt v qs) ≡ false
  statement_apart named bt word.Var qs within v covered hoisted = var_apart bt qs within (refl, v.1) hoisted
  statement_apart named bt word.Classdecl qs within v covered hoisted = absurd (true≢false (sym covered.0))
  statement_apart named bt word.Fundecl qs within v covered hoisted = absurd (true≢false (sym covered.0))
  statement_apart named bt _ qs within v covered hoisted = refl

  direct_none : (named : Bool) (statements : Pieces) → ((x : Syntax) → InsideOf x statements → InsideOf x ps)
      → HaveVariables named statements → AreCovered statements → is_hoisted_kind first.kind ≡ true
      → is_direct first.node.0 statements ≡ false
  direct_none named End within v covered hoisted = refl
  direct_none named (Then (Node bt w' qs) statements) within v covered hoisted =
      ap (λ (x : Bool). x || is_direct first.node.0 statements)
      (statement_apart named bt w' qs (within (Node bt w' qs) (inl (inl refl))) v.0 covered.0 hoisted)
      ∙ direct_none named statements (λ x i. within x (inr i)) v.1 covered.1 hoisted
  direct_none named (Then _ statements) within v covered hoisted =
      direct_none named statements (λ x i. within x (inr i)) v.1 covered.1 hoisted

  -- A list of an inner node that makes a scope.
  inner_list : (bt : At) (v : Word) (qs : Pieces) (named : Bool) (statements : Pieces) → makes_scope v ≡ true → InsideOf (Node bt v qs) ps
      → HasVariables false (Node bt v qs) → ((x : Syntax) → InsideOf x statements → InsideOf x ps) → HaveVariables named statements
      → AreCovered statements → IsUnmarked first (record { scope = bt.scope.0; statements = statements })
  inner_list bt v qs named statements maker within v' inner variables covered = record {
    covered = covered;
    above = inner_above bt v qs maker within;
    scope = inner_scope bt v qs maker within v';
    direct = direct_none named statements inner variables covered;
  }

  all_if : (test : Bool) (lists : List StatementList) → AllByRecursion (IsUnmarked first) lists
      → AllByRecursion (IsUnmarked first) (if test then [] else lists)
  all_if true lists all = tt
  all_if false lists all = all

  mutual
    lists_unmarked : (named : Bool) (e : Syntax) → ((x : Syntax) → Inside x e → InsideOf x ps) → HasVariables named e → IsCovered e
        → AllByRecursion (IsUnmarked first) (lists_in e)
    lists_unmarked named (Node bt word.Block (Then (Listed statements) End)) within v covered = (
      inner_list bt word.Block (Then (Listed statements) End) false statements refl
          (within (Node bt word.Block (Then (Listed statements) End)) (inl refl)) (refl, v.1) (λ x i. within x (inr (inl i))) v.1.0
          covered.1.0,
      lists_all false statements (λ x i. within x (inr (inl i))) v.1.0 covered.1.0,
    )
    lists_unmarked named (Node bt word.Catch (Then param (Then (Node there word.Block (Then (Listed statements) End)) End))) within v
        covered =
        each-append (IsUnmarked first) (hoisting.list_of bt statements ++ lists_in param) (lists_among statements) (
          inner_list bt word.Catch (Then param (Then (Node there word.Block (Then (Listed statements) End)) End)) false statements refl
              (within (Node bt word.Catch (Then param (Then (Node there word.Block (Then (Listed statements) End)) End))) (inl refl))
              (refl, v.1) (λ x i. within x (inr (inr (inl (inr (inl i)))))) v.1.1.0.1.0 covered.1.1.0.1.0,
          lists_unmarked true param (λ x i. within x (inr (inl i))) v.1.0 covered.1.0,
        )
        (lists_all false statements (λ x i. within x (inr (inr (inl (inr (inl i)))))) v.1.1.0.1.0 covered.1.1.0.1.0)
    lists_unmarked named (Node bt word.Arrow qs) within v covered = absurd (true≢false (sym covered.0))
    lists_unmarked named (Node bt word.Fundecl qs) within v covered = absurd (true≢false (sym covered.0))
    lists_unmarked named (Node bt word.Funexpr qs) within v covered = absurd (true≢false (sym covered.0))
    lists_unmarked named (Node bt word.Classdecl qs) within v covered = tt
    lists_unmarked named (Node bt word.Classexpr qs) within v covered = tt
    lists_unmarked named (Node bt word.Type qs) within v covered = tt
    lists_unmarked named (Node bt v qs) within variables covered =
        lists_all (is_named named v) qs (λ x i. within x (inr i)) variables.1 covered.1
    lists_unmarked named (Listed qs) within v covered = lists_all named qs within v covered
    lists_unmarked named (Said text) within v covered = tt
    lists_unmarked named (Count number) within v covered = tt
    lists_unmarked named (Flag flag) within v covered = tt
    lists_unmarked named Absent within v covered = tt

    lists_all : (named : Bool) (qs : Pieces) → ((x : Syntax) → InsideOf x qs → InsideOf x ps) → HaveVariables named qs → AreCovered qs
        → AllByRecursion (IsUnmarked first) (lists_among qs)
    lists_all named End within v covered = tt
    lists_all named (Then q qs) within v covered =
        each-append (IsUnmarked first) (lists_in q) (lists_among qs) (lists_unmarked named q (λ x i. within x (inl i)) v.0 covered.0)
        (lists_all named qs (λ x i. within x (inr i)) v.1 covered.1)

  body_unmarked : (body : Syntax) → ((x : Syntax) → Inside x body → InsideOf x ps) → HasVariables false body → IsCovered body
      → AllByRecursion (IsUnmarked first) (body_list at body)
  body_unmarked (Node bt word.Body (Then directives (Then (Listed statements) End))) within v covered = (
    record {
      covered = covered.1.1.0;
      above = above;
      scope = own_scope;
      direct = direct_none false statements (λ x i. within x (inr (inr (inl i)))) v.1.1.0 covered.1.1.0;
    },
    tt,
  )
  body_unmarked _ within v covered = tt

  -- The parts of the function by the lists of its form.
  function_unmarked : IsCovered (body_in (Node at w ps))
      → lists_in (Node at w ps) ≡ (if is_no_code w ps then [] else body_list at (body_in (Node at w ps)) ++ lists_among ps)
      → AllByRecursion (IsUnmarked first) (lists_in (Node at w ps))
  function_unmarked body form =
      subst (AllByRecursion (IsUnmarked first)) (sym form)
      (all_if (is_no_code w ps) (body_list at (body_in (Node at w ps)) ++ lists_among ps)
      (each-append (IsUnmarked first) (body_list at (body_in (Node at w ps))) (lists_among ps)
      (body_unmarked (body_in (Node at w ps)) kinds.body kinds.body_variables body)
      (lists_all true ps (λ x i. i) kinds.variables kinds.covered)))

-- The lists of a function's node.
abbrev HasLists : Syntax → Type 0
HasLists (Node at w ps) =
    lists_in (Node at w ps) ≡ (if is_no_code w ps then [] else body_list at (body_in (Node at w ps)) ++ lists_among ps)
HasLists _ = Unit {0}

function_lists : (f : Syntax) → IsCoveredFunction f → HasLists f
function_lists (Node at word.Arrow ps) covered = refl
function_lists (Node at word.Fundecl ps) covered = refl
function_lists (Node at word.Funexpr ps) covered = refl
function_lists _ covered = absurd covered

-- The node of a marked function is marked.
is_marked_node : (f : Syntax) (at : At) (w : Word) (ps : Pieces) → f ≡ Node at w ps → IsMarked f → is_marked w ps ≡ true
is_marked_node f at w ps is m =
    let words : w ≡ m.word = cc in
    let pieces : ps ≡ m.parts = cc in (λ i. is_marked (words i) (pieces i)) ∙ m.marked

-- A variable of a unit whose marked function is covered is no context identifier in that function.
module _ (u f : Syntax) (grammar : IsOfGrammar u) (placed : IsPlaced outset u) (is : first (marked_functions u) ≡ Some f)
    (covered : IsCoveredFunction f) where
  all_unmarked : (b : Bound) → Has (bounds (events_in u)) b → AllByRecursion (IsUnmarked b) (lists_in f)
  all_unmarked b has =
      let n = function_kinds f (marked_fits u f is grammar) covered in
      let found = first_found u f is in
      let marks = is_marked_node f n.at n.w n.parts n.is found.1 in
      let there : Inside (Node n.at n.w n.parts) u = subst (λ t. Inside t u) n.is found.0 in
      subst (λ t. AllByRecursion (IsUnmarked b) (lists_in t)) (sym n.is)
      (function_unmarked u placed n.at n.w n.parts n.kinds there
      (scope_above n.at n.w n.parts marks n.kinds.maker u outset grammar placed there) b has
      (subst (λ t. IsCovered (body_in t)) n.is (body_covered f covered))
      (subst HasLists n.is (function_lists f covered)))

  no_mark : (node symbol : ℕ) → is_marked_before (tables_of u) (names_of u) f node symbol ≡ false
  no_mark node symbol = by_symbol (slice_get (symbols_in u) symbol) refl
    where
      by_symbol : (o : Option Bound) → slice_get (symbols_in u) symbol ≡ o
          → of_item false (λ b. list_any (λ list. of_item false (λ m. nat_le m node)
          (marker_in (tables_of u) (names_of u) symbol b list)) (lists_in f)) o ≡ false
      by_symbol None known = refl
      by_symbol (Some b) known =
          none_passes (λ list. of_item false (λ m. nat_le m node) (marker_in (tables_of u) (names_of u) symbol b list)) (lists_in f)
          (each_weaker (IsUnmarked b) (λ list. of_item false (λ m. nat_le m node)
          (marker_in (tables_of u) (names_of u) symbol b list) ≡ false) (lists_in f)
          (λ list unmarked. ap (λ (o : Option ℕ). of_item false (λ m. nat_le m node) o)
          (no_marker u (names_of u) symbol b known list unmarked))
          (all_unmarked b (symbol_declared (bounds (events_in u)) symbol b known)))

  no_context_at : (node symbol : ℕ) → is_context_at (tables_of u) (names_of u) f node symbol ≡ false
  no_context_at node symbol = (λ i. no_context (tables_of u) symbol f covered i || no_mark node symbol i)

  pub names_early : (pick : (bind : ℕ) → Option SymbolId) → IsEarly (ported_scene u pick f)
  names_early pick true bind = refl
  names_early pick false bind = by_name ((names_of u).declared bind)
    where
      by_name : (o : Option SymbolId)
          → of_item true (λ (s : SymbolId). not (is_context_at (tables_of u) (names_of u) (marked u) bind s.0)) o ≡ true
      by_name None = refl
      by_name (Some symbol) =
          ap (λ (t : Syntax). not (is_context_at (tables_of u) (names_of u) t bind symbol.0))
          (ap (λ (o : Option Syntax). unwrap_or o Absent) is)
          ∙ ap not (no_context_at bind symbol.0)
