-- The local variables of a covered function of a unit: its parameters, each with a symbol and a name of its own, and the variables that
-- its body declares.
use Rattle.std.proofs.Common.{◌≡◌, ◌≤◌, ◌<◌, ◌+◌, ◌^◌, Bool, true, false, true≢false, ◌&&◌, ◌||◌, if◌then◌else◌, ℕ, inl, inr, Option, Some, None, [], ◌++◌, length, slice_get, append_assoc, All, refl, sym, ap, subst, ◌∙◌, arith}
use Rattle.std.proofs.lemmas.Bool.{or_parts}
use Rattle.std.proofs.lemmas.List.Elements.{All-from_recursion}
use Rattle.std.proofs.lemmas.Option.{slice_get_within}
use Rattle.std.specs.List.{AllByRecursion, list_any}
use Rattle.std.specs.Option.{option_map}
use Rattle.rl_ast.proofs.MarkedFunctions.{Inside, IsMarked, first_found, inside_placed, marked_fits}
use Rattle.rl_ast.specs.Marked.{first, is_marked, marked_functions}
use Rattle.rl_ast.specs.Units.{IsOfGrammar}
use Rattle.rl_base.specs.declared.ids.ScopeId.{ScopeId}
use Rattle.rl_base.specs.declared.span.Span.{Span}
use Rattle.rl_bindings.proofs.SymbolTables.{both_right}
use Rattle.rl_bindings.specs.Events.{top}
use Rattle.rl_bindings.specs.NameRules.{clashes, is_lexical_clash, is_misplaced, is_passing, is_repeat, is_type, is_type_clash, least, lexical_of}
use Rattle.rl_bindings.specs.Names.{names_in, texts, texts_of}
use Rattle.rl_bindings.specs.Standing.{standing}
use Rattle.rl_bindings.specs.Symbols.{binding, bounds, is_own}
use Rattle.rl_bindings.specs.Tables.{events_in, references_in, scopes_in, symbols_in}
use Rattle.rl_bindings.specs.declared.event.BindKind.{BindKind}
use Rattle.rl_bindings.specs.declared.event.BindKind.TheVariants as kind
use Rattle.rl_bindings.specs.declared.event.Bound.{Bound}
use Rattle.rl_names.proofs.Declarations.{Ascends, ascending, ascends_few, declared_by_nodes, declares}
use Rattle.rl_names.proofs.FunctionScopes.{Found, IsOther, Splits, found, scope_inside_parts}
use Rattle.rl_names.proofs.Items.{Has, each_has, each_weaker, has_cases, has_left}
use Rattle.rl_names.proofs.MarkedScopes.{scope_above}
use Rattle.rl_names.proofs.Marks.{keeps_named}
use Rattle.rl_names.proofs.NameTexts.{IsKnown, texts_inside, texts_known}
use Rattle.rl_context.specs.Index.{declaration_span, span_among}
use Rattle.rl_context.specs.Sites.{sites_in}
use Rattle.rl_promises.proofs.ParameterDeclarations.{IsFirst, row_first}
use Rattle.rl_promises.proofs.ParameterSites.{row_sited}
use Rattle.rl_names.proofs.PlainParameters.{param_above}
use Rattle.rl_names.specs.Functions.{parameters_of}
use Rattle.rl_names.specs.declared.parameters.Parameter.{Parameter}
use Rattle.rl_names.proofs.ParameterNames.{IsParam, IsTold, clashes_last}
use Rattle.rl_names.proofs.SymbolNumbers.{HasSymbol, few_symbols, symbol_declared}
use Rattle.rl_names.proofs.UnitSymbols.{has_split, meaning_local, not_repeated, split_has, told, unit_names}
use Rattle.rl_names.proofs.UnitTexts.{unit_texts}
use Rattle.rl_names.specs.Locals.{AreApart, DeclaresAll}
use Rattle.rl_names.specs.Names.{at_of, function_names, is_local, is_scope_inside, is_variable, parameters_among, parameters_in}
use Rattle.rl_promises.specs.Covered.{IsCoveredFunction}
use Rattle.rl_promises.specs.Locals.{DeclaresVariable, HasLocals, IsSmallSpan, IsVariable}
use Rattle.rl_promises.proofs.FirstDeclarations.{Leads, first_leads, first_value, has_lead, leads_further}
use Rattle.rl_promises.proofs.FunctionParts.{FunctionParts, function_parts}
use Rattle.rl_promises.proofs.InnerScopes.{scope_in_function}
use Rattle.rl_promises.proofs.ParameterDeclarations.{all_bounds, all_declared, row_apart, row_bounds, row_named, row_params, row_spanned}
use Rattle.rl_promises.proofs.ReferenceRanges.{scope_counts}
use Rattle.rl_promises.proofs.SmallNames.{HasSmallSpan, small_spans, symbol_utf8}
use Rattle.rl_promises.proofs.ToldApart.{told_apart}
use Rattle.rl_promises.proofs.VariableTrees.{DeclareVariables, InnerScope, IsValue, inside_through, only_values}
use Rattle.rl_resolver.specs.Imported.{import_data}
use Rattle.rl_resolver.specs.Kinds.{has_identifier}
use Rattle.rl_resolver.specs.Lookups.{declaration_ident, identified, is_number, symbol_name, symbol_of_reference}
use Rattle.rl_semantic.specs.Imports.{imports_in}
use Rattle.rl_semantic.specs.Items.{of_item}
use Rattle.rl_semantic.specs.Rules.{least_broken}
use Rattle.rl_syntax.specs.Nodes.{entries}
use Rattle.rl_syntax.specs.Syntax.{Syntax, Node, Pieces, inside, nodes, outset, plain, width, IsPlaced}
use Rattle.rl_syntax.specs.declared.numbered.At.{At}
use Rattle.rl_syntax.specs.declared.word.Word.{Word}
use Rattle.rl_text.specs.Notation.{IsWritable}

marked_again : (f : Syntax) (at : At) (w : Word) (ps : Pieces) → f ≡ Node at w ps → IsMarked f → is_marked w ps ≡ true
marked_again f at w ps is m =
    let words : w ≡ m.word = cc in
    let pieces : ps ≡ m.parts = cc in
    (λ i. is_marked (words i) (pieces i)) ∙ m.marked

-- Names that break no rule have no type beside another declaration of its name.
not_shared : (clashed passing repeated shared : Bool) → least clashed passing repeated shared ≡ None → shared ≡ false
not_shared true passing repeated shared none = absurd (cc)
not_shared false true repeated shared none = absurd (cc)
not_shared false false true shared none = absurd (cc)
not_shared false false false true none = absurd (cc)
not_shared false false false false none = refl

value_identified : (k : BindKind) → is_type k ≡ false → has_identifier k ≡ true
value_identified kind.Interface value = absurd (true≢false value)
value_identified _ value = refl

-- The span of a symbol's declaration identifier, of a unit's symbol.
abbrev span_of_symbol : Syntax → (symbol : ℕ) → Option Span
span_of_symbol u symbol = option_map (λ b. b.span) (declaration_ident (symbols_in u) symbol)

-- The declarations and symbols of a unit that breaks no rule.
module _ (u : Syntax) (placed : IsPlaced outset u) (kept : least_broken u ≡ None) (few : nodes u ≤ 65536) where
  no_repeat : clashes is_repeat [] (bounds (events_in u)) ≡ false
  no_repeat =
      let es = events_in u in
      not_repeated (clashes is_lexical_clash [] (bounds es))
      (list_any (is_passing (lexical_of es)) (standing (names_in u) (lexical_of es) top [] u)) (clashes is_repeat [] (bounds es)) _
      (keeps_named u kept)

  no_type_clash : clashes is_type_clash [] (bounds (events_in u)) ≡ false
  no_type_clash =
      let es = events_in u in
      let lexical = clashes is_lexical_clash [] (bounds es) in
      let passing = list_any (is_passing (lexical_of es)) (standing (names_in u) (lexical_of es) top [] u) in
      (or_parts (clashes is_type_clash [] (bounds es)) (list_any is_misplaced (bounds es))
      (not_shared lexical passing (clashes is_repeat [] (bounds es))
      (clashes is_type_clash [] (bounds es) || list_any is_misplaced (bounds es)) (keeps_named u kept))).0

  -- A unit has fewer symbols than the notation has numbers.
  symbol_small : (symbol : ℕ) (b : Bound) → slice_get (symbols_in u) symbol ≡ Some b → symbol ≤ 2 ^ 53
  symbol_small symbol b is =
      let rising : Ascends 0 (0 + nodes u) (bounds (events_in u)) =
      subst (λ l. Ascends 0 (0 + nodes u) l) (sym (declared_by_nodes (names_in u) u top)) (ascending (names_in u) u top outset placed) in
      let index : symbol < length (symbols_in u) = slice_get_within (symbols_in u) symbol b is in
      let symbols : length (symbols_in u) ≤ length (bounds (events_in u)) = few_symbols (bounds (events_in u)) in
      let declarations = ascends_few 0 (0 + nodes u) (bounds (events_in u)) rising in
      omega (arith, index, symbols, declarations, few)

  -- A symbol that is known by a declaration of no type is a variable.
  known_variable : (at : At) (symbol : ℕ) (b : Bound) → slice_get (symbols_in u) symbol ≡ Some b → is_type b.kind ≡ false
      → IsVariable (unit_names u at) (record { 0 = symbol })
  known_variable at symbol b is value = record {
    at = b.span;
    declared = ap (λ (o : Option Bound). option_map (λ b. b.span) (of_item None identified o)) is
        ∙ ap (λ (x : Bool). option_map (λ (c : Bound). c.span) (if x then Some b else None)) (value_identified b.kind value);
    small = symbol_small symbol b is;
  }

  -- The node of a declaration of no type declares a variable.
  value_declares : (at : At) (b : Bound) → Has (bounds (events_in u)) b → is_type b.kind ≡ false
      → DeclaresVariable (unit_names u at) b.node.0
  value_declares at b has value =
      let t = told u at placed few b has in
      record {
        symbol = record { 0 = t.symbol.number };
        is = t.declared;
        variable = known_variable at t.symbol.number t.symbol.first t.symbol.there
            (first_value (bounds (events_in u)) b no_type_clash has value t.symbol);
      }

  -- The declaration identifiers of a unit's symbols have small spans, if the unit stands in a short text.
  spans_small : width u < 2 ^ 32 → (symbol : ℕ) (span : Span) → span_of_symbol u symbol ≡ Some span → IsSmallSpan span
  spans_small short symbol span is = by_bound (slice_get (symbols_in u) symbol) refl is
    where
      all_small : AllByRecursion HasSmallSpan (bounds (events_in u))
      all_small = subst (λ l. AllByRecursion HasSmallSpan l) (sym (declared_by_nodes (names_in u) u top))
          (small_spans (names_in u) u top outset placed (omega (arith, short)))

      by_kind : (b : Bound) (x : Bool) → HasSmallSpan b → option_map (λ (c : Bound). c.span) (if x then Some b else None) ≡ Some span
          → IsSmallSpan span
      by_kind b true small is = let same : b.span ≡ span = cc in subst IsSmallSpan same small
      by_kind b false small is = absurd (cc)

      by_bound : (o : Option Bound) → slice_get (symbols_in u) symbol ≡ o
          → option_map (λ (c : Bound). c.span) (of_item None identified o) ≡ Some span → IsSmallSpan span
      by_bound None there is = absurd (cc)
      by_bound (Some b) there is =
          by_kind b (has_identifier b.kind)
          (each_has HasSmallSpan (bounds (events_in u)) b all_small (symbol_declared (bounds (events_in u)) symbol b there)) is

  -- A function of the unit that is marked, by its parts.
  module _ (f : Syntax) (p : FunctionParts f) (there : Inside (Node p.at p.w p.parts) u) (above : 0 < p.at.scope.0) where
    -- A scope with another number than the program's.
    apart_from_top : (k : ℕ) → 0 < k → IsOther k top
    apart_from_top k high = record {
      scope = λ same. absurd (omega (arith, high, same));
      function = λ same. absurd (omega (arith, high, same));
    }

    place : Found p.at p.w p.parts p.maker (names_in u) (declares (names_in u) top u)
    place = found p.at p.w p.parts p.maker (names_in u) u top outset placed (apart_from_top p.at.scope.0 above) there

    -- The declarations of a unit that bind in the scope of the function are the function's.
    function_splits : Splits p.at.scope.0 (bounds (events_in u)) (declares (names_in u) place.over f)
    function_splits =
        subst (λ t. Splits p.at.scope.0 (bounds (events_in u)) (declares (names_in u) place.over t)) (sym p.is)
        (subst (λ l. Splits p.at.scope.0 l (declares (names_in u) place.over (Node p.at p.w p.parts)))
        (sym (declared_by_nodes (names_in u) u top)) place.splits)

    -- Before the parameters the scope of the function holds own names alone.
    params_lead : Leads p.at.scope.0 (bounds (events_in u)) (all_bounds (names_in u) p.at p.items p.rest)
    params_lead =
        leads_further p.at.scope.0 (bounds (events_in u)) (declares (names_in u) place.over f)
        (all_bounds (names_in u) p.at p.items p.rest) function_splits (p.leads (names_in u) place.over place.other)

    -- The names tell of each declaration in the parameters which symbol it declares.
    params_told : (b : Bound) → Has (all_bounds (names_in u) p.at p.items p.rest) b
        → IsTold (names_in u) (symbols_in u) (unit_names u p.at) p.at b
    params_told b has =
        told u p.at placed few b
        (has_lead p.at.scope.0 (bounds (events_in u)) (all_bounds (names_in u) p.at p.items p.rest) b params_lead has)

    items_told : (b : Bound) → Has (row_bounds (names_in u) p.at p.items) b
        → IsTold (names_in u) (symbols_in u) (unit_names u p.at) p.at b
    items_told b has =
        params_told b (has_left (row_bounds (names_in u) p.at p.items) (row_bounds (names_in u) p.at p.rest) b has)

    params_known : AllByRecursion (IsKnown (names_in u)) (texts_of p.items)
    params_known =
        p.said (names_in u)
        (subst (λ t. AllByRecursion (IsKnown (names_in u)) (texts t)) (sym p.is)
        (texts_inside (IsKnown (names_in u)) u (Node p.at p.w p.parts) there (texts_known u)))

    params_unrepeated : clashes is_repeat params_lead.before (all_bounds (names_in u) p.at p.items p.rest ++ params_lead.after) ≡ false
    params_unrepeated =
        clashes_last is_repeat [] params_lead.before (all_bounds (names_in u) p.at p.items p.rest ++ params_lead.after)
        (subst (λ l. clashes is_repeat [] l ≡ false) params_lead.is no_repeat)

    -- Each of the declarations is one of a parameter.
    params_are : (b : Bound) → Has (all_bounds (names_in u) p.at p.items p.rest) b
        → IsParam (names_in u) (symbols_in u) (unit_names u p.at) p.at b
    params_are b has =
        elim (has_cases (row_bounds (names_in u) p.at p.items) (row_bounds (names_in u) p.at p.rest) b has) [
          | inl early ↦ row_params (names_in u) (symbols_in u) (unit_names u p.at) p.at p.items p.calm b early
          | inr late ↦ row_params (names_in u) (symbols_in u) (unit_names u p.at) p.at p.rest p.calm_rest b late
        ]

    params_apart : AreApart (parameters_among (unit_names u p.at) p.items)
    params_apart =
        let items = row_bounds (names_in u) p.at p.items in
        let rest = row_bounds (names_in u) p.at p.rest in
        row_apart (names_in u) (symbols_in u) (unit_names u p.at) p.at p.items params_lead.before (rest ++ params_lead.after)
        (λ b has. params_are b (has_left items rest b has)) items_told params_known
        (subst (λ l. clashes is_repeat params_lead.before l ≡ false) (append_assoc items rest params_lead.after) params_unrepeated)

    -- The symbol of a parameter is known by a parameter.
    params_first : (b : Bound) → Has (all_bounds (names_in u) p.at p.items p.rest) b → (s : HasSymbol (symbols_in u) b)
        → Has (all_bounds (names_in u) p.at p.items p.rest) s.first
    params_first b has s =
        let form = params_are b has in
        first_leads p.at.scope.0 (bounds (events_in u)) (all_bounds (names_in u) p.at p.items p.rest) b params_lead has
        (ap (λ x. x.0) form.scope_is) (ap is_own form.kind_is) s

    params_spanned : AllByRecursion (λ q. span_of_symbol u q.symbol.0 ≡ Some q.declaration) (parameters_among (unit_names u p.at) p.items)
    params_spanned =
        let items = row_bounds (names_in u) p.at p.items in
        let rest = row_bounds (names_in u) p.at p.rest in
        row_spanned (names_in u) (symbols_in u) (unit_names u p.at) p.at p.items (items ++ rest) params_lead.before params_lead.after
        (λ n. refl) (λ b has. has_left items rest b has) params_are items_told params_known params_unrepeated params_first

    -- The index of the function has the declaration of each parameter.
    pub params_sited : AllByRecursion (λ q. declaration_span (sites_in f) (symbols_in u) q.symbol.0 ≡ Some q.declaration)
        (parameters_among (unit_names u p.at) p.items)
    params_sited =
        let items = row_bounds (names_in u) p.at p.items in
        let rest = row_bounds (names_in u) p.at p.rest in
        each_weaker (IsFirst (names_in u) (symbols_in u) (unit_names u p.at) p.at items)
        (λ q. declaration_span (sites_in f) (symbols_in u) q.symbol.0 ≡ Some q.declaration) (parameters_among (unit_names u p.at) p.items)
        (λ q i. ap (λ (o : Option Bound). of_item None (span_among (sites_in f)) o) i.is
        ∙ ap (λ (b : Bool). if b then Some i.bound.span else None)
        (row_sited (names_in u) i.bound f p.pat p.items p.rest p.params p.calm (param_above p.at) i.has)
        ∙ ap (λ (s : Span). Some s) (sym i.span_is))
        (row_first (names_in u) (symbols_in u) (unit_names u p.at) p.at p.items (items ++ rest) params_lead.before params_lead.after
        (λ b has. has_left items rest b has) params_are items_told params_known params_unrepeated params_first)

    -- None of the function's declarations is of a type.
    function_values : AllByRecursion IsValue (declares (names_in u) place.over f)
    function_values = p.values (names_in u) place.over

    function_declares : DeclareVariables (unit_names u p.at) (declares (names_in u) place.over f)
    function_declares b has =
        value_declares p.at b (has_split p.at.scope.0 (bounds (events_in u)) (declares (names_in u) place.over f) b function_splits has)
        (each_has IsValue (declares (names_in u) place.over f) b function_values has)

    -- An inner scope of the function stands behind the function's.
    inner_above : (k : ℕ) (i : InnerScope k p.parts) → p.at.scope.0 < k
    inner_above k i =
        let stands = inside_placed u (Node p.at p.w p.parts) outset placed there in
        let among = scope_inside_parts i.at i.w i.parts i.maker p.parts (inside stands.from p.w) stands.placed.1 i.inside in
        let own = stands.placed.0.scope in
        let low = among.above in
        let number = i.number in
        let one = scope_counts p.w p.maker in
        omega (arith, own, low, number, one)

    -- No type is declared in an inner scope.
    inner_value : (k : ℕ) (i : InnerScope k p.parts) (b : Bound) → Has (bounds (events_in u)) b → b.scope.0 ≡ k → is_type b.kind ≡ false
    inner_value k i b has is =
        let inside_u = inside_through (Node i.at i.w i.parts) (Node p.at p.w p.parts) (inr i.inside) u there in
        let high : 0 < i.at.scope.0 = (let inner = inner_above k i in let number = i.number in omega (arith, inner, number)) in
        let place = found i.at i.w i.parts i.maker (names_in u) u top outset placed (apart_from_top i.at.scope.0 high) inside_u in
        let some = declares (names_in u) place.over (Node i.at i.w i.parts) in
        let splits : Splits i.at.scope.0 (bounds (events_in u)) some =
        subst (λ l. Splits i.at.scope.0 l some) (sym (declared_by_nodes (names_in u) u top)) place.splits in
        each_has IsValue some b
        (only_values (names_in u) false (Node i.at i.w i.parts) place.over (λ is. absurd (true≢false (sym is))) i.variables)
        (split_has i.at.scope.0 (bounds (events_in u)) some b splits (is ∙ sym i.number) has)

    own_value : (b : Bound) → Has (bounds (events_in u)) b → b.scope.0 ≡ p.at.scope.0 → is_type b.kind ≡ false
    own_value b has is =
        each_has IsValue (declares (names_in u) place.over f) b function_values
        (split_has p.at.scope.0 (bounds (events_in u)) (declares (names_in u) place.over f) b function_splits is has)

    -- A local variable is a variable.
    local_variable : (symbol : ℕ) → is_local p.at (scopes_in u) (symbols_in u) symbol ≡ true
        → IsVariable (unit_names u p.at) (record { 0 = symbol })
    local_variable symbol local = by_bound (slice_get (symbols_in u) symbol) refl local
      where
        chosen : Bool → Bound → ScopeId
        chosen t b = if t then b.scope else record { 0 = 0 }

        by_scope : (t : Bool) (b : Bound) → Has (bounds (events_in u)) b → is_scope_inside p.at (scopes_in u) (chosen t b).0 ≡ true
            → is_type b.kind ≡ false
        by_scope true b has within = elim (scope_in_function u p.at p.w p.parts placed there p.scopes b.scope.0 within) [
          | inl own ↦ own_value b has own
          | inr inner ↦ inner_value b.scope.0 inner b has refl
        ]
        by_scope false b has within = elim (scope_in_function u p.at p.w p.parts placed there p.scopes 0 within) [
          | inl own ↦ absurd (omega (arith, above, own))
          | inr inner ↦ absurd (let high = inner_above 0 inner in omega (arith, high))
        ]

        by_bound : (o : Option Bound) → slice_get (symbols_in u) symbol ≡ o
            → (of_item false (λ b. is_variable b.kind) o && is_scope_inside p.at (scopes_in u)
            (of_item (record { 0 = 0 }) (λ b. chosen (is_number symbol (binding (symbols_in u) b.scope.0 b.name)) b) o).0) ≡ true
            → IsVariable (unit_names u p.at) (record { 0 = symbol })
        by_bound None is within = absurd (true≢false (sym within))
        by_bound (Some b) is within =
            let named = is_number symbol (binding (symbols_in u) b.scope.0 b.name) in
            known_variable p.at symbol b is
            (by_scope named b (symbol_declared (bounds (events_in u)) symbol b is)
            (both_right (is_variable b.kind) (is_scope_inside p.at (scopes_in u) (chosen named b).0) within))

    function_locals : IsWritable (plain u) → width u < 2 ^ 32 → HasLocals (unit_names u p.at) f
    function_locals writable short =
        let names = unit_names u p.at in
        let parameters = parameters_among names p.items in
        let declared = p.declared names (names_in u) place.over function_declares in
        record {
          declared = subst (λ t. DeclaresAll names t) (sym p.params)
              (all_declared (names_in u) (symbols_in u) names p.at p.items items_told);
          apart = subst (λ t. AreApart (parameters_in names t)) (sym p.params) params_apart;
          locals = record {
            named =
                subst (λ t. All (λ q. symbol_name (names_in u) (symbols_in u) q.symbol.0 ≡ q.name) (parameters_in names t)) (sym p.params)
                (All-from_recursion (λ q. symbol_name (names_in u) (symbols_in u) q.symbol.0 ≡ q.name) parameters
                (row_named (names_in u) (symbols_in u) names p.at p.items (λ s. refl) items_told params_known));
            spanned = subst (λ t. All (λ q. span_of_symbol u q.symbol.0 ≡ Some q.declaration) (parameters_in names t)) (sym p.params)
                (All-from_recursion (λ q. span_of_symbol u q.symbol.0 ≡ Some q.declaration) parameters params_spanned);
          };
          params = declared.0;
          told = told_apart u f placed p there above inner_above (λ b has. (params_told b has, params_are b has));
          body = declared.1;
          knows = record {
            outer = unit_texts u (Node p.at p.w p.parts) writable;
            named = λ symbol. symbol_utf8 u writable (symbols_in u) symbol;
            spanned = λ symbol span is. spans_small short symbol span is;
            used = λ reference name symbol is.
                local_variable symbol.0
                (meaning_local (λ n. import_data (entries u) (imports_in u) (symbols_in u) n) p.at (scopes_in u) (symbols_in u)
                (symbol_of_reference (references_in u) reference) name symbol is);
          };
        }

-- In the names of a unit that breaks no rule, its marked function has its local variables, if it is covered.
pub has_locals : (u f : Syntax) → IsOfGrammar u → IsPlaced outset u → IsWritable (plain u) → width u < 2 ^ 32 → nodes u ≤ 65536
    → least_broken u ≡ None → first (marked_functions u) ≡ Some f → IsCoveredFunction f → HasLocals (function_names u f) f
has_locals u f grammar placed writable short few kept is covered =
    let there = first_found u f is in
    let p = function_parts f (marked_fits u f is grammar) covered in
    let within : Inside (Node p.at p.w p.parts) u = subst (λ t. Inside t u) p.is there.0 in
    let marked : is_marked p.w p.parts ≡ true = marked_again f p.at p.w p.parts p.is there.1 in
    subst (λ a. HasLocals (unit_names u a) f) (sym (ap at_of p.is))
    (function_locals u placed kept few f p within
    (scope_above p.at p.w p.parts marked p.maker u outset grammar placed within) writable short)

-- In a unit that breaks no rule, the index of its marked function has the declarations of its parameters, if it is covered.
pub has_sited : (u f : Syntax) → IsOfGrammar u → IsPlaced outset u → nodes u ≤ 65536
    → least_broken u ≡ None → first (marked_functions u) ≡ Some f → IsCoveredFunction f
    → All (λ q. declaration_span (sites_in f) (symbols_in u) q.symbol.0 ≡ Some q.declaration) (parameters_of (function_names u f) f)
has_sited u f grammar placed few kept is covered =
    let there = first_found u f is in
    let p = function_parts f (marked_fits u f is grammar) covered in
    let within : Inside (Node p.at p.w p.parts) u = subst (λ t. Inside t u) p.is there.0 in
    let marked : is_marked p.w p.parts ≡ true = marked_again f p.at p.w p.parts p.is there.1 in
    let Sited : Parameter → Type 0 = λ q. declaration_span (sites_in f) (symbols_in u) q.symbol.0 ≡ Some q.declaration in
    subst (λ a. All (λ q. declaration_span (sites_in f) (symbols_in u) q.symbol.0 ≡ Some q.declaration) (parameters_of (unit_names u a) f))
    (sym (ap at_of p.is))
    (subst (λ t. All (λ q. declaration_span (sites_in f) (symbols_in u) q.symbol.0 ≡ Some q.declaration) (parameters_in (unit_names u p.at) t))
    (sym p.params)
    (All-from_recursion Sited (parameters_among (unit_names u p.at) p.items)
    (params_sited u placed kept few f p within (scope_above p.at p.w p.parts marked p.maker u outset grammar placed within))))
