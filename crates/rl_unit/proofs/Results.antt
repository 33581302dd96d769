-- The result of the marked function is that of its unit.
use Rattle.std.proofs.Common.{◌≡◌, ℕ, ◌<◌, ◌≤◌, ◌^◌, true, Option, None, Some, List, [], All, length, slice_get, refl, ap, sym, subst, ◌∙◌, arith}
use Rattle.std.proofs.lemmas.Option.{none-some, slice_get_within}
use Rattle.std.specs.Option.{option_map}
use Rattle.rl_ast.proofs.MarkedFunctions.{marked_fits}
use Rattle.rl_ast.specs.FunctionNodes.{seen_function_node}
use Rattle.rl_ast.specs.FunctionTrees.{is_function}
use Rattle.rl_ast.specs.Marked.{first, marked_functions}
use Rattle.rl_ast.specs.declared.function_node.FunctionNode.{FunctionNode}
use Rattle.rl_base.specs.declared.span.Span.{Span}
use Rattle.rl_bindings.specs.Tables.{symbols_in}
use Rattle.rl_bindings.specs.declared.event.Bound.{Bound}
use Rattle.rl_hir.specs.declared.function.Identifier.{Identifier}
use Rattle.rl_hir.specs.declared.function.Lowered.{Lowered}
use Rattle.rl_hir.specs.declared.function.Pair.{Pair}
use Rattle.rl_promises.proofs.Alike.{same_as_written}
use Rattle.rl_promises.proofs.CountedOnce.{function_placed}
use Rattle.rl_promises.proofs.EarlyNames.{IsEarly, names_early}
use Rattle.rl_promises.proofs.KeptChains.{has_chains}
use Rattle.rl_promises.specs.Covered.{IsCoveredFunction, uncovered_in}
use Rattle.rl_promises.specs.Fields.{HaveSymbolsOf, IsNamedPair}
use Rattle.rl_promises.specs.Headline.{IsGraph}
use Rattle.rl_model.specs.PortedScenes.{ported_scene}
use Rattle.rl_model.specs.Scene.{Scene}
use Rattle.rl_model.specs.Units.{names_of}
use Rattle.rl_model.specs.Worlds.{graphs, world_in}
use Rattle.rl_model.specs.Code.{world_of}
use Rattle.rl_promises.proofs.CoveredWorlds.{SharesNothing, graph_alone, source_alone}
use Rattle.rl_hir.specs.Pairs.{identifier_of}
use Rattle.rl_hir.specs.declared.function.InnerFunction.{InnerFunction}
use Rattle.rl_runs.specs.Continuations.{SharesVariables}
use Rattle.std.proofs.lemmas.List.Elements.{All-nil}
use Rattle.rl_model.specs.Marked.{marked}
use Rattle.rl_promises.proofs.DeclarationSpans.{marked_spans}
use Rattle.rl_promises.proofs.LocalVariables.{has_locals}
use Rattle.rl_promises.specs.KnownSpans.{KnowsSpans}
use Rattle.rl_promises.specs.Locals.{HasLocals}
use Rattle.rl_names.specs.Names.{Names, function_names}
use Rattle.rl_resolver.specs.Lookups.{declaration_ident, identified}
use Rattle.rl_semantic.specs.Items.{of_item}
use Rattle.rl_semantic.specs.Rules.{least_broken}
use Rattle.rl_syntax.specs.Syntax.{Syntax, width}
use Rattle.rl_unit.proofs.Answering.{within_bytes}
use Rattle.rl_unit.proofs.Marked.{body_there, has_body, is_covered, marked_is}
use Rattle.rl_unit.proofs.Room.{alone_bounded, few_nodes, unit_nodes}
use Rattle.rl_unit.proofs.Small.{unit_small}
use Rattle.rl_unit.specs.Functions.{IsRead, IsResultOf, IsUnitResult, MayLower}

-- A unit within the limits has a short text.
short_unit : (u : Syntax) → (r : IsRead u) → width u < 2 ^ 32
short_unit u r =
    let long : length r.bytes ≡ width u = ap length r.spells.spelled.spelled in
    let short : length r.bytes ≤ 2 ^ 24 = within_bytes r.bytes r.within in
    omega (arith, long, short)

-- The marked function of a unit that was read may be lowered, if it has no uncovered node.
pub may_lower : (u : Syntax) (f : FunctionNode) (names : Names) → IsRead u → least_broken u ≡ None
    → first (marked_functions u) ≡ Some (seen_function_node f)
    → first (uncovered_in (seen_function_node f)) ≡ None → names ≡ function_names u (seen_function_node f)
    → MayLower names (seen_function_node f)
may_lower u f names r rules found none same =
    let tree : Syntax = seen_function_node f in
    let covered : IsCoveredFunction tree = is_covered u tree found none in
    let has = has_body u tree rules found in
    record {
      covered = covered;
      chained = has_chains u tree rules found;
      body = body_there f (marked_fits u tree found r.spells.grammar) has;
      locals = subst (λ (n : Names). HasLocals n tree) (sym same)
          (has_locals u tree r.spells.grammar r.spells.numbers r.spells.spelled.writable (short_unit u r)
          (unit_nodes r.bytes u r.spells r.within) rules found covered);
      few = few_nodes r.bytes u tree r.spells r.within found;
      from = (function_placed r.bytes u tree r.spells found).0;
      placed = (function_placed r.bytes u tree r.spells found).1;
      fits = marked_fits u tree found r.spells.grammar;
      small = unit_small r.bytes u tree r.spells (within_bytes r.bytes r.within) found;
    }

-- The spans of its declarations are known.
pub may_span : (u : Syntax) (f : FunctionNode) (names : Names) → IsRead u → least_broken u ≡ None
    → first (marked_functions u) ≡ Some (seen_function_node f)
    → first (uncovered_in (seen_function_node f)) ≡ None → names ≡ function_names u (seen_function_node f)
    → (symbols : List Bound) → symbols ≡ symbols_in u → KnowsSpans names symbols (seen_function_node f)
may_span u f names r rules found none same symbols shown =
    let tree : Syntax = seen_function_node f in
    subst (λ (n : Names). KnowsSpans n symbols tree) (sym same)
    (subst (λ (l : List Bound). KnowsSpans (function_names u tree) l tree) (sym shown)
    (marked_spans u tree r.spells.grammar r.spells.numbers (unit_nodes r.bytes u r.spells r.within) rules found
    (is_covered u tree found none)))

-- A symbol with a declaration identifier is one of the list.
declared_within : (symbols : List Bound) (symbol : ℕ) (at : Span) → option_map (λ b. b.span) (declaration_ident symbols symbol) ≡ Some at
    → symbol < length symbols
declared_within symbols symbol at is = by_symbol (slice_get symbols symbol) refl
  where
    by_symbol : (o : Option Bound) → slice_get symbols symbol ≡ o → symbol < length symbols
    by_symbol None none =
        absurd (none-some at (sym (ap (λ (o : Option Bound). option_map (λ b. b.span) (of_item None identified o)) none) ∙ is))
    by_symbol (Some b) there = slice_get_within symbols symbol b there

-- The symbols of pairs that are named in a unit are the unit's.
pairs_of_unit : (u f : Syntax) (identifiers : List Identifier) (pairs : List Pair)
    → All (IsNamedPair (function_names u f) identifiers) pairs → HaveSymbolsOf u pairs
pairs_of_unit u f identifiers pairs named place default within =
    let here = named place default within in
    declared_within (symbols_in u) _ here.at here.declared

-- The scene of the port's run of a function.
abbrev scene_of : (u f : Syntax) → Scene
scene_of u f = ported_scene u (names_of u).declared f

-- Neither the source nor the graph of a covered function shares a variable.
shares_nothing : (u : Syntax) (f : Syntax) (l : Lowered) → IsCoveredFunction f → marked u ≡ f → l.inner ≡ []
    → SharesVariables (identifier_of l.pairs) (scene_of u f).world (world_in l l.function (graphs l.inner))
shares_nothing u f l covered is none = record {
  opens = λ symbol. source.opens symbol ∙ sym (graph.opens symbol);
  keeps = source.keeps ∙ sym graph.keeps;
  known = subst (λ (symbols : List ℕ). All IsKnown symbols) (sym graph.keeps) (All-nil IsKnown);
}
  where
    IsKnown : ℕ → Type 0
    IsKnown symbol = (identifier : ℕ) × (identifier_of l.pairs symbol ≡ Some identifier)

    source : SharesNothing (scene_of u f).world
    source = subst (λ (m : Syntax). SharesNothing (world_of (names_of u) (length (symbols_in u)) (names_of u).declared m f)) (sym is)
        (source_alone (names_of u) (length (symbols_in u)) (names_of u).declared f covered)

    graph : SharesNothing (world_in l l.function (graphs l.inner))
    graph = subst (λ (functions : List InnerFunction). SharesNothing (world_in l l.function (graphs functions))) (sym none)
        (graph_alone l l.function)

-- Its result is the unit's.
pub unit_result : (u f : Syntax) (names : Names) (l : Lowered) → IsRead u → least_broken u ≡ None → first (marked_functions u) ≡ Some f
    → first (uncovered_in f) ≡ None → names ≡ function_names u f → IsResultOf names f l → IsUnitResult u l
unit_result u f names l r rules found none same result =
    let is : f ≡ marked u = marked_is u f found in
    let whole : IsResultOf (function_names u (marked u)) (marked u) l =
    subst (λ (t : Syntax). IsResultOf (function_names u t) t l) is (subst (λ (n : Names). IsResultOf n f l) same result) in
    let known : IsCoveredFunction (marked u) = subst IsCoveredFunction is (is_covered u f found none) in
    let fits : is_function (marked u) ≡ true = subst (λ (t : Syntax). is_function t ≡ true) is (marked_fits u f found r.spells.grammar) in
    let early : IsEarly (scene_of u (marked u)) =
    subst (λ (t : Syntax). IsEarly (scene_of u t)) is
    (names_early u f r.spells.grammar r.spells.numbers found (is_covered u f found none) (names_of u).declared) in
    let main : IsGraph (scene_of u (marked u)) (marked u) l (graphs l.inner) l.function = whole.main (scene_of u (marked u)) (record {
      named = refl;
      ported = refl;
      early = record { early = early };
      shares = shares_nothing u (marked u) l known refl whole.inner;
    }) in
    record {
      rules = rules;
      lowers = record {
        covered = ap (λ (t : Syntax). first (uncovered_in t)) (sym is) ∙ none;
        supported = whole.supported;
        main = main;
        orderly =
            same_as_written u (names_of u).declared fits known early whole.supported.accepted (world_in l l.function (graphs l.inner)) l.function
            l.pairs main.same_runs;
        inner = whole.inner;
        identifiers = whole.identifiers;
        symbols = pairs_of_unit u (marked u) l.identifiers l.pairs whole.identifiers.pairs.named;
        bounded = alone_bounded u f l.function found result.bounded l.inner result.inner;
        writable = whole.writable;
        spanned = whole.spanned;
      };
    }
