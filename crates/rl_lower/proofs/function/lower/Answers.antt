use Rattle.std.proofs.Common.{◌≡◌, ◌||◌, All, Bool, Some, List, [], ap, sym, ◌∙◌, refl, subst}
use Rattle.rl_ast.specs.FunctionNodes.{seen_function_node}
use Rattle.rl_ast.specs.declared.function_node.FunctionNode.{FunctionNode}
use Rattle.rl_ast.specs.declared.function_node.FunctionNode.TheVariants as function_node
use Rattle.rl_base.specs.declared.span.Span.{Span}
use Rattle.rl_base.specs.declared.diagnostic.Diagnostic.{Diagnostic}
use Rattle.rl_context.specs.Index.{declaration_span}
use Rattle.rl_context.specs.declared.site.Site.{Site}
use Rattle.rl_promises.proofs.LowerableTrees.{body_lowerable, params_lowerable}
use Rattle.rl_promises.specs.Lowerable.{IsLowerable, IsLowerableBody}
use Rattle.rl_promises.specs.Rebound.{span_behind_body}
use Rattle.rl_promises.specs.Rows.{Records, refusals_of}
use Rattle.rl_promises.specs.Stops.{has_using, stop_of}
use Rattle.rl_hir.specs.Blocks.{Pair as BlockPair}
use Rattle.rl_hir.specs.declared.environment.Environment.{Environment}
use Rattle.rl_hir.specs.declared.function.HirFunction.{HirFunction}
use Rattle.rl_lower.proofs.Answering.{says_nothing}
use Rattle.rl_lower.proofs.FunctionHeld.{lower_held}
use Rattle.rl_lower.proofs.FunctionGraphs.{graph_closed, graph_room, lower_bounded, lower_fits, lower_fn_type, lower_functions, lower_given}
use Rattle.rl_lower.proofs.FunctionGraphs.{lower_never_stuck, lower_pairs, lower_refused, lower_same_runs, lower_skip}
use Rattle.rl_lower.proofs.FunctionTrees.{IsFunction, function_form}
use Rattle.rl_lower.specs.Begun.{begun_by, function_tables}
use Rattle.rl_lower.proofs.WellFormed.{graph_linked, graph_numbered}
use Rattle.rl_lower.proofs.SpannedGraphs.{lower_spanned}
use Rattle.rl_lower.proofs.SoundGraphs.{function_identifiers, function_listed, function_pairs, function_places}
use Rattle.rl_promises.specs.Fields.{ArePairs, HasParams}
use Rattle.rl_promises.specs.Locals.{AreToldApart}
use Rattle.rl_names.specs.Functions.{body_in, params_in, parameters_of}
use Rattle.rl_names.specs.Names.{at_of}
use Rattle.rl_names.specs.Seen.{seen}
use Rattle.rl_syntax.specs.Syntax.{Syntax, span_of, syntax}
use Rattle.rl_syntax.specs.declared.numbered.At.{At}
use Rattle.rl_lower.proofs.function.lower.Goals.{After-drop-index-inside-4}
use Rattle.rl_lower.proofs.function.lower.Goals as goal

-- The function that is returned.
abbrev lowered : (c : After-drop-index-inside-4) → HirFunction (List BlockPair)
lowered c = record {
  span = Some c.parts_of-parts.result.at.span;
  name = c.in_ok-own_name.field-0;
  fn_type = c.fn_type.result;
  generator = c.parts_of-parts.result.generator;
  is_async = c.parts_of-parts.result.is_async;
  directives = c.in_ok-directives_of.field-0;
  params = c.in_ok-graph.graph.params;
  context = c.new.result;
  returns = c.in_ok-returns.returns;
  body = c.in_ok-graph.graph.built.hir;
  instructions = c.in_ok-graph.graph.built.instructions;
}

-- Each clause is by the parts of the function, `w`, and the graph that was made of them, `g`.

whole_form : (f : FunctionNode) (body : Syntax) → body ≡ body_in (seen_function_node f) → IsFunction (seen_function_node f) body
whole_form f body is = subst (IsFunction (seen_function_node f)) (sym is) (function_form f)

span_shown : (f : FunctionNode) → (at_of (seen_function_node f)).span ≡ span_of (seen_function_node f)
span_shown (function_node.Function f) = refl
span_shown (function_node.Arrow f) = refl

span_is : (f : FunctionNode) (at : At) → at ≡ at_of (seen_function_node f) → at.span ≡ span_of (seen_function_node f)
span_is f at is = ap (λ (a : At). a.span) is ∙ span_shown f

pub lower_graph-requires-clause-told : goal.lower_graph-requires-clause-told
lower_graph-requires-clause-told c =
    subst (AreToldApart (seen c.args.names.now)) (sym c.params_of.ensures) c.requires.locals.told

pub lower_graph-requires-clause-may_take : goal.lower_graph-requires-clause-may_take
lower_graph-requires-clause-may_take c =
    subst (IsLowerable (seen c.args.names.now)) (sym c.params_of.ensures)
    (params_lowerable (seen c.args.names.now) (seen_function_node c.args.function) c.requires.covered c.requires.chained c.requires.locals
    c.in_ok-look_for_stops.ensures.goes_on)

pub lower_graph-requires-clause-may : goal.lower_graph-requires-clause-may
lower_graph-requires-clause-may c =
    subst (IsLowerableBody (seen c.args.names.now)) (sym c.parts_of-parts.ensures.body)
    (body_lowerable (seen c.args.names.now) (seen_function_node c.args.function) c.requires.covered c.requires.chained c.requires.locals
    c.in_ok-look_for_stops.ensures.goes_on)

pub lower_graph-requires-clause-room : goal.lower_graph-requires-clause-room
lower_graph-requires-clause-room c =
    graph_room _ _ (whole_form c.args.function _ c.parts_of-parts.ensures.body) _ c.params_of.ensures
    (begun_by c.args.env.now (function_tables c.args.names.now c.parts_of-parts.result.at.scope []))
    (c.requires.room (function_tables c.args.names.now c.parts_of-parts.result.at.scope []))

pub create_temporary_place-requires-clause-identifiers : goal.create_temporary_place-requires-clause-identifiers
create_temporary_place-requires-clause-identifiers c =
    let w = whole_form c.args.function _ c.parts_of-parts.ensures.body in
    let g = c.in_ok-graph.ensures.graph w.list w.items w.rest (c.params_of.ensures ∙ w.is_params) in
    (lower_fits _ _ w _ _ _ _ _ _ g
    (c.requires.room (function_tables c.args.names.now c.parts_of-parts.result.at.scope []))).0

pub create_temporary_place-requires-clause-types : goal.create_temporary_place-requires-clause-types
create_temporary_place-requires-clause-types c =
    let w = whole_form c.args.function _ c.parts_of-parts.ensures.body in
    let g = c.in_ok-graph.ensures.graph w.list w.items w.rest (c.params_of.ensures ∙ w.is_params) in
    (lower_fits _ _ w _ _ _ _ _ _ g
    (c.requires.room (function_tables c.args.names.now c.parts_of-parts.result.at.scope []))).1

pub returns-clause-refused : goal.returns-clause-refused
returns-clause-refused c =
    let w = whole_form c.args.function _ c.parts_of-parts.ensures.body in
    let g = c.in_ok-graph.ensures.graph w.list w.items w.rest (c.params_of.ensures ∙ w.is_params) in
    subst (λ (said : List Diagnostic). Records (refusals_of (seen c.args.names.now) (seen_function_node c.args.function))
    c.args.env.now.diagnostics said)
    (sym (ap (λ (e : Environment). e.diagnostics) c.mark_using.ensures
    ∙ ap (λ (e : Environment). e.diagnostics) c.in_ok-returns.ensures.ok))
    (lower_refused _ _ w _ _ _ _ _ _ g)

pub returns-clause-skip : goal.returns-clause-skip
returns-clause-skip c =
    let body : Syntax = syntax c.body_tree-body.result.now in
    let w = whole_form c.args.function _ c.parts_of-parts.ensures.body in
    let g = c.in_ok-graph.ensures.graph w.list w.items w.rest (c.params_of.ensures ∙ w.is_params) in
    ap (λ (e : Environment). e.skip) c.mark_using.ensures
    ∙ ap (λ (skip : Bool). skip || has_using body)
    (ap (λ (e : Environment). e.skip) c.in_ok-returns.ensures.ok ∙ lower_skip _ _ w _ _ _ _ _ _ g)
    ∙ ap (λ (t : Syntax). c.args.env.now.skip || has_using t) (c.body_tree-body.ensures ∙ c.parts_of-parts.ensures.body)

pub returns-clause-closed : goal.returns-clause-closed
returns-clause-closed c =
    let w = whole_form c.args.function _ c.parts_of-parts.ensures.body in
    let g = c.in_ok-graph.ensures.graph w.list w.items w.rest (c.params_of.ensures ∙ w.is_params) in
    graph_closed _ _ _ _ _ _ _ _ _ g c.requires.fresh

pub returns-clause-same_runs : goal.returns-clause-same_runs
returns-clause-same_runs c supported unskipped =
    let w = whole_form c.args.function _ c.parts_of-parts.ensures.body in
    let g = c.in_ok-graph.ensures.graph w.list w.items w.rest (c.params_of.ensures ∙ w.is_params) in
    lower_same_runs _ _ w _ _ _ _ _ _ g c.requires.locals.declared c.requires.fresh supported unskipped (lowered c) _
    (ap (λ (e : Environment). e.pairs) c.mark_using.ensures ∙ ap (λ (e : Environment). e.pairs) c.in_ok-returns.ensures.ok) refl refl refl

pub returns-clause-never_stuck : goal.returns-clause-never_stuck
returns-clause-never_stuck c supported unskipped =
    let w = whole_form c.args.function _ c.parts_of-parts.ensures.body in
    let g = c.in_ok-graph.ensures.graph w.list w.items w.rest (c.params_of.ensures ∙ w.is_params) in
    lower_never_stuck _ _ w _ _ _ _ _ _ g c.requires.locals.declared c.requires.fresh supported unskipped (lowered c) _
    (ap (λ (e : Environment). e.pairs) c.mark_using.ensures ∙ ap (λ (e : Environment). e.pairs) c.in_ok-returns.ensures.ok) refl refl refl

pub returns-clause-bounded : goal.returns-clause-bounded
returns-clause-bounded c =
    let w = whole_form c.args.function _ c.parts_of-parts.ensures.body in
    let g = c.in_ok-graph.ensures.graph w.list w.items w.rest (c.params_of.ensures ∙ w.is_params) in
    lower_bounded _ _ w _ _ _ _ _ _ g (lowered c) refl refl

pub returns-clause-functions : goal.returns-clause-functions
returns-clause-functions c =
    let w = whole_form c.args.function _ c.parts_of-parts.ensures.body in
    let g = c.in_ok-graph.ensures.graph w.list w.items w.rest (c.params_of.ensures ∙ w.is_params) in
    ap (λ (e : Environment). e.functions) c.mark_using.ensures ∙ ap (λ (e : Environment). e.functions) c.in_ok-returns.ensures.ok
    ∙ lower_functions _ _ w _ _ _ _ _ _ g

pub returns-clause-fn_type : goal.returns-clause-fn_type
returns-clause-fn_type c =
    let w = whole_form c.args.function _ c.parts_of-parts.ensures.body in
    let g = c.in_ok-graph.ensures.graph w.list w.items w.rest (c.params_of.ensures ∙ w.is_params) in
    c.fn_type.ensures
    ∙ ap (λ (e : Environment). e.fn_type) c.mark_using.ensures ∙ ap (λ (e : Environment). e.fn_type) c.in_ok-returns.ensures.ok
    ∙ lower_fn_type _ _ w _ _ _ _ _ _ g

pub returns-clause-pairs : goal.returns-clause-pairs
returns-clause-pairs c =
    let w = whole_form c.args.function _ c.parts_of-parts.ensures.body in
    let g = c.in_ok-graph.ensures.graph w.list w.items w.rest (c.params_of.ensures ∙ w.is_params) in
    subst (λ (e : Environment). ArePairs (seen c.args.names.now) e.identifiers e.pairs) (sym c.mark_using.ensures)
    (lower_pairs _ _ w _ _ _ _ _ _ g c.create_temporary_place.new.env _ c.requires.fresh c.in_ok-returns.ensures.ok)

pub returns-clause-given : goal.returns-clause-given
returns-clause-given c =
    let names = seen c.args.names.now in
    let fn = seen_function_node c.args.function in
    let w = whole_form c.args.function _ c.parts_of-parts.ensures.body in
    let g = c.in_ok-graph.ensures.graph w.list w.items w.rest (c.params_of.ensures ∙ w.is_params) in
    subst (λ (e : Environment). HasParams names (λ symbol before. span_behind_body names symbol (body_in fn) before) e.identifiers e.pairs
    (params_in fn) c.in_ok-graph.graph.params) (sym c.mark_using.ensures)
    (subst (λ (b : Syntax). HasParams names (λ symbol before. span_behind_body names symbol b before)
    c.create_temporary_place.new.env.identifiers c.create_temporary_place.new.env.pairs (params_in fn) c.in_ok-graph.graph.params)
    c.parts_of-parts.ensures.body
    (lower_given _ _ w names _ _ _ _ _ g c.create_temporary_place.new.env _ c.requires.locals.told c.requires.locals.locals
    (subst (λ (ss : List Site). All (λ p. declaration_span ss c.args.names.now.resolver.now.semantic.now.bindings.symbols p.symbol.0
    ≡ Some p.declaration) (parameters_of names fn)) (sym c.in_ok-index.ensures) c.requires.spans.params)
    c.requires.fresh c.in_ok-returns.ensures.ok))

pub returns-clause-paired : goal.returns-clause-paired
returns-clause-paired c =
    let w = whole_form c.args.function _ c.parts_of-parts.ensures.body in
    let g = c.in_ok-graph.ensures.sound w.list w.items w.rest (c.params_of.ensures ∙ w.is_params) in
    function_pairs _ _ w _ _ c.mark_using.new.env _ _ g c.requires.fresh
    (ap (λ (e : Environment). e.pairs) c.mark_using.ensures ∙ ap (λ (e : Environment). e.pairs) c.in_ok-returns.ensures.ok)

pub returns-clause-held : goal.returns-clause-held
returns-clause-held c supported =
    let w = whole_form c.args.function _ c.parts_of-parts.ensures.body in
    let g = c.in_ok-graph.ensures.graph w.list w.items w.rest (c.params_of.ensures ∙ w.is_params) in
    lower_held _ _ w _ _ _ _ _ _ g c.requires.fresh supported (lowered c) refl refl

pub returns-clause-numbered : goal.returns-clause-numbered
returns-clause-numbered c =
    let w = whole_form c.args.function _ c.parts_of-parts.ensures.body in
    let g = c.in_ok-graph.ensures.graph w.list w.items w.rest (c.params_of.ensures ∙ w.is_params) in
    graph_numbered _ _ _ _ _ _ _ _ _ g

pub returns-clause-linked : goal.returns-clause-linked
returns-clause-linked c =
    let w = whole_form c.args.function _ c.parts_of-parts.ensures.body in
    let g = c.in_ok-graph.ensures.graph w.list w.items w.rest (c.params_of.ensures ∙ w.is_params) in
    graph_linked _ _ _ _ _ _ _ _ _ g (lowered c) refl refl

pub returns-clause-places : goal.returns-clause-places
returns-clause-places c =
    let w = whole_form c.args.function _ c.parts_of-parts.ensures.body in
    let g = c.in_ok-graph.ensures.sound w.list w.items w.rest (c.params_of.ensures ∙ w.is_params) in
    function_places _ _ w _ _ c.mark_using.new.env _ _ g _ (lowered c)
    (ap (λ (e : Environment). e.identifiers) c.mark_using.ensures ∙ ap (λ (e : Environment). e.identifiers) c.in_ok-returns.ensures.ok) refl
    refl refl c.new.ensures c.in_ok-returns.ensures.place

pub returns-clause-writable : goal.returns-clause-writable
returns-clause-writable c =
    let w = whole_form c.args.function _ c.parts_of-parts.ensures.body in
    let g = c.in_ok-graph.ensures.sound w.list w.items w.rest (c.params_of.ensures ∙ w.is_params) in
    function_listed _ _ w _ _ c.mark_using.new.env _ _ g (lowered c)
    (ap (λ (s : Span). Some s) (span_is c.args.function _ c.parts_of-parts.ensures.at))
    (c.in_ok-own_name.ensures ∙ c.parts_of-parts.ensures.name)
    c.in_ok-directives_of.ensures.texts refl refl
    refl c.new.ensures c.in_ok-returns.ensures.place

pub returns-clause-known : goal.returns-clause-known
returns-clause-known c =
    let w = whole_form c.args.function _ c.parts_of-parts.ensures.body in
    let g = c.in_ok-graph.ensures.sound w.list w.items w.rest (c.params_of.ensures ∙ w.is_params) in
    function_identifiers _ _ w _ _ c.mark_using.new.env _ _ g c.parts_of-parts.result.at.span
    (span_is c.args.function _ c.parts_of-parts.ensures.at)
    (ap (λ (e : Environment). e.identifiers) c.mark_using.ensures ∙ ap (λ (e : Environment). e.identifiers) c.in_ok-returns.ensures.ok)

pub returns-clause-spanned : goal.returns-clause-spanned
returns-clause-spanned c known =
    let w = whole_form c.args.function _ c.parts_of-parts.ensures.body in
    let g = c.in_ok-graph.ensures.graph w.list w.items w.rest (c.params_of.ensures ∙ w.is_params) in
    lower_spanned _ c.args.function _ w c.parts_of-parts.result.at.span _ _ _ c.mark_using.new.env _ _ (lowered c) g
    c.in_ok-index.ensures c.requires.spans
    (span_is c.args.function _ c.parts_of-parts.ensures.at)
    (ap (λ (e : Environment). e.identifiers) c.mark_using.ensures ∙ ap (λ (e : Environment). e.identifiers) c.in_ok-returns.ensures.ok)
    (ap (λ (s : Span). Some s) (span_is c.args.function _ c.parts_of-parts.ensures.at)) refl refl refl c.new.ensures
    c.in_ok-returns.ensures.place known

pub returns-clause-span : goal.returns-clause-span
returns-clause-span c = ap (λ (s : Span). Some s) (span_is c.args.function _ c.parts_of-parts.ensures.at)

pub returns-in_err-returns-clause-stopped : goal.returns-in_err-returns-clause-stopped
returns-in_err-returns-clause-stopped c =
    says_nothing c.from_residual-in_err-returns.result (λ d. stop_of (seen c.args.names.now) (seen_function_node c.args.function) ≡ Some d)
    c.from_residual-in_err-returns.ensures.1

pub returns-in_err-own_name-clause-stopped : goal.returns-in_err-own_name-clause-stopped
returns-in_err-own_name-clause-stopped c =
    says_nothing c.from_residual-in_err-own_name.result (λ d. stop_of (seen c.args.names.now) (seen_function_node c.args.function) ≡ Some d)
    c.from_residual-in_err-own_name.ensures.1

pub returns-in_err-directives_of-clause-stopped : goal.returns-in_err-directives_of-clause-stopped
returns-in_err-directives_of-clause-stopped c =
    says_nothing c.from_residual-in_err-directives_of.result
    (λ d. stop_of (seen c.args.names.now) (seen_function_node c.args.function) ≡ Some d) c.from_residual-in_err-directives_of.ensures.1
