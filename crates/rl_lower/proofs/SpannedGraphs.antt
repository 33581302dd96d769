-- The graph of a function has the spans of the function's nodes.
use Rattle.std.proofs.Common.{◌≡◌, ℕ, ◌+◌, ◌++◌, List, [], ◌∷◌, length, map, All, Option, Some, None, inl, refl, sym, ap, ◌∙◌, subst}
use Rattle.std.proofs.Common.{arith}
use Rattle.std.specs.Prelude.{IfSome}
use Rattle.std.proofs.lemmas.List.Elements.{All-nil, All-push, All-same}
use Rattle.rl_ast.specs.FunctionNodes.{seen_function_node}
use Rattle.rl_ast.specs.declared.function_node.FunctionNode.{FunctionNode}
use Rattle.rl_ast.specs.declared.function_node.FunctionNode.TheVariants as function_node
use Rattle.rl_base.specs.declared.span.Span.{Span}
use Rattle.rl_builder.specs.Build.{IsBuilt, graph_of}
use Rattle.rl_builder.specs.Builder.{State, placeholder}
use Rattle.rl_builder.specs.Temporaries.{temporary}
use Rattle.rl_context.specs.Index.{declaration_span}
use Rattle.rl_context.specs.Sites.{sites_in}
use Rattle.rl_context.specs.declared.site.Site.{Site}
use Rattle.rl_hir.specs.Blocks.{Pair as BlockPair}
use Rattle.rl_hir.specs.declared.environment.Environment.{Environment}
use Rattle.rl_hir.specs.declared.function.Hir.{Hir}
use Rattle.rl_hir.specs.declared.function.HirFunction.{HirFunction}
use Rattle.rl_hir.specs.declared.function.Identifier.{Identifier}
use Rattle.rl_hir.specs.declared.function.Param.{Param}
use Rattle.rl_hir.specs.declared.instruction.InstructionValue.TheVariants as values
use Rattle.rl_hir.specs.declared.instruction.Place.{Place}
use Rattle.rl_hir.specs.declared.instruction.PrimitiveValue.TheVariants as primitives
use Rattle.rl_hir.specs.declared.terminal.ReturnVariant.TheVariants as returns
use Rattle.rl_lower.proofs.FunctionGraphs.{graph_table}
use Rattle.rl_lower.proofs.FunctionTrees.{IsFunction}
use Rattle.rl_lower.specs.Begun.{FunctionTables, begun_by}
use Rattle.rl_lower.specs.Endings.{IsGraphOf, closed_off, hir_of, with_undefined}
use Rattle.rl_lowered.proofs.Spanned.{body_spans, params_spanned, params_spans}
use Rattle.rl_lowered.proofs.SpannedMoves.{none_spanned, return_spans, value_spans}
use Rattle.rl_lowered.proofs.SpannedTrees.{body_each, each_span, params_each}
use Rattle.rl_lowered.specs.Spanned.{EachSpan, EachSpanAmong, HasSpans, KeepsSpans}
use Rattle.rl_machine.specs.Machine.{Graph}
use Rattle.rl_model.specs.WellFormed.{param_place}
use Rattle.rl_names.specs.Names.{Names}
use Rattle.rl_order.proofs.PrunedBlocks.{StaysPruned, pruned_all, pruned_table_all}
use Rattle.rl_order.specs.Numbering.{orders_of}
use Rattle.rl_promises.specs.Spans.{AreSpanned, AreSpannedIdentifiers, IsSpanOf, IsSpanned, IsSpannedInstruction}
use Rattle.rl_promises.specs.KnownSpans.{KnowsSpans}
use Rattle.rl_promises.specs.Spans.{IsSpannedTerminal}
use Rattle.rl_syntax.specs.Syntax.{Syntax, Node, Listed, Pieces, End, Then, span_of}
use Rattle.rl_syntax.specs.declared.word.Word.TheVariants as word

-- The spans of a graph and of the identifiers are absent, or `P` holds of them.
pub record IsSpannedGraph (P : Span → Type 0) (identifiers : List Identifier) (built : Graph) : Type 0 where
  pub table : All (IsSpannedInstruction P) built.table
  pub terminals : All (λ b. IsSpannedTerminal P b.1.terminal) built.blocks
  pub named : AreSpannedIdentifiers P identifiers

-- `P` holds of the spans of declarations that the index has.
abbrev pub AreIndexed : (P : Span → Type 0) → FunctionTables → Type 0
AreIndexed P tables =
    (symbol : ℕ) (span : Span) → declaration_span tables.sites tables.semantic.bindings.symbols symbol ≡ Some span → P span

module _ (P : Span → Type 0) where
  -- A builder before a function, and behind its body.

  begun_spans : (env : Environment) (tables : FunctionTables) → AreIndexed P tables → AreSpannedIdentifiers P env.identifiers
      → HasSpans P (begun_by env tables)
  begun_spans env tables indexed known = record {
    table = All-nil (IsSpannedInstruction P);
    terminals = All-nil (λ (b : BlockPair). IsSpannedTerminal P b.1.terminal);
    identifiers = known;
    declarations = indexed;
  }

  closed_spans : (s : State) → KeepsSpans P s (closed_off s)
  closed_spans s h =
      return_spans P (with_undefined s) None returns.Void (temporary s None) placeholder tt tt
      (value_spans P s (values.Primitive primitives.Undefined) None tt tt (none_spanned P) h)

  -- A graph that is built, where the completed blocks are their own table.

  ends_stay : (bound : ℕ) → StaysPruned (λ (b : BlockPair). IsSpannedTerminal P b.1.terminal) (λ id. Unit {0}) bound
  ends_stay bound = record {
    own = λ b is. tt;
    named = λ b is. (λ k d within. tt);
    linked = λ b is. (λ k d within. tt);
    empties = λ b is. record { own = is.own; places = none_spanned P };
    loses_update = λ b init test update body fallthrough kind is. record { own = is.own; places = none_spanned P };
    goes = λ b target there is. record { own = is.own; places = none_spanned P };
    orders = λ b order within is. record { own = is.own; places = is.places };
    links = λ b preds there is. record { own = is.own; places = is.places };
  }

  built_spans : (s : State) (built : Graph) (env : Environment) → IsBuilt s built env → graph_of s ≡ s.completed → HasSpans P s
      → IsSpannedGraph P s.env.identifiers built
  built_spans s built env b same h = record {
    table = pruned_table_all (IsSpannedInstruction P) (1 + orders_of (graph_of s))
        (λ order i within is. record { own = is.own; cast = is.cast; places = is.places })
        (graph_of s) s.entry s.table built.blocks built.table b.pruned (omega arith) h.table;
    terminals = pruned_all (λ (b : BlockPair). IsSpannedTerminal P b.1.terminal) (λ id. Unit {0}) (1 + orders_of (graph_of s))
        (ends_stay (1 + orders_of (graph_of s))) (graph_of s) s.entry s.table built.blocks built.table b.pruned (omega arith)
        (subst (All (λ (b : BlockPair). IsSpannedTerminal P b.1.terminal)) (sym same) h.terminals);
    named = h.identifiers;
  }

  -- The graph of a function whose parameters and body were lowered and closed off.
  pub graph_spanned : (names : Names) (tables : FunctionTables) (items : Pieces) (rest body : Syntax) (env new : Environment)
      (params : List Param) (built : Graph) (g : IsGraphOf names tables items rest body env new params built)
      → graph_of (closed_off g.state) ≡ (closed_off g.state).completed → AreIndexed P tables → EachSpanAmong P items → EachSpan P rest
      → EachSpan P body → AreSpannedIdentifiers P env.identifiers → IsSpannedGraph P new.identifiers built
  graph_spanned names tables items rest body env new params built g same indexed first last each known =
      subst (λ (e : Environment). IsSpannedGraph P e.identifiers built) (sym g.after)
      (built_spans (closed_off g.state) built new g.graph same
      (closed_spans g.state
      (body_spans P g.lowers.by each (params_spans P g.lowers_params.by first last (begun_spans env tables indexed known)))))

-- The function.

pub function_span : (f : FunctionNode) → IsSpanOf (seen_function_node f) (span_of (seen_function_node f))
function_span (function_node.Arrow f) = inl refl
function_span (function_node.Function f) = inl refl

-- The identifier of the returned value.
abbrev returned : Span → (type : ℕ) → Identifier
returned span type = record { name = None; span = Some span; type_id = record { 0 = type } }

function_spanned : (fn : Syntax) (mid new : Environment) (params : List Param) (built : Graph)
    (f : HirFunction (List BlockPair)) → IsSpanOf fn (span_of fn) → AreSpanned (IsSpanOf fn) (map param_place params)
    → IsSpannedGraph (IsSpanOf fn) mid.identifiers built → new.identifiers ≡ mid.identifiers ++ returned (span_of fn) mid.next_type ∷ []
    → f.span ≡ Some (span_of fn)
    → f.body ≡ hir_of built → f.instructions ≡ built.table → f.params ≡ params
    → f.context ≡ [] → f.returns ≡ record { identifier = record { 0 = length mid.identifiers }; span = None }
    → IsSpanned fn f new.identifiers
function_spanned fn mid new params built f own given g more span_is body_is table_is params_are none returns_is = record {
  own = subst (λ (o : Option Span). IfSome o P) (sym span_is) own;
  table = subst (All (IsSpannedInstruction P)) (sym table_is) g.table;
  terminals = subst (λ (h : Hir (List BlockPair)). All (λ b. IsSpannedTerminal P b.1.terminal) h.blocks) (sym body_is) g.terminals;
  params = subst (λ (ps : List Param). AreSpanned P (map param_place ps)) (sym params_are) given;
  context = All-same (λ (p : Place). IfSome p.span P) f.context [] none (none_spanned P);
  returns = subst (λ (p : Place). IfSome p.span P) (sym returns_is) tt;
  named = All-same (λ (i : Identifier). IfSome i.span P) new.identifiers _ more
      (All-push (λ (i : Identifier). IfSome i.span P) mid.identifiers (returned (span_of fn) mid.next_type) g.named own);
}
  where
    P : Span → Type 0
    P = IsSpanOf fn

-- The spans of a function that was lowered, by the graph of its parameters and its body.
pub lower_spanned : (names : Names) (node : FunctionNode) (body : Syntax) (w : IsFunction (seen_function_node node) body) (span : Span)
    (tables : FunctionTables) (env mid new : Environment) (params : List Param) (built : Graph) (f : HirFunction (List BlockPair))
    → IsGraphOf names tables w.items w.rest body env mid params built
    → tables.sites ≡ sites_in (seen_function_node node) → KnowsSpans names tables.semantic.bindings.symbols (seen_function_node node)
    → span ≡ span_of (seen_function_node node) → new.identifiers ≡ mid.identifiers ++ returned span mid.next_type ∷ []
    → f.span ≡ Some (span_of (seen_function_node node)) → f.body ≡ hir_of built → f.instructions ≡ built.table
    → f.params ≡ params → f.context ≡ [] → f.returns ≡ record { identifier = record { 0 = length mid.identifiers }; span = None }
    → AreSpannedIdentifiers (IsSpanOf (seen_function_node node)) env.identifiers → IsSpanned (seen_function_node node) f new.identifiers
lower_spanned names node body w span tables env mid new params built f g sites_are knows span_is more own_is blocks_are table_is params_are
    none returns_is known =
    function_spanned fn mid new params built f (function_span node) (params_spanned P g.lowers_params.by in_params.1.0 in_params.1.1.0)
    (graph_spanned P names tables w.items w.rest body env mid params built g
    (graph_table names tables w.items w.rest body env mid params built g) indexed in_params.1.0 in_params.1.1.0
    (subst (EachSpan P) w.is_body (body_each P fn (each_span fn))) known)
    (more ∙ ap (λ (s : Span). mid.identifiers ++ returned s mid.next_type ∷ []) span_is) own_is blocks_are table_is params_are none
    returns_is
  where
    fn : Syntax
    fn = seen_function_node node

    P : Span → Type 0
    P = IsSpanOf fn

    in_params : EachSpan P (Node w.list word.Params (Then (Listed w.items) (Then w.rest End)))
    in_params = subst (EachSpan P) w.is_params (params_each P fn (each_span fn))

    indexed : AreIndexed P tables
    indexed symbol span is =
        knows.spanned symbol span
        (ap (λ (ss : List Site). declaration_span ss tables.semantic.bindings.symbols symbol) (sym sites_are) ∙ is)
