-- The conditions of `build` for an inner function that returns undefined, and the states on the way.
use Rattle.std.proofs.Common.{◌≡◌, ◌+◌, ◌<◌, ◌^◌, None, List, [], ◌∷◌, ◌++◌, length, refl, sym, ap, subst, length-append, ◌∙◌, arith}
use Rattle.builder_tests.specs.Inner.{HasInner, IsInner, begun, given_by, made, returned, undefined}
use Rattle.builder_tests.specs.Inner.{graph_of as inner_graph}
use Rattle.rl_base.specs.declared.ids.BlockId.{BlockId}
use Rattle.rl_base.specs.declared.ids.ScopeId.{ScopeId}
use Rattle.rl_base.specs.declared.ids.SymbolId.{SymbolId}
use Rattle.rl_base.specs.declared.span.Span.{Span}
use Rattle.rl_builder.specs.Build.{IsBuilt, graph_of}
use Rattle.rl_builder.specs.Builder.{State, one_identifier_more, pushed, terminated, with_temporary}
use Rattle.rl_builder.specs.Started.{Given}
use Rattle.rl_builder.specs.Temporaries.{temporary}
use Rattle.rl_context.specs.declared.site.Site.{Site}
use Rattle.rl_hir.specs.declared.environment.Environment.{Environment}
use Rattle.rl_hir.specs.declared.function.Identifier.{Identifier}
use Rattle.rl_hir.specs.declared.function.InnerFunction.{InnerFunction}
use Rattle.rl_hir.specs.declared.function.Pair.{Pair as BindingPair}
use Rattle.rl_hir.specs.declared.instruction.Place.{Place}
use Rattle.rl_machine.specs.Machine.{Graph}
use Rattle.rl_order.proofs.Ordering.{same_self}
use Rattle.rl_order.proofs.WholeGraphs.{all_inside}
use Rattle.rl_order.specs.Numbering.{orders_of}
use Rattle.rl_order.specs.Walk.{IsWhole}
use Rattle.rl_semantic.specs.declared.semantic.Semantic.{Semantic}
use Rattle.rl_used_names.specs.Merged.{merged_bindings, merged_names}
use Rattle.rl_used_names.specs.UsedName.{UsedName}

abbrev pub behind : State → Place → State
behind s test = terminated (pushed (with_temporary s None) (undefined test)) (returned test) None

module _ (old : Environment) (given : Given) where
  abbrev entry : BlockId
  entry = record { 0 = old.next_block }

  pub whole : IsWhole (graph_of (made old given)) (made old given).entry
  whole = all_inside (graph_of (made old given)) entry 1 (omega arith) refl (let self = same_self entry in rw self refl)

  pub room : orders_of (graph_of (made old given)) < 2 ^ 32
  room = omega arith

  module _ (s1 s2 s3 s4 : State) (test : Place) where
    -- The state behind the moves, one after the other.
    pub made_is : s1 ≡ begun old given → s2 ≡ with_temporary s1 None → test ≡ temporary s1 None → s3 ≡ pushed s2 (undefined test) → s4 ≡ terminated s3 (returned test) None → s4 ≡ made old given
    made_is is one placed set ended =
        ended ∙ ap (λ (s : State). terminated s (returned test) None) (set ∙ ap (λ (s : State). pushed s (undefined test)) one)
        ∙ ap (λ (s : State). behind s test) is
        ∙ ap (behind (begun old given)) (placed ∙ ap (λ (s : State). temporary s None) is)

  module _ (s : State) (is : s ≡ made old given) where
    pub whole_at : IsWhole (graph_of s) s.entry
    whole_at = subst (λ (t : State). IsWhole (graph_of t) t.entry) (sym is) whole

-- The graph that was built, with one identifier more.
pub is_inner : (old : Environment) (given : Given) (s : State) (graph : Graph) (env new : Environment) → s ≡ made old given → IsBuilt s graph env → new ≡ one_identifier_more env None → IsInner old given graph new
is_inner old given s graph env new is built value = record { behind = env; built = subst (λ (t : State). IsBuilt t graph env) is built; value = value }

-- There is room for one identifier more behind the graph.
pub room_behind : (old : Environment) (given : Given) (s : State) (graph : Graph) (env : Environment) → s ≡ made old given → IsBuilt s graph env → length old.identifiers + 1 < 2 ^ 32 → length env.identifiers < 2 ^ 32
room_behind old given s graph env is built room =
    let one : Identifier = record { name = None; span = None; type_id = record { 0 = old.next_type } } in
    let same : length env.identifiers ≡ length (old.identifiers ++ one ∷ []) = ap (λ (e : Environment). length e.identifiers) built.refused ∙ ap (λ (t : State). length t.env.identifiers) is in
    let more : length (old.identifiers ++ one ∷ []) ≡ length old.identifiers + 1 = length-append old.identifiers (one ∷ []) in
    omega (arith, same, more, room)

-- Copies of the parts of a builder's state are what the builder of an inner function is given.
pub given_same : (s : State) (scope component : ScopeId) (semantic : Semantic) (sites : List Site) (symbols : List SymbolId) (bindings : List BindingPair) (context : List (SymbolId × Span)) (names : List UsedName)
    → semantic ≡ s.semantic → sites ≡ s.sites → component ≡ s.component_scope → symbols ≡ s.context_identifiers → bindings ≡ s.bindings → context ≡ s.context → names ≡ s.used_names
    → ◌≡◌ {A = Given} (record { semantic = semantic; sites = sites; function_scope = scope; component_scope = component; context_identifiers = symbols; bindings = bindings; context = context; used_names = names }) (given_by s scope)
given_same s scope component semantic sites symbols bindings context names e1 e2 e3 e4 e5 e6 e7 =
    λ i. record { semantic = e1 i; sites = e2 i; function_scope = scope; component_scope = e3 i; context_identifiers = e4 i; bindings = e5 i; context = e6 i; used_names = e7 i }

abbrev with_names : List UsedName → State → State
with_names names s = record s { used_names = merged_names s.used_names names }

abbrev with_bindings : List BindingPair → State → State
with_bindings bindings s = record s { bindings = merged_bindings s.bindings bindings }

-- A builder with an inner function more, by the moves that add it.
pub has_inner : (s s2 s3 s4 : State) (given : Given) (e0 e1 e2 : Environment) (inner : InnerFunction) (names : List UsedName) (bindings : List BindingPair) (scope : ScopeId)
    → given ≡ given_by s scope → e0 ≡ s.env → IsInner e0 given (inner_graph inner) e1
    → e2 ≡ record e1 { functions = e1.functions ++ inner ∷ [] }
    → s2 ≡ record s { env = e2 }
    → s3 ≡ with_names names s2 → names ≡ s.used_names
    → s4 ≡ with_bindings bindings s3 → bindings ≡ s.bindings
    → HasInner s s4 inner.node scope
has_inner s s2 s3 s4 given e0 e1 e2 inner names bindings scope is_given same_env made added lent named same_names bound same_bindings =
    record {
      env = e1;
      inner = inner;
      node_is = refl;
      made_is = subst (λ (e : Environment). IsInner e (given_by s scope) (inner_graph inner) e1) same_env (subst (λ (g : Given). IsInner e0 g (inner_graph inner) e1) is_given made);
      state = bound ∙ ap (λ (b : List BindingPair). with_bindings b s3) same_bindings
          ∙ ap (with_bindings s.bindings) (named ∙ ap (λ (n : List UsedName). with_names n s2) same_names ∙ ap (with_names s.used_names) (lent ∙ ap (λ (e : Environment). record s { env = e }) added));
    }
