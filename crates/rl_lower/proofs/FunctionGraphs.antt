-- The graph of a function (`IsGraphOf`): its traces, size, identifiers and fields, from the lowering of its parameters and its body.
use Rattle.std.proofs.Common.{◌≡◌, ℕ, ◌+◌, ◌*◌, ◌<◌, ◌≤◌, ◌^◌, ◌++◌, inl, inr, Bool, true, false, not, if◌then◌else◌, List, [], All, length}
use Rattle.std.proofs.Common.{map}
use Rattle.std.proofs.Common.{Option, Some, refl, sym, ap, ◌∙◌, subst, arith}
use Rattle.std.proofs.lemmas.List.Elements.{All-nil}
use Rattle.std.proofs.lemmas.Option.{none-some}
use Rattle.rl_base.proofs.DistinctLists.{distinct_none}
use Rattle.rl_base.specs.Distinct.{AreDistinct}
use Rattle.rl_base.specs.declared.diagnostic.Diagnostic.{Diagnostic}
use Rattle.rl_base.specs.declared.ids.SymbolId.{SymbolId}
use Rattle.rl_base.specs.declared.span.Span.{Span}
use Rattle.rl_builder.specs.Build.{graph_of}
use Rattle.rl_builder.specs.Builder.{State, one_identifier_more, with_temporary}
use Rattle.rl_context.specs.Index.{declaration_span}
use Rattle.rl_hir.specs.Blocks.{Pair as BlockPair}
use Rattle.rl_hir.specs.Pairs.{identifier_of}
use Rattle.rl_hir.specs.declared.environment.Environment.{Environment}
use Rattle.rl_hir.specs.declared.function.Hir.{Hir}
use Rattle.rl_hir.specs.declared.function.HirFunction.{HirFunction}
use Rattle.rl_hir.specs.declared.function.Pair.{Pair}
use Rattle.rl_hir.specs.declared.function.Param.{Param}
use Rattle.rl_hir.specs.declared.instruction.Instruction.{Instruction}
use Rattle.rl_lower.proofs.Building.{IsFresh, closed_listed, diagnostics_closed, identifiers_closed, names_closed}
use Rattle.rl_lower.proofs.Builds.{closed_size, closed_table, few_parts}
use Rattle.rl_lower.proofs.FunctionTrees.{IsFunction, function_nodes, function_refusals, said_of_params}
use Rattle.rl_lower.proofs.Functions.{RunsFunction, body_trace, closed_extends, extends_closed, function_may, function_runs_by}
use Rattle.rl_lower.proofs.Functions.{function_trace}
use Rattle.rl_lower.proofs.GivenNames.{pairs_told}
use Rattle.rl_lower.proofs.Linked.{built_length}
use Rattle.rl_lower.proofs.LoweredFunctions.{AreSmall, LowersFunction, lowered_both, nodes_in}
use Rattle.rl_lower.proofs.StartStores.{agrees_start, start_values, take_arguments}
use Rattle.rl_lower.specs.Begun.{FunctionTables, begun_by}
use Rattle.rl_lower.specs.Endings.{IsGraphOf, closed_off, hir_of}
use Rattle.rl_lower.specs.Scenes.{IsSceneOf}
use Rattle.rl_lowered.proofs.Clean.{first_none, second_none}
use Rattle.rl_lowered.proofs.Names.{names_temporary, names_then}
use Rattle.rl_lowered.proofs.ParamNames.{Ends, IsIndexed, all_more, all_then, body_keeps_all, own_begun, params_given}
use Rattle.rl_lowered.proofs.ParamStores.{params_agree, params_have, plain_taken, take_plain}
use Rattle.rl_lowered.proofs.Records.{records_same, records_then}
use Rattle.rl_lowered.specs.Named.{IsNamed, KeepsNames, TellDeclarations}
use Rattle.rl_lowered.specs.Params.{HaveArguments, RunsParams, take_others}
use Rattle.rl_lowered.specs.Promised.{HasRoom, exec_before_end, share}
use Rattle.rl_machine.specs.Closed.{IsClosed}
use Rattle.rl_machine.specs.Conditions.{MayOrder}
use Rattle.rl_machine.specs.Machine.{Graph}
use Rattle.rl_machine.specs.Traces.{Cont, Store, World, unset, waiting}
use Rattle.rl_machine.specs.declared.trace.Answer.{Answer}
use Rattle.rl_machine.specs.declared.trace.Assignment.{Assignment}
use Rattle.rl_machine.specs.declared.trace.Trace.{Trace}
use Rattle.rl_machine.specs.declared.trace.Value.{Value}
use Rattle.rl_model.specs.Actions.{Action, Ways, ◌>>=◌, ◌>>◌}
use Rattle.rl_model.specs.Expressions.{first_piece}
use Rattle.rl_model.specs.Functions.{is_plain, outside, run_body, run_function, set_all, take_arguments as arguments_taken, take_params}
use Rattle.rl_model.specs.Patterns.{bind}
use Rattle.rl_model.specs.Runs.{trace_by}
use Rattle.rl_model.specs.Scene.{Scene}
use Rattle.rl_names.specs.Functions.{body_in, params_in, parameters_of}
use Rattle.rl_names.specs.Locals.{DeclaresAll}
use Rattle.rl_names.specs.Names.{Names, parameters_among, parameters_in}
use Rattle.rl_order.proofs.Pruning.{pruned_size}
use Rattle.rl_promises.specs.Fields.{ArePairs, HasParams, IsNamedPair}
use Rattle.rl_promises.specs.Headline.{NeverStuck, SameRuns}
use Rattle.rl_promises.specs.Locals.{AreLocals, AreToldApart, KnowsNames, Mentions}
use Rattle.rl_promises.specs.Rebound.{span_behind_body}
use Rattle.rl_promises.specs.Rows.{Records, refusals_in_body, refusals_of}
use Rattle.rl_promises.specs.Size.{function_size}
use Rattle.rl_promises.specs.Stops.{has_using}
use Rattle.rl_runs.proofs.FinalNames.{covers_before, sound_covers}
use Rattle.rl_runs.proofs.Moves.{extends_temporary, extends_then}
use Rattle.rl_runs.proofs.Steps.{get_more}
use Rattle.rl_runs.specs.Blocks.{size_of}
use Rattle.rl_runs.specs.Continuations.{Agrees}
use Rattle.rl_runs.specs.Facts.{CoversNames, Extends, HasSoundNames}
use Rattle.rl_syntax.specs.Syntax.{Syntax, Node, Listed, Pieces, End, Then, nodes}
use Rattle.rl_syntax.specs.declared.word.Word.TheVariants as word

-- The builder before the parameters.

pub begun_fresh : (env : Environment) (tables : FunctionTables) → IsFresh (begun_by env tables)
begun_fresh env tables =
    record { completed = refl; instructions = refl; table = refl; entry = refl; last = refl; handlers = refl; scopes = refl }

pub begun_named : (names : Names) (env : Environment) (tables : FunctionTables) → KnowsNames names → TellDeclarations names tables.semantic
    → IsNamed names (begun_by env tables)
begun_named names env tables knows told = record {
  knows = knows;
  declared = told;
  made = λ symbol identifier is. absurd (none-some identifier is);
  noted = λ symbol identifier is. absurd (none-some identifier is);
}

-- Names are sound there, where the environment has no pairs.
pub begun_sound : (env : Environment) (tables : FunctionTables) → env.pairs ≡ [] → HasSoundNames (begun_by env tables)
begun_sound env tables none = record {
  agree = record { named = λ symbol identifier is. absurd (none-some identifier is) };
  same = λ symbol. ap (λ (l : List Pair). identifier_of l symbol) (sym none);
  once = subst (λ (l : List Pair). AreDistinct (map (λ (p : Pair). p.symbol.0) l)) (sym none) distinct_none;
}

module _ (names : Names) (tables : FunctionTables) (items : Pieces) (rest body : Syntax) (env new : Environment)
    (params : List Param) (built : Graph) (g : IsGraphOf names tables items rest body env new params built) where
  abbrev begun : State
  begun = begun_by env tables

  abbrev last : State
  last = closed_off g.state

  abbrev count : ℕ
  count = nodes_in items rest body

  pub lowered_from : LowersFunction names (AreSmall items rest body) (nodes_in items rest body) begun g.state
  lowered_from = lowered_both g.lowers_params g.lowers

  -- Blocks have numbers below 2^32.
  pub graph_fits : last.env.next_block < 2 ^ 32
  graph_fits = subst (λ (e : Environment). e.next_block < 2 ^ 32) g.after g.few

  -- The state behind the graph.

  graph_keeps : KeepsNames names begun last
  graph_keeps = names_then begun g.state last lowered_from.names_kept (names_closed g.state)

  pub graph_extends : Extends begun last
  graph_extends = closed_extends begun g.state (begun_fresh env tables) lowered_from.blocks graph_fits

  -- Names are sound, where the environment had no pairs before.
  pub graph_names : env.pairs ≡ [] → HasSoundNames last
  graph_names none = graph_extends.sound (begun_sound env tables none)

  graph_size : HasRoom begun (share (count + 2)) → size_of last < 2 ^ 31
  graph_size room = omega (arith, closed_size names (AreSmall items rest body) count begun g.state lowered_from, room)

  pub identifiers_fit : HasRoom begun (share (count + 2)) → length new.identifiers < 2 ^ 32
  identifiers_fit room =
      let same : length new.identifiers ≡ length last.env.identifiers = ap (λ (e : Environment). length e.identifiers) g.after in
      omega (arith, graph_size room, same)

  pub types_fit : HasRoom begun (share (count + 2)) → new.next_type + 1 < 2 ^ 32
  types_fit room =
      let same : new.next_type ≡ last.env.next_type = ap (λ (e : Environment). e.next_type) g.after in
      omega (arith, graph_size room, same)

  pub graph_refused : Records (said_of_params names items rest ++ refusals_in_body names body) env.diagnostics new.diagnostics
  graph_refused =
      records_then (said_of_params names items rest) (refusals_in_body names body) env.diagnostics g.given.env.diagnostics new.diagnostics
      g.lowers_params.refused
      (subst (λ (l : List Diagnostic). Records (refusals_in_body names body) g.given.env.diagnostics l) (sym after) g.lowers.refused)
    where
      after : new.diagnostics ≡ g.state.env.diagnostics
      after = ap (λ (e : Environment). e.diagnostics) g.after ∙ diagnostics_closed g.state

  -- No completed block has a predecessor.
  pub graph_unlinked : All (λ p. p.1.preds ≡ []) last.completed
  graph_unlinked = (closed_listed begun g.state (begun_fresh env tables) lowered_from.lists).predecessors

  pub graph_table : graph_of last ≡ last.completed
  graph_table = closed_table names (AreSmall items rest body) count begun g.state (begun_fresh env tables) lowered_from graph_fits

  pub graph_closed : env.pairs ≡ [] → IsClosed (hir_of built)
  graph_closed none =
      g.graph.closed
      (subst (λ (blocks : List BlockPair). MayOrder (record { blocks = blocks; table = last.table; entry = last.entry })) (sym graph_table)
      (function_may begun g.state (begun_fresh env tables) lowered_from.blocks graph_fits lowered_from.unread lowered_from.steps
      (λ symbol. identifier_of last.env.pairs symbol) alone (sound_covers last (graph_names none)) graph_unlinked))
    where
      -- A world in which no variable is shared.
      alone : World
      alone = record { opens = λ symbol. false; keeps = [] }

  -- From behind the parameters on.
  pub given_extends : Extends g.given last
  given_extends = extends_then g.lowers.blocks.extends (extends_closed g.state)

  pub given_covers : (ident : ℕ → Option ℕ) → CoversNames last.env.pairs (length last.env.identifiers) ident
      → CoversNames g.given.env.pairs (length g.given.env.identifiers) ident
  given_covers ident k =
      covers_before g.given.env.pairs last.env.pairs (length g.given.env.identifiers) (length last.env.identifiers) ident
      given_extends.identifiers given_extends.names k

-- The meaning of a body is that before its end, and then of a return of Undefined.
body_means : (scene : Scene) (b : Syntax) (ways : Ways) (onward : Unit {0} → Cont) (source : Store) (answers : List Answer)
    → run_body scene b ways onward source answers ≡ body_trace scene (exec_before_end scene b) ways source answers
body_means scene (Node at word.Body (Then directives (Then (Listed statements) End))) ways onward source answers = refl
body_means scene _ ways onward source answers = refl

-- In the port's run plain parameters take their arguments, then the others do, and then the body runs.
function_means : (scene : Scene) (f body : Syntax) (w : IsFunction f body) → scene.ported ≡ true → DeclaresAll scene.names (params_in f)
    → (start : List Assignment) (arguments : List Value) (answers : List Answer)
    → run_function scene f start arguments answers
    ≡ function_trace scene w.items w.rest (exec_before_end scene body) arguments
    (take_plain scene.names w.items arguments (set_all start unset)) answers
function_means scene f body w ported declared start arguments answers =
    ap (λ (p : Syntax). take_params scene p arguments outside (run (body_in f)) (set_all start unset) answers) w.is_params
    ∙ ap (λ (b : Bool). ordered b outside (run (body_in f)) (set_all start unset) answers) ported
    ∙ plain_taken scene w.items (subst (DeclaresAll scene.names) w.is_params declared) outside
    (λ left. take_others scene w.items w.rest arguments outside (run (body_in f))) arguments (set_all start unset) answers
    ∙ ap (λ (b : Syntax). take_others scene w.items w.rest arguments outside (run b) taken answers) w.is_body
    ∙ (λ i. take_others scene w.items w.rest arguments outside
    (λ (end : Unit {0}) source more. body_means scene body outside (λ (e : Unit {0}) store rest. waiting) source more i) taken answers)
  where
    run : Syntax → Unit {0} → Cont
    run b end = run_body scene b outside (λ (e : Unit {0}) store rest. waiting)

    taken : Store
    taken = take_plain scene.names w.items arguments (set_all start unset)

    ordered : Bool → Action (Unit {0})
    ordered b =
        if b then (do
          arguments_taken scene is_plain w.items arguments
          left ← arguments_taken scene (λ param. not (is_plain param)) w.items arguments
          bind scene true w.rest (first_piece left))
        else (do
          left ← arguments_taken scene (λ param. true) w.items arguments
          bind scene true w.rest (first_piece left))

-- Its size.
pub graph_bounded : (names : Names) (tables : FunctionTables) (items : Pieces) (rest body : Syntax) (env new : Environment)
    (params : List Param) (built : Graph)
    → IsGraphOf names tables items rest body env new params built → (f : HirFunction (List BlockPair)) (most : ℕ)
    → f.body ≡ hir_of built → f.instructions ≡ built.table → nodes_in items rest body + 2 ≤ most → function_size f ≤ 64 * most
graph_bounded names tables items rest body env new params built g f most body_is instructions_is counted =
    let s : State = closed_off g.state in
    let few : length s.table + length s.completed ≤ 64 * (nodes_in items rest body + 1) + 5 =
    few_parts names (AreSmall items rest body) (nodes_in items rest body) (begun_by env tables) g.state (begun_fresh env tables)
    (lowered_from names tables items rest body env new params built g)
    (graph_fits names tables items rest body env new params built g) in
    let instructions : length f.instructions ≡ length s.table =
    ap (λ (l : List Instruction). length l) instructions_is ∙ built_length s built new g.graph in
    let listed : length f.body.blocks ≡ length built.blocks = ap (λ (h : Hir (List BlockPair)). length h.blocks) body_is in
    let kept : length built.blocks ≤ length (graph_of s) =
    pruned_size (graph_of s) s.entry s.table built.blocks built.table g.graph.pruned in
    let same : length (graph_of s) ≡ length s.completed =
    ap (λ (pairs : List BlockPair). length pairs) (graph_table names tables items rest body env new params built g) in
    omega (arith, few, instructions, listed, kept, same, counted)

-- The room for the parameters and the body.
pub graph_room : (f body : Syntax) → IsFunction f body → (params : Syntax) → params ≡ params_in f → (s : State)
    → HasRoom s (share (nodes f))
    → HasRoom s (share (nodes params + nodes body + 1))
graph_room f body w params is s room =
    let counted : nodes (params_in f) + nodes body + 1 ≤ nodes f = w.counted in
    let same : nodes params ≡ nodes (params_in f) = ap nodes is in
    omega (arith, counted, same, room)

-- The clauses of `lower`, by the parts of the function.
module _ (f body : Syntax) (w : IsFunction f body) (names : Names) where
  -- Nothing of parameters and body is refused, if nothing of the function is.

  pub params_supported : refusals_of names f ≡ [] → said_of_params names w.items w.rest ≡ []
  params_supported none =
      first_none (said_of_params names w.items w.rest) (refusals_in_body names body) (sym (function_refusals names f body w) ∙ none)

  pub body_supported : refusals_of names f ≡ [] → refusals_in_body names body ≡ []
  body_supported none =
      second_none (said_of_params names w.items w.rest) (refusals_in_body names body) (sym (function_refusals names f body w) ∙ none)

  pub lower_room : (s : State) → HasRoom s (share (nodes f)) → HasRoom s (share (nodes_in w.items w.rest body + 2))
  lower_room s room = let counted : nodes_in w.items w.rest body + 2 ≤ nodes f = function_nodes f body w in omega (arith, counted, room)

  module _ (tables : FunctionTables) (env new : Environment) (params : List Param) (built : Graph)
      (g : IsGraphOf names tables w.items w.rest body env new params built) where
    pub lower_refused : Records (refusals_of names f) env.diagnostics new.diagnostics
    lower_refused =
        records_same (refusals_of names f) (said_of_params names w.items w.rest ++ refusals_in_body names body) env.diagnostics
        new.diagnostics (function_refusals names f body w) (graph_refused names tables w.items w.rest body env new params built g)

    pub lower_bounded : (h : HirFunction (List BlockPair)) → h.body ≡ hir_of built → h.instructions ≡ built.table
        → function_size h ≤ 64 * nodes f
    lower_bounded h body_is instructions_is =
        graph_bounded names tables w.items w.rest body env new params built g h (nodes f) body_is instructions_is (function_nodes f body w)

    pub lower_functions : new.functions ≡ env.functions
    lower_functions =
        ap (λ (e : Environment). e.functions) g.after
        ∙ (graph_keeps names tables w.items w.rest body env new params built g).functions

    pub lower_fn_type : new.fn_type ≡ env.fn_type
    lower_fn_type =
        ap (λ (e : Environment). e.fn_type) g.after ∙ (graph_keeps names tables w.items w.rest body env new params built g).fn_type

    pub lower_skip : new.skip ≡ env.skip
    lower_skip = ap (λ (e : Environment). e.skip) g.after ∙ (graph_keeps names tables w.items w.rest body env new params built g).skip

    pub lower_fits : HasRoom (begun_by env tables) (share (nodes f)) → (length new.identifiers < 2 ^ 32) × (new.next_type + 1 < 2 ^ 32)
    lower_fits room = (
      identifiers_fit names tables w.items w.rest body env new params built g (lower_room (begun_by env tables) room),
      types_fit names tables w.items w.rest body env new params built g (lower_room (begun_by env tables) room),
    )

    -- The pairs behind the graph and one identifier more, that of the returned place.
    pub lower_pairs : (behind : Environment) (span : Option Span) → env.pairs ≡ [] → behind ≡ one_identifier_more new span
        → ArePairs names behind.identifiers behind.pairs
    lower_pairs behind span none more =
        subst (λ (e : Environment). ArePairs names e.identifiers e.pairs)
        (sym (more ∙ ap (λ (e : Environment). one_identifier_more e span) g.after))
        (pairs_told names (with_temporary (closed_off g.state) span)
        ((extends_temporary (closed_off g.state) span).sound (graph_names names tables w.items w.rest body env new params built g none))
        ((names_temporary {names = names} (closed_off g.state) span).pairs
        ((graph_keeps names tables w.items w.rest body env new params built g).pairs
        (subst (λ (l : List Pair). All (IsNamedPair names env.identifiers) l) (sym none)
        (All-nil (IsNamedPair names env.identifiers))))))

    -- The runs.
    module _ (declared : DeclaresAll names (params_in f)) (none : env.pairs ≡ []) (supported : refusals_of names f ≡ [])
        (unskipped : has_using (body_in f) ≡ false) (h : HirFunction (List BlockPair)) (pairs : List Pair) (final : pairs ≡ new.pairs)
        (body_is : h.body ≡ hir_of built) (instructions_is : h.instructions ≡ built.table) (params_is : h.params ≡ params) where
      abbrev ended : State
      ended = closed_off g.state

      abbrev ident : ℕ → Option ℕ
      ident symbol = identifier_of pairs symbol

      covers : CoversNames ended.env.pairs (length ended.env.identifiers) ident
      covers =
          subst (λ (l : List Pair). CoversNames ended.env.pairs (length ended.env.identifiers) (λ symbol. identifier_of l symbol))
          (sym (final ∙ ap (λ (e : Environment). e.pairs) g.after))
          (sound_covers ended (graph_names names tables w.items w.rest body env new params built g none))

      at_given : CoversNames g.given.env.pairs (length g.given.env.identifiers) ident
      at_given = given_covers names tables w.items w.rest body env new params built g ident covers

      sound : HasSoundNames (begun_by env tables)
      sound = begun_sound env tables none

      lower_runs_by : (scene : Scene) (world : World) → IsSceneOf names pairs scene world
          → (stuck : Trace) (start : List Assignment) (arguments : List Value) (answers : List Answer)
          → trace_by stuck world h pairs start arguments answers ≡ run_function scene f start arguments answers
      lower_runs_by scene world stands =
          function_runs_by scene world w.items w.rest (exec_before_end scene body) (begun_by env tables) g.given g.state
          (begun_fresh env tables) sound (graph_fits names tables w.items w.rest body env new params built g) lowered.blocks lowered.unread
          lowered.steps h pairs runs covers stands.shares f built new g.graph
          (graph_table names tables w.items w.rest body env new params built g)
          (graph_unlinked names tables w.items w.rest body env new params built g) body_is instructions_is
          (λ start arguments. take_plain names w.items arguments (set_all start unset))
          (λ start arguments. subst (λ (ps : List Param). Agrees ident (take_plain names w.items arguments (set_all start unset))
          (take_arguments ps arguments (start_values pairs start))) (sym params_is)
          (params_agree ident covers.one g.lowers_params.by at_given sound arguments (set_all start unset) (start_values pairs start)
          (agrees_start ident covers.one start)))
          (λ start arguments. subst (λ (ps : List Param). HaveArguments (take_arguments ps arguments (start_values pairs start)) w.items ps
          arguments) (sym params_is) (params_have ident g.lowers_params.by at_given sound arguments (start_values pairs start)))
          (λ start arguments answers. function_means scene f body w stands.ported
          (subst (λ (n : Names). DeclaresAll n (params_in f)) (sym stands.named) declared) start arguments answers
          ∙ ap (λ (n : Names). function_trace scene w.items w.rest (exec_before_end scene body) arguments
          (take_plain n w.items arguments (set_all start unset)) answers) stands.named)
        where
          lowered : LowersFunction names (AreSmall w.items w.rest body) (nodes_in w.items w.rest body) (begun_by env tables) g.state
          lowered = lowered_from names tables w.items w.rest body env new params built g

          runs : RunsFunction scene w.items w.rest h.params (exec_before_end scene body) (begun_by env tables) g.given g.state
          runs = record {
            first = g.lowers_params.blocks;
            second = g.lowers.blocks;
            params = subst (λ (ps : List Param). RunsParams scene w.items w.rest ps (begun_by env tables) g.given) (sym params_is)
                (g.lowers_params.runs (params_supported supported) scene stands.named stands.ported stands.early);
            body = g.lowers.runs (body_supported supported) (sym (ap has_using w.is_body) ∙ unskipped) scene stands.named stands.ported
                stands.early;
          }

      pub lower_same_runs : (scene : Scene) (world : World) → IsSceneOf names pairs scene world → SameRuns scene f world h pairs
      lower_same_runs scene world stands start arguments answers = lower_runs_by scene world stands waiting start arguments answers

      pub lower_never_stuck : (scene : Scene) (world : World) → IsSceneOf names pairs scene world → NeverStuck world h pairs
      lower_never_stuck scene world stands stuck start arguments answers =
          lower_runs_by scene world stands stuck start arguments answers ∙ sym (lower_same_runs scene world stands start arguments answers)

    -- The identifiers of parameters there, where the index has the declarations of plain names: each has the span of its last declaration.
    pub lower_given : (behind : Environment) (span : Option Span) → AreToldApart names (params_in f)
        → AreLocals names (parameters_of names f)
        → All (λ p. declaration_span tables.sites tables.semantic.bindings.symbols p.symbol.0 ≡ Some p.declaration) (parameters_of names f)
        → env.pairs ≡ [] → behind ≡ one_identifier_more new span
        → HasParams names (λ symbol before. span_behind_body names symbol body before) behind.identifiers behind.pairs (params_in f) params
    lower_given behind span told locals indexed none more =
        subst (λ (e : Environment). HasParams names at_end e.identifiers e.pairs (params_in f) params)
        (sym (more ∙ ap (λ (e : Environment). one_identifier_more e span) g.after))
        (subst (λ (t : Syntax). HasParams names at_end last.env.identifiers last.env.pairs t params) (sym w.is_params)
        (params_given names May spans told.told at_end last.env.identifiers last.env.pairs g.lowers_params.by
        (λ x m. subst (λ (t : Syntax). Mentions names x t) (sym w.is_params) (inl m))
        (λ x m. subst (λ (t : Syntax). Mentions names x t) (sym w.is_params) (inr (inl m))) plain (begun_sound env tables none)
        (own_begun names May (begun_by env tables) refl refl) ends))
      where
        last : State
        last = with_temporary (closed_off g.state) span

        May : SymbolId → Type 0
        May x = Mentions names x (params_in f)

        spans : ℕ → Option Span
        spans symbol = declaration_span tables.sites tables.semantic.bindings.symbols symbol

        at_end : (symbol : ℕ) → (before : Span) → Span
        at_end symbol before = span_behind_body names symbol body before

        plain : All (IsIndexed names spans) (parameters_among names w.items)
        plain =
            subst (λ (t : Syntax). All (IsIndexed names spans) (parameters_in names t))
            w.is_params
            (λ place default within.
            record { named = locals.named place default within; spanned = indexed place default within })

        ends : Ends at_end last.env.identifiers last.env.pairs g.given
        ends = record {
          all = all_then g.given.env.identifiers g.state.env.identifiers last.env.identifiers (body_keeps_all g.lowers.by)
              (all_then g.state.env.identifiers (closed_off g.state).env.identifiers last.env.identifiers
              (λ identifier known is. record { span = known.span; is = identifiers_closed g.state identifier known is })
              (all_more (closed_off g.state).env.identifiers _));
          bound = λ q symbol identifier is.
              (given_extends names tables w.items w.rest body env new params built g).names.kept symbol identifier (sym (q.same symbol)
              ∙ is);
          keeps = λ q symbol identifier known before is at.
              get_more (closed_off g.state).env.identifiers _ identifier _
              (identifiers_closed g.state identifier _ (g.lowers.respans.keeps q symbol identifier known before is at));
        }
