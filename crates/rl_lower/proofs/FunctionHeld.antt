-- The counted nodes of a function are in its graph (`HoldsNodes`), from the lowering of its parameters and its body.
use Rattle.std.proofs.Common.{◌≡◌, ℕ, ◌+◌, ◌<◌, ◌≤◌, ◌^◌, Bool, true, false, ◌&&◌, nat_eq, if◌then◌else◌, Option, Some, None, List, [], ◌∷◌}
use Rattle.std.proofs.Common.{◌++◌, All, append-nil, length, slice_get, refl, sym, ap, ◌∙◌, subst, arith, eq-eqb}
use Rattle.std.specs.Option.{option_map}
use Rattle.std.proofs.lemmas.List.Elements.{All-append, All-contains}
use Rattle.std.proofs.lemmas.Option.{none-some, same_Some, slice_get-map}
use Rattle.rl_base.proofs.DistinctLists.{IsIn, distinct_left}
use Rattle.rl_base.specs.Distinct.{AreDistinct}
use Rattle.rl_base.specs.declared.ids.BlockId.{BlockId}
use Rattle.rl_base.specs.declared.ids.InstructionId.{InstructionId}
use Rattle.rl_base.specs.declared.span.Span.{Span}
use Rattle.rl_builder.specs.Build.{graph_of}
use Rattle.rl_builder.specs.Builder.{State, innermost, pushed_under, with_temporary}
use Rattle.rl_builder.specs.Temporaries.{temporary, unordered}
use Rattle.rl_hir.specs.Blocks.{Pair as BlockPair, block_at}
use Rattle.rl_hir.specs.Numbered.{listed_in}
use Rattle.rl_hir.specs.Pairs.{identifier_of}
use Rattle.rl_hir.specs.declared.environment.Environment.{Environment}
use Rattle.rl_hir.specs.declared.function.BasicBlock.{BasicBlock}
use Rattle.rl_hir.specs.declared.function.Hir.{Hir}
use Rattle.rl_hir.specs.declared.function.HirFunction.{HirFunction}
use Rattle.rl_hir.specs.declared.function.Param.{Param}
use Rattle.rl_hir.specs.declared.instruction.Instruction.{Instruction}
use Rattle.rl_hir.specs.declared.instruction.InstructionValue.TheVariants as values
use Rattle.rl_hir.specs.declared.instruction.PrimitiveValue.TheVariants as primitives
use Rattle.rl_lower.proofs.FunctionGraphs.{begun_fresh, body_supported, graph_fits, graph_names, graph_table, graph_unlinked, lowered_from}
use Rattle.rl_lower.proofs.FunctionGraphs.{params_supported}
use Rattle.rl_lower.proofs.FunctionTrees.{IsFunction, said_of_params}
use Rattle.rl_lower.proofs.Functions.{entry_is, extends_closed, function_finished}
use Rattle.rl_lower.proofs.HeldNodes.{built_at, built_once, built_reached, listed_once, times_append, times_at, times_in, times_listed}
use Rattle.rl_lower.proofs.HeldNodes.{times_plain, weight}
use Rattle.rl_lower.proofs.Linked.{built_plain}
use Rattle.rl_lower.proofs.LoweredFunctions.{AreSmall, LowersFunction, nodes_in}
use Rattle.rl_lower.proofs.WellFormed.{graph_listed}
use Rattle.rl_lower.specs.Begun.{FunctionTables, begun_by}
use Rattle.rl_lower.specs.Endings.{IsGraphOf, closed_off, hir_of}
use Rattle.rl_lowered.proofs.HeldParts.{counted_among}
use Rattle.rl_lowered.specs.Promised.{counted_word, held_by, held_of}
use Rattle.rl_machine.specs.Machine.{Code, Graph, Runs, block_of, item_at, item_by}
use Rattle.rl_machine.specs.Traces.{World}
use Rattle.rl_model.specs.Counted.{Counted}
use Rattle.rl_names.specs.Functions.{params_in}
use Rattle.rl_names.specs.Names.{Names}
use Rattle.rl_order.specs.Reached.{IsReached}
use Rattle.rl_promises.specs.HeldNodes.{HoldsNodes}
use Rattle.rl_promises.specs.Live.{Held, LivesOn, held_among, held_in, live_in_body}
use Rattle.rl_promises.specs.Rows.{refusals_in_body, refusals_of}
use Rattle.rl_promises.specs.Tallies.{IsHeldKind, is_among, tallied, tallied_among}
use Rattle.rl_promises.specs.Held.{is_of, is_span, listed, times}
use Rattle.rl_runs.proofs.FinalNames.{sound_covers}
use Rattle.rl_runs.proofs.Finished.{IsFinished, code, finished_contained, led_reached}
use Rattle.rl_runs.proofs.Graphs.{without_order}
use Rattle.rl_runs.proofs.Listed.{numbers}
use Rattle.rl_runs.proofs.Moves.{contained_before}
use Rattle.rl_runs.proofs.Ordered.{found_holds}
use Rattle.rl_runs.specs.Blocks as blocks
use Rattle.rl_runs.specs.Blocks.{IsLedTo, Stands}
use Rattle.rl_runs.specs.Facts.{IsContainedIn}
use Rattle.rl_syntax.specs.Syntax.{Pieces, Syntax}

-- An instruction by which a counted node is held counts for that, whatever order it has.

spans_meet : (key own at : Span) → own ≡ at → at ≡ key → is_span key (Some own) ≡ true
spans_meet key own at is same =
    ap (λ (s : Span). nat_eq s.start key.start && nat_eq s.end key.end) (is ∙ same)
    ∙ ap (λ (b : Bool). b && nat_eq key.end key.end) (eq-eqb key.start key.start refl) ∙ eq-eqb key.end key.end refl

abbrev one_if : Bool → ℕ
one_if b = if b then 1 else 0

held_counts : (kinds : List (List ℕ)) (key : Span) (o : Option (List ℕ)) (span : Option Span) (h : Held) → held_of o span ≡ Some h
    → h.span ≡ key → is_among kinds (Some h.word) ≡ true
    → one_if (is_among kinds o && is_span key span) ≡ 1
held_counts kinds key None span h is there among = absurd (none-some h is)
held_counts kinds key (Some text) None h is there among = absurd (none-some h is)
held_counts kinds key (Some text) (Some span) h is there among =
    let same : record { word = text; span = span } ≡ h = same_Some (record { word = text; span = span }) h is in
    let word : is_among kinds (Some text) ≡ true = ap (λ (x : Held). is_among kinds (Some x.word)) same ∙ among in
    ap (λ (b : Bool). one_if (b && is_span key (Some span))) word
    ∙ ap one_if (spans_meet key span h.span (ap (λ (x : Held). x.span) same) there)

held_weight : (key : Counted) → IsHeldKind key.kinds → (h : Held) (i j : Instruction) → held_by i ≡ Some h → h.span ≡ key.span
    → is_among key.kinds (Some h.word) ≡ true → without_order j ≡ without_order i → weight key j ≡ 1
held_weight key held h i j is there among same =
    ap (λ (x : Instruction). weight key x) same
    ∙ ap (λ (b : Bool). one_if (b && is_span key.span i.span)) (counted_among held i.value)
    ∙ held_counts key.kinds key.span (counted_word i.value) i.span h is there among

-- The end of a body adds nothing that is counted.

uncounted : (key : Counted) (o : Option BlockId) (s : State) (i : Instruction) → i.span ≡ None
    → times key (pushed_under o s i).table ≡ times key s.table
uncounted key o s i bare = by_handler o
  where
    zero_if : (b : Bool) → one_if (b && false) ≡ 0
    zero_if true = refl
    zero_if false = refl

    light : weight key i ≡ 0
    light = ap (λ (at : Option Span). if is_of key.kinds i.value && is_span key.span at then 1 else 0) bare
        ∙ zero_if (is_of key.kinds i.value)

    more : times key (s.table ++ i ∷ []) ≡ times key s.table
    more =
        let both : times key (s.table ++ i ∷ []) ≡ times key s.table + times key (i ∷ []) = times_append key s.table (i ∷ []) in
        omega (arith, both, light)

    by_handler : (h : Option BlockId) → times key (pushed_under h s i).table ≡ times key s.table
    by_handler None = more
    by_handler (Some handler) = more

times_closed : (key : Counted) (s : State) → times key (closed_off s).table ≡ times key s.table
times_closed key s =
    uncounted key (innermost s.handlers) (with_temporary s None)
    (unordered (temporary s None) (values.Primitive primitives.Undefined) None) refl

-- The block in which an instruction of the code stands.
record StandsAt (completed : List BlockPair) (table : List Instruction) (id place : ℕ) (i : Instruction) : Type 0 where
  block : BasicBlock
  found : block_of completed id ≡ Some block
  number : InstructionId
  at : slice_get block.instructions place ≡ Some number
  kept : slice_get table number.0 ≡ Some i

stands_at : (completed : List BlockPair) (table : List Instruction) (id place : ℕ) (i : Instruction)
    → item_at table (block_of completed id) place ≡ Some (Runs i) → StandsAt completed table id place i
stands_at completed table id place i is = by_block (block_of completed id) refl is
  where
    by_kept : (o : Option Instruction) → option_map (λ j. Runs j) o ≡ Some (Runs i) → o ≡ Some i
    by_kept None e = absurd (cc)
    by_kept (Some j) e = cc

    by_listed : (block : BasicBlock) → block_of completed id ≡ Some block → (o : Option InstructionId) (b : Bool)
        → slice_get block.instructions place ≡ o → item_by table o b block.terminal ≡ Some (Runs i) → StandsAt completed table id place i
    by_listed block found (Some number) b at e =
        record { block = block; found = found; number = number; at = at; kept = by_kept (slice_get table number.0) e }
    by_listed block found None true at e = absurd (cc)
    by_listed block found None false at e = absurd (cc)

    by_block : (o : Option BasicBlock) → block_of completed id ≡ o → item_at table o place ≡ Some (Runs i)
        → StandsAt completed table id place i
    by_block None found e = absurd (cc)
    by_block (Some block) found e =
        by_listed block found (slice_get block.instructions place) (nat_eq place (length block.instructions)) refl e

module _ (names : Names) (tables : FunctionTables) (items : Pieces) (rest body : Syntax) (env new : Environment)
    (params : List Param) (built : Graph) (g : IsGraphOf names tables items rest body env new params built) where
  abbrev begun : State
  begun = begun_by env tables

  abbrev last : State
  last = closed_off g.state

  lowered : LowersFunction names (AreSmall items rest body) (nodes_in items rest body) begun g.state
  lowered = lowered_from names tables items rest body env new params built g

  fits : last.env.next_block < 2 ^ 32
  fits = graph_fits names tables items rest body env new params built g

  table_is : graph_of last ≡ last.completed
  table_is = graph_table names tables items rest body env new params built g

  -- The table holds the counted nodes, where no node is refused.
  pub graph_tallied : said_of_params names items rest ≡ [] → refusals_in_body names body ≡ [] → (key : Counted) → IsHeldKind key.kinds
      → times key built.table ≡ tallied_among names key items + tallied names key rest + tallied names key body
  graph_tallied taken accepted key held =
      let in_params : times key g.given.table ≡ 0 + (tallied_among names key items + tallied names key rest) =
      g.lowers_params.tallies taken key held in
      let in_body : times key g.state.table ≡ times key g.given.table + tallied names key body = g.lowers.tallies accepted key held in
      let same : times key built.table ≡ times key g.state.table =
      sym (times_plain key built.table) ∙ ap (λ (l : List Instruction). times key l) (built_plain last built new g.graph)
      ∙ times_plain key last.table ∙ times_closed key g.state in
      omega (arith, in_params, in_body, same)

  -- Blocks list an instruction once at most.
  pub graph_once : (key : Counted) → times key (listed built.table built.blocks) ≤ times key built.table
  graph_once key =
      let few : times_at key built.table (listed_in built.blocks) ≤ times key built.table =
      listed_once key built.table (listed_in built.blocks) (built_once last built new g.graph once) in
      omega (arith, few, times_listed key built.table built.blocks)
    where
      once : AreDistinct (listed_in (graph_of last))
      once =
          subst (λ (pairs : List BlockPair). AreDistinct (listed_in pairs)) (sym table_is)
          (distinct_left (listed_in last.completed) (numbers last.current.instructions)
          (graph_listed names tables items rest body env new params built g).once)

  -- The code of the blocks, in a world that shares no variable.
  module _ (none : env.pairs ≡ []) (taken : said_of_params names items rest ≡ []) (accepted : refusals_in_body names body ≡ []) where
    fin : IsFinished last
    fin = function_finished begun g.state (begun_fresh env tables) lowered.blocks fits

    abbrev ident : ℕ → Option ℕ
    ident symbol = identifier_of last.env.pairs symbol

    abbrev alone : World
    alone = record { opens = λ symbol. false; keeps = [] }

    abbrev c : Code
    c = code last fin ident alone

    -- The nodes of parameters and body that a run may reach.
    abbrev live : List Held
    live = (held_among names items ++ held_in names rest) ++ live_in_body names body

    at_state : IsContainedIn g.state c
    at_state =
        contained_before (extends_closed g.state) (finished_contained last fin ident alone
        (sound_covers last (graph_names names tables items rest body env new params built g none)))

    at_given : IsContainedIn g.given c
    at_given = contained_before g.lowers.blocks.extends at_state

    led : IsLedTo c last.entry.0 begun.current.id.0
    led = subst (λ (id : ℕ). IsLedTo c last.entry.0 id) (entry_is begun g.state (begun_fresh env tables) lowered.blocks fits) blocks.Begins

    stands : All (Stands held_by c last.entry.0) live
    stands =
        All-append (Stands held_by c last.entry.0) (held_among names items ++ held_in names rest) (live_in_body names body)
        ((g.lowers_params.lives taken).stands c at_given last.entry.0 led)
        ((g.lowers.lives accepted).stands c at_state last.entry.0 ((g.lowers_params.lives taken).onward refl c at_given last.entry.0 led))

    unlinked : (id : BlockId) (block : BasicBlock) → block_at (graph_of last) id ≡ Some block → block.preds ≡ []
    unlinked id block found =
        (found_holds (λ (b : BlockPair). b.1.preds ≡ []) last.completed id block
        (graph_unlinked names tables items rest body env new params built g)
        (ap (λ (pairs : List BlockPair). block_at pairs id) (sym table_is) ∙ found)).1

    -- An instruction of a live node is listed.
    listed_live : (key : Counted) → IsHeldKind key.kinds → (h : Held) → h.span ≡ key.span → is_among key.kinds (Some h.word) ≡ true
        → Stands held_by c last.entry.0 h → 1 ≤ times key (listed built.table built.blocks)
    listed_live key held h here among st =
        let at : StandsAt last.completed last.table st.id st.place st.instruction = stands_at last.completed last.table st.id st.place
        st.instruction st.there in
        let reached : IsReached last.completed last.entry (record { 0 = st.id }) =
        led_reached last fin ident alone begun refl refl refl st.id st.reached in
        let there : IsIn (listed_in built.blocks) at.number.0 =
        built_reached last built new g.graph unlinked st.id at.block
        (ap (λ (pairs : List BlockPair). block_at pairs (record { 0 = st.id })) table_is ∙ at.found)
        (subst (λ (pairs : List BlockPair). IsReached pairs last.entry (record { 0 = st.id })) (sym table_is) reached) at.number.0
        (record {
          index = st.place;
          found = slice_get-map (λ (id : InstructionId). id.0) at.block.instructions st.place
              ∙ ap (λ (o : Option InstructionId). option_map (λ id. id.0) o) at.at;
        }) in
        let found = built_at last built new g.graph at.number.0 st.instruction at.kept in
        let one : 1 ≤ times_at key built.table (listed_in built.blocks) =
        times_in key built.table at.number.0 found.0 (listed_in built.blocks) there found.1
        (held_weight key held h st.instruction found.0 st.is here among found.2) in
        omega (arith, one, times_listed key built.table built.blocks)

    pub graph_live : (key : Counted) → IsHeldKind key.kinds → LivesOn live key → 1 ≤ times key (listed built.table built.blocks)
    graph_live key held lives =
        listed_live key held lives.held lives.span lives.word
        (All-contains (λ (h : Held). Stands held_by c last.entry.0 h) live lives.held stands lives.there)

-- The counted nodes of a `params` node are those of its parameters and of the rest.

params_tallied : (names : Names) (key : Counted) (f body : Syntax) (w : IsFunction f body)
    → tallied names key (params_in f) ≡ tallied_among names key w.items + tallied names key w.rest
params_tallied names key f body w =
    let same : tallied names key (params_in f) ≡ 0 + 0 + (tallied_among names key w.items + (tallied names key w.rest + 0)) =
    ap (λ (t : Syntax). tallied names key t) w.is_params in
    omega (arith, same)

params_held : (names : Names) (f body : Syntax) (w : IsFunction f body)
    → held_in names (params_in f) ≡ held_among names w.items ++ held_in names w.rest
params_held names f body w =
    ap (λ (t : Syntax). held_in names t) w.is_params
    ∙ ap (λ (l : List Held). held_among names w.items ++ l) (append-nil (held_in names w.rest))

pub lower_held : (f body : Syntax) (w : IsFunction f body) (names : Names) (tables : FunctionTables) (env new : Environment)
    (params : List Param) (built : Graph) → IsGraphOf names tables w.items w.rest body env new params built → env.pairs ≡ []
    → refusals_of names f ≡ []
    → (h : HirFunction (List BlockPair)) → h.body ≡ hir_of built → h.instructions ≡ built.table → HoldsNodes names f h
lower_held f body w names tables env new params built g none supported h body_is instructions_is = record {
  table = λ key held.
      ap (λ (l : List Instruction). times key l) instructions_is
      ∙ graph_tallied names tables w.items w.rest body env new params built g taken accepted key held
      ∙ ap (λ (n : ℕ). n + tallied names key body) (sym (params_tallied names key f body w))
      ∙ ap (λ (b : Syntax). tallied names key (params_in f) + tallied names key b) (sym w.is_body);
  once = λ key. subst (λ (t : List Instruction). times key (listed t h.body.blocks) ≤ times key t) (sym instructions_is)
      (subst (λ (x : Hir (List BlockPair)). times key (listed built.table x.blocks) ≤ times key built.table) (sym body_is)
      (graph_once names tables w.items w.rest body env new params built g key));
  live = λ key held lives. subst (λ (t : List Instruction). 1 ≤ times key (listed t h.body.blocks)) (sym instructions_is)
      (subst (λ (x : Hir (List BlockPair)). 1 ≤ times key (listed built.table x.blocks)) (sym body_is)
      (graph_live names tables w.items w.rest body env new params built g none taken accepted key held
      (subst (λ (l : List Held). LivesOn (l ++ live_in_body names body) key) (params_held names f body w)
      (subst (λ (b : Syntax). LivesOn (held_in names (params_in f) ++ live_in_body names b) key) w.is_body lives))));
}
  where
    taken : said_of_params names w.items w.rest ≡ []
    taken = params_supported f body w names supported

    accepted : refusals_in_body names body ≡ []
    accepted = body_supported f body w names supported
