-- The graph of a function has known places and, where the function is small, writable parts.
use Rattle.std.proofs.Common.{◌≡◌, ℕ, ◌+◌, ◌<◌, ◌≤◌, ◌^◌, ◌++◌, List, [], ◌∷◌, length, length-append, map, All, Some, None}
use Rattle.std.proofs.Common.{sym, ap, ◌∙◌, subst, arith}
use Rattle.std.specs.Str.{IsUtf8}
use Rattle.std.proofs.lemmas.List.Elements.{All-nil, All-push, All-same, All-weaker}
use Rattle.rl_base.specs.declared.ids.BlockId.{BlockId}
use Rattle.rl_base.specs.declared.ids.InstructionId.{InstructionId}
use Rattle.rl_base.specs.declared.span.Span.{Span}
use Rattle.rl_builder.specs.Build.{IsBuilt, graph_of}
use Rattle.rl_builder.specs.Builder.{State, completed_by, placeholder}
use Rattle.rl_builder.specs.Temporaries.{temporary}
use Rattle.rl_hir.specs.Blocks.{Pair as BlockPair}
use Rattle.rl_hir.specs.Listing as listing
use Rattle.rl_hir.specs.declared.environment.Environment.{Environment}
use Rattle.rl_hir.specs.declared.function.Hir.{Hir}
use Rattle.rl_hir.specs.declared.function.HirFunction.{HirFunction}
use Rattle.rl_hir.specs.declared.function.Identifier.{Identifier}
use Rattle.rl_hir.specs.declared.function.Pair.{Pair}
use Rattle.rl_hir.specs.declared.function.Param.{Param}
use Rattle.rl_hir.specs.declared.instruction.Instruction.{Instruction}
use Rattle.rl_hir.specs.declared.instruction.Place.{Place}
use Rattle.rl_hir.specs.declared.terminal.ReturnVariant.TheVariants as returns
use Rattle.rl_lower.proofs.Building.{IsFresh, sound_closed}
use Rattle.rl_lower.proofs.Builds.{closed_env, closed_fits, closed_size, closed_table, orders_fit}
use Rattle.rl_lower.proofs.Closings.{closed_is}
use Rattle.rl_lower.proofs.FunctionGraphs.{begun_fresh}
use Rattle.rl_lower.proofs.Functions.{extends_closed}
use Rattle.rl_lower.proofs.FunctionTrees.{IsFunction, function_small}
use Rattle.rl_lower.proofs.LoweredFunctions.{AreSmall, LowersFunction, lowered_both, nodes_in}
use Rattle.rl_lower.proofs.SoundOrders.{built_table_known, built_terminals_known, built_writable}
use Rattle.rl_lower.specs.Begun.{FunctionTables, begun_by}
use Rattle.rl_lower.specs.Endings.{closed_off, hir_of, with_undefined}
use Rattle.rl_lower.specs.Sound.{IsSoundGraph, IsWritableGraph}
use Rattle.rl_lowered.proofs.SoundListing.{function_writable, place_writable, unnamed_writable}
use Rattle.rl_lowered.proofs.SoundMoves.{counters_before, known_more, none_known, place_later, sound_next, table_more, terminals_more}
use Rattle.rl_lowered.proofs.SoundPatterns.{params_sound, params_writable}
use Rattle.rl_lowered.specs.Promised.{HasRoom, LowersBody, LowersParams, share}
use Rattle.rl_lowered.specs.Sound.{AreWritableIdentifiers, AreWritablePairs, HasKnownParts, HasSmallCounters, HasSmallTargets}
use Rattle.rl_lowered.specs.Sound.{AreSmallTrees, HasWritableParts, IsSmallTree, IsSoundPlace, StaysSound}
use Rattle.rl_machine.specs.Machine.{Graph}
use Rattle.rl_model.specs.WellFormed.{AreKnown, HasKnownPlaces, instruction_places, param_place, terminal_places}
use Rattle.rl_names.specs.Functions.{name_in}
use Rattle.rl_names.specs.Names.{Names}
use Rattle.rl_order.specs.Numbering.{orders_of}
use Rattle.rl_promises.specs.Locals.{KnowsNames}
use Rattle.rl_runs.specs.Blocks.{size_of}
use Rattle.rl_runs.specs.Moves.{return_of}
use Rattle.rl_syntax.specs.Syntax.{Pieces, Syntax, span_of}
use Rattle.rl_text.specs.Notation.{IsWritable}
use Rattle.rl_text.specs.Number.{largest}

abbrev IsWritableIdentifier : Identifier → Type 0
IsWritableIdentifier i = IsWritable (listing.identifier i)

-- A builder before the parameters.

begun_known : (env : Environment) (tables : FunctionTables) → HasKnownParts (begun_by env tables)
begun_known env tables = record {
  table = All-nil (λ (i : Instruction). AreKnown (length env.identifiers) (instruction_places i));
  terminals = All-nil (λ (b : BlockPair). AreKnown (length env.identifiers) (terminal_places b.1.terminal));
}

begun_writable : (env : Environment) (tables : FunctionTables) → HasSmallCounters (begun_by env tables)
    → HasWritableParts (begun_by env tables)
begun_writable env tables fits = record {
  table = All-nil (λ (i : Instruction). IsWritable (listing.instruction i));
  completed = All-nil (λ (b : BlockPair). IsWritable (listing.block b));
  current = omega (arith, fits.blocks);
  listed = All-nil (λ (id : InstructionId). id.0 ≤ largest);
  handlers = All-nil (λ (id : BlockId). id.0 ≤ largest);
  scopes = All-nil HasSmallTargets;
}

-- The graph of a function whose parameters and body were lowered and closed off.
module _ (names : Names) (tables : FunctionTables) (items : Pieces) (rest body : Syntax) (env new : Environment) (given s : State)
    (params : List Param) (built : Graph)
    (p : LowersParams names items rest (begun_by env tables) given params) (b : LowersBody names body given s)
    (room : HasRoom (begun_by env tables) (share (nodes_in items rest body + 2)))
    (graph : IsBuilt (closed_off s) built new) (knows : KnowsNames names) where
  abbrev begun : State
  begun = begun_by env tables

  abbrev small_parts : Type 0
  small_parts = AreSmall items rest body

  abbrev count : ℕ
  count = nodes_in items rest body

  lowered : LowersFunction names (AreSmall items rest body) (nodes_in items rest body) begun s
  lowered = lowered_both p b

  abbrev small_params : Type 0
  small_params = AreSmallTrees items × IsSmallTree rest

  -- The places of the parameters stay sound.
  places : All (IsSoundPlace small_params (closed_off s)) (map param_place params)
  places =
      All-weaker (IsSoundPlace small_params given) (IsSoundPlace small_params (closed_off s))
      (λ q sound. place_later small_params (IsSmallTree body) small_params given (closed_off s) q (λ holds. holds)
      (sound_next (IsSmallTree body) given s (closed_off s) b.sound (sound_closed (IsSmallTree body) s)) sound) (map param_place params)
      (params_sound small_params knows p.by (λ holds. holds.0) (λ holds. holds.1)).places

  whole : StaysSound small_parts begun (closed_off s)
  whole = sound_next small_parts begun s (closed_off s) lowered.sound (sound_closed small_parts s)

  fresh : IsFresh begun
  fresh = begun_fresh env tables

  few : (closed_off s).env.next_block < 2 ^ 32
  few = closed_fits names small_parts count begun s lowered room

  size : size_of (closed_off s) < 2 ^ 31
  size = omega (arith, closed_size names small_parts count begun s lowered, room)

  fits : HasSmallCounters (closed_off s)
  fits =
      record {
        blocks = omega (arith, size);
        types = omega (arith, size);
        identifiers = omega (arith, size);
        instructions = omega (arith, size);
      }

  fits0 : HasSmallCounters begun
  fits0 = counters_before begun (closed_off s) whole.counters fits

  known : HasKnownParts (closed_off s)
  known = whole.known (begun_known env tables)

  same : graph_of (closed_off s) ≡ (closed_off s).completed
  same = closed_table names small_parts count begun s fresh lowered few

  at_entry : s.entry.0 ≡ env.next_block
  at_entry = ap (λ (id : BlockId). id.0) lowered.blocks.extends.entry

  orders : 1 + orders_of (closed_off s).completed < 2 ^ 32
  orders = orders_fit names small_parts count begun s fresh lowered few room

  graph_sound : IsSoundGraph items rest body params env new built
  graph_sound =
      subst (λ (e : Environment). IsSoundGraph items rest body params env e built)
      (sym (closed_env names small_parts count begun s fresh lowered few built new graph)) (record {
        given = All-weaker (IsSoundPlace small_params (closed_off s)) (λ q. q.identifier.0 < length (closed_off s).env.identifiers)
            (λ q sound. sound.known) (map param_place params) places;
        listed = λ first last. params_writable small_params (closed_off s) params (first, last) fits places;
        count = fits.identifiers;
        types = fits.types;
        table = built_table_known (closed_off s) built new graph (length (closed_off s).env.identifiers) known.table;
        terminals = built_terminals_known (closed_off s) built new graph (length (closed_off s).env.identifiers) same known.terminals;
        graph =
            λ first last small. built_writable (closed_off s) built new graph same (omega (arith, entry_is, at_entry, fits0.blocks))
            (omega (arith, orders))
            (whole.parts ((first, last), small) fits (begun_writable env tables fits0));
        identifiers = λ first last small w. whole.identifiers ((first, last), small) fits w;
        pairs = λ w. whole.pairs fits w;
      })
    where
      entry_is : (closed_off s).entry.0 ≡ s.entry.0
      entry_is = ap (λ (id : BlockId). id.0) (extends_closed s).entry

-- A sound graph, from the states that the code goes through.
pub graph_sound_call : (names : Names) (tables : FunctionTables) (items : Pieces) (rest body : Syntax) (env new : Environment)
    (params : List Param) (built : Graph) (given s s1 s2 : State) (p : Place)
    → LowersParams names items rest (begun_by env tables) given params → LowersBody names body given s
    → HasRoom (begun_by env tables) (share (nodes_in items rest body + 2)) → s1 ≡ with_undefined s → p ≡ temporary s None
    → s2 ≡ completed_by s1 (return_of None returns.Void p) placeholder → IsBuilt s2 built new → KnowsNames names
    → IsSoundGraph items rest body params env new built
graph_sound_call names tables items rest body env new params built given s s1 s2 p in_params in_body room is placed ended graph knows =
    graph_sound names tables items rest body env new given s params built in_params in_body room
    (subst (λ (t : State). IsBuilt t built new) (closed_is s s1 s2 p is placed ended) graph) knows

-- The function.

-- An identifier without a name.
abbrev unnamed : Span → ℕ → Identifier
unnamed span type = record { name = None; span = Some span; type_id = record { 0 = type } }

module _ (fn tree : Syntax) (w : IsFunction fn tree) (env mid new : Environment) (params : List Param) (built : Graph)
    (g : IsSoundGraph w.items w.rest tree params env mid built) where
  pub function_places : (i : Identifier) (f : HirFunction (List BlockPair)) → new.identifiers ≡ mid.identifiers ++ i ∷ []
      → f.body ≡ hir_of built → f.instructions ≡ built.table → f.params ≡ params
      → f.context ≡ [] → f.returns ≡ record { identifier = record { 0 = length mid.identifiers }; span = None }
      → HasKnownPlaces (length new.identifiers) f
  function_places i f more body_is table_is params_are none returned = record {
    table = subst (λ (t : List Instruction). All (λ i. AreKnown (length new.identifiers) (instruction_places i)) t) (sym table_is)
        (table_more (length mid.identifiers) (length new.identifiers) built.table below g.table);
    terminals = subst (λ (h : Hir (List BlockPair)). All (λ b. AreKnown (length new.identifiers) (terminal_places b.1.terminal)) h.blocks)
        (sym body_is) (terminals_more (length mid.identifiers) (length new.identifiers) built.blocks below g.terminals);
    params = subst (λ (ps : List Param). AreKnown (length new.identifiers) (map param_place ps)) (sym params_are)
        (known_more (length mid.identifiers) (length new.identifiers) (map param_place params) below g.given);
    context = All-same (λ (p : Place). p.identifier.0 < length new.identifiers) f.context [] none
        (none_known (length new.identifiers));
    returns = omega (arith, ap (λ (p : Place). p.identifier.0) returned, longer);
  }
    where
      longer : length new.identifiers ≡ length mid.identifiers + 1
      longer = ap (λ (l : List Identifier). length l) more ∙ length-append mid.identifiers (i ∷ [])

      below : length mid.identifiers ≤ length new.identifiers
      below = omega (arith, longer)

  -- The pairs, where there were none before.
  pub function_pairs : env.pairs ≡ [] → new.pairs ≡ mid.pairs → AreWritablePairs new.pairs
  function_pairs none same =
      subst AreWritablePairs (sym same)
      (g.pairs (subst AreWritablePairs (sym none) (All-nil (λ (p : Pair). IsWritable (listing.pair p)))))

  pub function_identifiers : (span : Span) → span ≡ span_of fn → new.identifiers ≡ mid.identifiers ++ unnamed span mid.next_type ∷ []
      → IsSmallTree fn → AreWritableIdentifiers env.identifiers → AreWritableIdentifiers new.identifiers
  function_identifiers span span_is more small known =
      let parts : AreSmall w.items w.rest tree = function_small fn tree w small in
      All-same IsWritableIdentifier new.identifiers _ more
      (All-push IsWritableIdentifier mid.identifiers _ (g.identifiers parts.0.0 parts.0.1 parts.1 known)
      (unnamed_writable (Some span) mid.next_type
      (subst (λ (s : Span). IsWritable (listing.optional listing.span (Some s))) (sym span_is) (w.spanned small)) g.types))

  pub function_listed : (f : HirFunction (List BlockPair)) → f.span ≡ Some (span_of fn) → f.name ≡ name_in fn
      → (IsSmallTree tree → All IsUtf8 f.directives) → f.body ≡ hir_of built
      → f.instructions ≡ built.table → f.params ≡ params → f.context ≡ []
      → f.returns ≡ record { identifier = record { 0 = length mid.identifiers }; span = None } → IsSmallTree fn
      → IsWritable (listing.function f)
  function_listed f span_is name_is directives body_is table_is params_are none returned small =
      let parts : AreSmall w.items w.rest tree = function_small fn tree w small in
      let graph : IsWritableGraph built = g.graph parts.0.0 parts.0.1 parts.1 in
      function_writable f
      (subst (λ o. IsWritable (listing.optional listing.span o)) (sym span_is) (w.spanned small))
      (subst (λ o. IsWritable (listing.optional listing.said o)) (sym name_is) (w.named small))
      (directives parts.1)
      (subst (λ (ps : List Param). All (λ p. IsWritable (listing.param p)) ps) (sym params_are)
      (g.listed parts.0.0 parts.0.1))
      (All-same (λ (p : Place). IsWritable (listing.place p)) f.context [] none
      (All-nil (λ (p : Place). IsWritable (listing.place p))))
      (subst (λ (p : Place). IsWritable (listing.place p)) (sym returned)
      (place_writable (record { identifier = record { 0 = length mid.identifiers }; span = None }) g.count tt))
      (subst (λ (h : Hir (List BlockPair)). h.entry.0 ≤ largest) (sym body_is) graph.entry)
      (subst (λ (h : Hir (List BlockPair)). All (λ b. IsWritable (listing.block b)) h.blocks) (sym body_is) graph.blocks)
      (subst (λ (t : List Instruction). All (λ i. IsWritable (listing.instruction i)) t) (sym table_is) graph.table)
