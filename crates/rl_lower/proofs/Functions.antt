-- A finished function: its graph may be built, and has the traces of the body.
use Rattle.std.proofs.Common.{◌≡◌, ℕ, ◌+◌, ◌-◌, ◌<◌, ◌≤◌, ◌^◌, inl, inr, List, [], All, length, map, slice_get, Option, Some, None, Ok}
use Rattle.std.proofs.Common.{true, refl, sym, ap, ◌∙◌, subst, arith}
use Rattle.std.proofs.lemmas.List.{length-map}
use Rattle.std.proofs.lemmas.List.Elements.{All-nil}
use Rattle.rl_base.proofs.DistinctLists.{distinct_none}
use Rattle.rl_base.specs.Distinct.{AreDistinct}
use Rattle.rl_base.specs.declared.ids.BlockId.{BlockId}
use Rattle.rl_base.specs.declared.ids.InstructionId.{InstructionId}
use Rattle.rl_builder.specs.Build.{IsBuilt, graph_of, unordered_graph}
use Rattle.rl_builder.specs.Builder.{State, ended_by, innermost, placeholder}
use Rattle.rl_builder.specs.Temporaries.{temporary}
use Rattle.rl_builder.specs.declared.jumps.JumpScope.{JumpScope}
use Rattle.rl_builder.specs.Jumps.{lookup_break, lookup_continue}
use Rattle.rl_hir.specs.Blocks.{Pair as BlockPair}
use Rattle.rl_hir.specs.Pairs.{identifier_of}
use Rattle.rl_hir.specs.declared.function.BlockKind.TheVariants as block_kinds
use Rattle.rl_hir.specs.declared.function.Hir.{Hir}
use Rattle.rl_hir.specs.declared.function.HirFunction.{HirFunction}
use Rattle.rl_hir.specs.declared.function.Pair.{Pair}
use Rattle.rl_hir.specs.declared.function.Param.{Param}
use Rattle.rl_hir.specs.declared.environment.Environment.{Environment}
use Rattle.rl_hir.specs.declared.instruction.Instruction.{Instruction}
use Rattle.rl_hir.specs.declared.instruction.InstructionValue.TheVariants as values
use Rattle.rl_hir.specs.declared.instruction.PrimitiveValue.TheVariants as primitives
use Rattle.rl_hir.specs.declared.terminal.ReturnVariant.TheVariants as returns
use Rattle.rl_hir.specs.declared.terminal.Terminal.{Terminal}
use Rattle.rl_lower.proofs.Building.{IsFresh}
use Rattle.rl_lower.proofs.Ranges.{few_within}
use Rattle.rl_lower.proofs.StartStores.{start_values, take_arguments}
use Rattle.rl_lower.specs.Endings.{closed_off, hir_of, with_undefined}
use Rattle.rl_lowered.proofs.StepMoves.{apart_ended as steps_ended, apart_then, apart_value}
use Rattle.rl_lowered.proofs.Stepless.{stepless_whole, unread_whole}
use Rattle.rl_lowered.proofs.UnreadMoves.{unreads_ended, unreads_then, unreads_value}
use Rattle.rl_lowered.specs.Params.{HaveArguments, RunsParams, take_others}
use Rattle.rl_lowered.specs.Steps.{KeepsStepsApart}
use Rattle.rl_machine.proofs.Silence.{settled_walks, settles_passes_once}
use Rattle.rl_machine.specs.Conditions.{MayOrder}
use Rattle.rl_machine.specs.Ends.{Notes, no_notes}
use Rattle.rl_machine.specs.Machine.{Code, Ends, Graph, code_of, graph_trace, positions, steps_for}
use Rattle.rl_machine.specs.Prunes.{PassesOnce}
use Rattle.rl_machine.specs.Silence.{AlwaysSettles}
use Rattle.rl_machine.specs.Traces.{Cont, Store, World, returned}
use Rattle.rl_machine.specs.declared.trace.Answer.{Answer}
use Rattle.rl_machine.specs.declared.trace.Assignment.{Assignment}
use Rattle.rl_machine.specs.declared.trace.Trace.{Trace}
use Rattle.rl_machine.specs.declared.trace.Value.{Value}
use Rattle.rl_machine.specs.declared.trace.Value.TheVariants as value
use Rattle.rl_model.specs.Actions.{Action, Label, Ways, give}
use Rattle.rl_model.specs.Functions.{outside, run_function}
use Rattle.rl_model.specs.Runs.{param_identifier, trace_by}
use Rattle.rl_model.specs.Scene.{Scene, kept_values}
use Rattle.rl_order.specs.Walk.{IsWhole}
use Rattle.rl_runs.proofs.BlockIds.{apart_ended, completed_in, ids_of}
use Rattle.rl_runs.proofs.Expressions.{literal_runs}
use Rattle.rl_runs.proofs.Finished.{IsFinished, always_settles, code, finished_contained, finished_whole, loops_reached}
use Rattle.rl_runs.proofs.Moves.{contained_before, extends_completed, extends_then, terminal_met}
use Rattle.rl_runs.proofs.Naming.{named_ended, named_none}
use Rattle.rl_runs.proofs.Ordered.{completed_graph, finished_may_order}
use Rattle.rl_runs.proofs.Points.{settle_returned}
use Rattle.rl_runs.proofs.Preserving.{blocks_then, blocks_value}
use Rattle.rl_runs.proofs.Shared.{kept_same}
use Rattle.rl_runs.proofs.Steps.{added_cases, comes_at_once, steps_on}
use Rattle.rl_runs.proofs.Used.{ended_there, ends_more, looped_ended, notes_back, straight_ended}
use Rattle.rl_runs.specs.Blocks.{AreEnds, IsLedTo, IsOwn, Looping, NamesSince, PreservesBlocks, Settling, UniqueIds, is_end}
use Rattle.rl_runs.specs.Continuations.{Agrees, Jumps, SharesVariables, Throws, TracesAt, TracesFrom, between, kept_in}
use Rattle.rl_runs.specs.Facts.{CoversNames, Extends, HasSoundNames, IsCompleted, IsContainedIn}
use Rattle.rl_runs.specs.Moves.{return_of}
use Rattle.rl_runs.specs.ReadNotes.{KeepsUnread, Unread}
use Rattle.rl_runs.specs.Simulation.{RunsStatement}
use Rattle.rl_runs.specs.StepNotes.{Stepless}
use Rattle.rl_syntax.specs.Syntax.{Pieces, Syntax}

-- The return at the end of a body.
abbrev last_end : State → Terminal
last_end s = return_of None returns.Void (temporary s None)

extends_end : (s : State) → Extends (with_undefined s) (closed_off s)
extends_end s = extends_completed (with_undefined s) (last_end s) placeholder (λ none. refl)

pub extends_closed : (s : State) → Extends s (closed_off s)
extends_closed s = extends_then (blocks_value s (values.Primitive primitives.Undefined) None).extends (extends_end s)

-- A builder of which nothing is complete.

nothing_completed : (completed : List BlockPair) → completed ≡ [] → (id : ℕ) → IsCompleted completed id → ⊥
nothing_completed completed none id k =
    (let never : slice_get {X = BlockPair} [] k.place ≡ Some k.block =
    ap (λ (l : List BlockPair). slice_get l k.place) (sym none) ∙ k.found in absurd (cc))

distinct_fresh : (s : State) → IsFresh s → UniqueIds s.completed s.current.id.0 s.env.next_block
distinct_fresh s fresh = record {
  apart = subst (λ (blocks : List BlockPair). AreDistinct (ids_of blocks)) (sym fresh.completed) distinct_none;
  open_block = λ k. nothing_completed s.completed fresh.completed s.current.id.0 k;
  below = λ id k. absurd (nothing_completed s.completed fresh.completed id k);
  current_below = omega (arith, fresh.last);
}

-- The builder of a function behind the end of its body.
module _ (begun s : State) (fresh : IsFresh begun) (b : PreservesBlocks begun s) (fits : (closed_off s).env.next_block < 2 ^ 32) where
  abbrev last : State
  last = closed_off s

  abbrev ending : State
  ending = with_undefined s

  behind : PreservesBlocks begun ending
  behind = blocks_then begun s ending b (blocks_value s (values.Primitive primitives.Undefined) None)

  distinct : UniqueIds ending.completed ending.current.id.0 ending.env.next_block
  distinct = behind.ids.distinct (distinct_fresh begun fresh)

  pub closed_extends : Extends begun last
  closed_extends = extends_then behind.extends (extends_end s)

  -- A complete block has a number from the first on.
  module _ (id : ℕ) (k : IsCompleted last.completed id) where
    own_from : (n : ℕ) → IsOwn begun.current.id.0 begun.env.next_block n → begun.current.id.0 ≤ n
    own_from n own = elim own [ inl e ↦ omega (arith, e) | inr le ↦ omega (arith, le, fresh.last) ]

    completed_within : (begun.current.id.0 ≤ id) × (id < last.env.next_block)
    completed_within = elim (added_cases ending.completed (ended_by ending.current (last_end s)) k.place k.block k.found) [
      | inl e ↦ (let old : IsCompleted ending.completed id = record { place = k.place; block = k.block; found = e; named = k.named } in (
        elim (behind.ids.added id old) [
          | inl before ↦ absurd (nothing_completed begun.completed fresh.completed id before)
          | inr own ↦
              own_from id own
        ],
        distinct.below id old,
      ))
      | inr e ↦ (let same : ending.current.id.0 ≡ id = ap (λ (x : BlockPair). x.0.0) (sym e) ∙ k.named in (
        subst (λ (n : ℕ). begun.current.id.0 ≤ n) same (own_from ending.current.id.0 behind.ids.own),
        subst (λ (n : ℕ). n < last.env.next_block) same distinct.current_below,
      ))
    ]

  pub function_finished : IsFinished last
  function_finished = record {
    apart = apart_ended ending.completed ending.current.id.0 ending.env.next_block (ended_by ending.current (last_end s)) refl distinct;
    empty = refl;
    none =
        λ k. (let within : (begun.current.id.0 ≤ placeholder.id.0) × (placeholder.id.0 < last.env.next_block) =
        completed_within placeholder.id.0 k in never last.env.next_block fits within.1);
  }
    where
      never : (n : ℕ) → n < 2 ^ 32 → placeholder.id.0 < n → ⊥
      never n under over = omega (arith, under, over)

  -- The blocks are as many as the numbers that were given.
  pub few_completed : length last.completed + begun.current.id.0 ≤ last.env.next_block
  few_completed = by_count (last.env.next_block - begun.current.id.0) (omega (arith, closed_extends.blocks, fresh.last))
    where
      by_count : (count : ℕ) → last.env.next_block ≡ count + begun.current.id.0
          → length last.completed + begun.current.id.0 ≤ last.env.next_block
      by_count count is =
          let few : length (ids_of last.completed) ≤ count =
          few_within begun.current.id.0 count (ids_of last.completed) function_finished.apart
          (λ n h. let within : (begun.current.id.0 ≤ n) × (n < last.env.next_block) =
          completed_within n (completed_in last.completed n h) in
          (within.0, subst (λ (bound : ℕ). n < bound) is within.1)) in
          let same : length (ids_of last.completed) ≡ length last.completed = length-map last.completed (λ (x : BlockPair). x.0.0) in
          omega (arith, few, same, is)

  ends : AreEnds last.completed
  ends =
      ends_more ending.completed (ended_by ending.current (last_end s)) refl
      (behind.ended (subst AreEnds (sym fresh.completed) (All-nil (λ (x : BlockPair). is_end x.1.terminal.kind ≡ true))))

  named : NamesSince begun last
  named = named_ended begun ending (last_end s) placeholder behind.named (λ id is. absurd (named_none id is))

  settle : Settling begun last
  settle c cover own below jumps old here =
      settle_returned ending None returns.Void (temporary s None) (2 ^ 32 - 1) block_kinds.Block c cover
      (behind.settle c (contained_before (extends_end s) cover)
      (notes_back c begun begun ending last own (omega arith) (omega arith) (straight_ended ending (last_end s) placeholder (λ id n. n)))
      below jumps old)

  looped : Looping begun last
  looped c cover entry old =
      looped_ended (IsLedTo c entry) ending (last_end s) placeholder (λ r. tt)
      (behind.looped c (contained_before (extends_end s) cover) entry old)

  pub entry_is : last.entry.0 ≡ begun.current.id.0
  entry_is = ap (λ (id : BlockId). id.0) closed_extends.entry ∙ fresh.entry

  -- Successors lead to blocks of the builder alone.
  pub function_whole : IsWhole last.completed last.entry
  function_whole =
      finished_whole begun last function_finished.apart fresh.completed fresh.handlers fresh.scopes named
      (λ id above below. ended_there ending (last_end s) placeholder id (behind.used id above below))
      (subst (λ (id : ℕ). IsCompleted last.completed id) (sym entry_is)
      (ended_there ending (last_end s) placeholder begun.current.id.0 behind.extends.current))

  -- Notes and steps.
  module _ (kept : KeepsUnread begun s) (steps : KeepsStepsApart begun s) where
    unread : Unread last
    unread =
        unread_whole begun last fresh.completed fresh.handlers
        (unreads_then begun s last (record { grows = b.extends.blocks; handlers = b.extends.handlers; keeps = kept })
        (unreads_then s ending last (unreads_value s (values.Primitive primitives.Undefined) None)
        (unreads_ended ending (last_end s) placeholder refl refl))).keeps

    stepless : Stepless last
    stepless =
        stepless_whole begun last fresh.completed fresh.instructions
        (apart_then begun s last steps
        (apart_then s ending last (apart_value s (values.Primitive primitives.Undefined) None refl)
        (steps_ended ending (last_end s) placeholder refl refl)))

    -- The blocks may be ordered.
    pub function_may : (ident : ℕ → Option ℕ) (world : World) → CoversNames last.env.pairs (length last.env.identifiers) ident
        → All (λ x. x.1.preds ≡ []) last.completed → MayOrder (completed_graph last)
    function_may ident world covers unlinked =
        finished_may_order last unlinked ends
        (loops_reached last function_finished ident world begun fresh.completed fresh.scopes fresh.instructions covers looped) unread
        stepless

  -- The code of the blocks.
  abbrev pub function_code : (ident : ℕ → Option ℕ) (world : World) → Code
  function_code ident world = code last function_finished ident world

  pub function_settles : (ident : ℕ → Option ℕ) (world : World) → CoversNames last.env.pairs (length last.env.identifiers) ident
      → AlwaysSettles (function_code ident world)
  function_settles ident world covers =
      always_settles last function_finished ident world begun fresh.completed fresh.scopes fresh.instructions covers settle

-- At the end of a body the function returns Undefined.
falls_off : (world : World) (s : State) (c : Code) → IsContainedIn (closed_off s) c → HasSoundNames s
    → SharesVariables c.ident world c.world
    → s.handlers ≡ [] → (source store : Store) (notes : Notes) (answers : List Answer) → Agrees c.ident source store
    → TracesFrom c s store notes answers (returned (kept_in world source) returns.Void value.Undefined)
falls_off world s c cover sound shares no_handlers source store notes answers a =
    (literal_runs world s (give value.Undefined) primitives.Undefined None (λ ways k after rest. refl)).runs c
    (contained_before (extends_end s) cover) sound shares outside (λ v after rest. returned (kept_in world after) returns.Void v)
    source store notes answers a
    (subst (λ (h : List BlockId). Throws c (between s (with_undefined s)) store notes answers (innermost h) outside.throws)
    (sym no_handlers) (λ v after rest. refl))
    (record {
      goes = λ v after later left rest t is.
          steps_on c (with_undefined s).current.id.0 (length (with_undefined s).current.instructions) later left rest (Ends (last_end s))
          (returned (kept_in world after) returns.Void v)
          (terminal_met (with_undefined s) (last_end s) placeholder c cover)
          (comes_at_once c _ _ (λ stuck next.
          ap (λ (kept : List Assignment). returned kept returns.Void (later (length s.env.identifiers)))
          (kept_same c world after later t.agrees shares)
          ∙ ap (λ w. returned (kept_in world after) returns.Void w) is));
    })

-- The meaning of a body and of its end.
abbrev pub body_trace : Scene → Action (Unit {0}) → Ways → Store → List Answer → Trace
body_trace scene m ways source answers =
    m ways (λ end after rest. returned (kept_values scene after) returns.Void value.Undefined) source answers

-- No scope is open, so no jump has a target.
nothing_jumps : (c : Code) (begun s : State) (store : Store) (notes : Notes) (answers : List Answer) (scopes : List JumpScope)
    (breaks continues : Label → Cont) → scopes ≡ []
    → Jumps c (between begun s) store notes answers scopes breaks continues
nothing_jumps c begun s store notes answers scopes breaks continues none = record {
  behind = λ label block is. no_break label block (subst (λ (l : List JumpScope). lookup_break l label ≡ Ok block) none is);
  again = λ label block is. no_continue label block (subst (λ (l : List JumpScope). lookup_continue l label ≡ Ok block) none is);
}
  where
    no_break : {X : Type 0} (label : Label) (block : BlockId) → lookup_break [] label ≡ Ok block → X
    no_break label block is = absurd (cc)

    no_continue : {X : Type 0} (label : Label) (block : BlockId) → lookup_continue [] label ≡ Ok block → X
    no_continue label block is = absurd (cc)

-- The runs of parameters and then of a body, whose meaning is `m`, from the states in which they were lowered.
pub record RunsFunction (scene : Scene) (items : Pieces) (last : Syntax) (places : List Param) (m : Action (Unit {0}))
    (begun given s : State) : Type 0 where
  pub first : PreservesBlocks begun given
  pub second : PreservesBlocks given s
  pub params : RunsParams scene items last places begun given
  pub body : RunsStatement scene.world m given s

-- The meaning of the parameters that are no plain names, and then of the body and of its end.
abbrev pub function_trace : Scene → (items : Pieces) → (last : Syntax) → Action (Unit {0}) → List Value → Store → List Answer → Trace
function_trace scene items last m arguments source answers =
    take_others scene items last arguments outside (λ (end : Unit {0}). body_trace scene m outside) source answers

-- The completed blocks have the traces of the parameters and the body.
pub function_runs : (scene : Scene) (items : Pieces) (last : Syntax) (places : List Param) (m : Action (Unit {0})) (begun given s : State)
    (ident : ℕ → Option ℕ) (world : World) (fresh : IsFresh begun)
    → HasSoundNames begun → (b : PreservesBlocks begun s) (fits : (closed_off s).env.next_block < 2 ^ 32)
    → CoversNames (closed_off s).env.pairs (length (closed_off s).env.identifiers) ident
    → RunsFunction scene items last places m begun given s
    → SharesVariables ident scene.world world
    → (arguments : List Value) (source store : Store) (notes : Notes) (answers : List Answer) → Agrees ident source store
    → HaveArguments store items places arguments
    → TracesAt (function_code begun s fresh b fits ident world)
    (closed_off s).entry.0 0 store notes answers (function_trace scene items last m arguments source answers)
function_runs scene items last places m begun given s ident world fresh sound b fits covers r shares arguments source store notes answers
    agrees have =
    subst (λ (id : ℕ). TracesAt c id 0 store notes answers trace) (sym (entry_is begun s fresh b fits))
    (subst (λ (listed : List InstructionId). TracesAt c begun.current.id.0 (length listed) store notes answers trace) fresh.instructions
    (r.params.runs c (contained_before r.second.extends at_body) sound shares outside (body_trace scene m outside) arguments source store
    notes answers agrees have
    (subst (λ (h : List BlockId). Throws c (between begun given) store notes answers (innermost h) outside.throws) (sym fresh.handlers)
    (λ v after rest. refl))
    (record { goes = λ after later left rest t. body_goes after later left rest t.agrees })))
  where
    c : Code
    c = function_code begun s fresh b fits ident world

    trace : Trace
    trace = function_trace scene items last m arguments source answers

    cover : IsContainedIn (closed_off s) c
    cover = finished_contained (closed_off s) (function_finished begun s fresh b fits) ident world covers

    at_body : IsContainedIn s c
    at_body = contained_before (extends_closed s) cover

    unhandled : given.handlers ≡ []
    unhandled = r.first.extends.handlers ∙ fresh.handlers

    unscoped : given.scopes ≡ []
    unscoped = r.first.extends.scopes ∙ fresh.scopes

    body_goes : (after later : Store) (left : Notes) (rest : List Answer) → Agrees ident after later
        → TracesFrom c given later left rest (body_trace scene m outside after rest)
    body_goes after later left rest a =
        r.body.runs c at_body (r.first.extends.sound sound) shares outside
        (λ end more. returned (kept_values scene end) returns.Void value.Undefined) after later left rest a
        (subst (λ (h : List BlockId). Throws c (between given s) later left rest (innermost h) outside.throws) (sym unhandled)
        (λ v end more. refl))
        (nothing_jumps c given s later left rest given.scopes outside.breaks outside.continues unscoped)
        (record {
          goes = λ end behind notes1 more t.
              falls_off scene.world s c cover (b.extends.sound sound) shares (r.second.extends.handlers ∙ unhandled) end behind notes1 more
              t.agrees;
        })

-- The function that is built has the traces of its source, whatever trace a stuck run has: `build` keeps the runs of the completed blocks.
pub function_runs_by : (scene : Scene) (world : World) (items : Pieces) (last_item : Syntax) (m : Action (Unit {0})) (begun given s : State)
    → IsFresh begun → HasSoundNames begun
    → (closed_off s).env.next_block < 2 ^ 32 → PreservesBlocks begun s → KeepsUnread begun s → KeepsStepsApart begun s
    → (f : HirFunction (List BlockPair)) (pairs : List Pair) → RunsFunction scene items last_item f.params m begun given s
    → CoversNames (closed_off s).env.pairs (length (closed_off s).env.identifiers) (λ symbol. identifier_of pairs symbol)
    → SharesVariables (λ symbol. identifier_of pairs symbol) scene.world world
    → (function : Syntax)
    → (built : Graph) (env : Environment) → IsBuilt (closed_off s) built env → graph_of (closed_off s) ≡ (closed_off s).completed
    → All (λ p. p.1.preds ≡ []) (closed_off s).completed
    → f.body ≡ hir_of built → f.instructions ≡ built.table
    → (source : List Assignment → List Value → Store)
    → ((start : List Assignment) (arguments : List Value)
    → Agrees (λ symbol. identifier_of pairs symbol) (source start arguments) (take_arguments f.params arguments (start_values pairs start)))
    → ((start : List Assignment) (arguments : List Value)
    → HaveArguments (take_arguments f.params arguments (start_values pairs start)) items f.params arguments)
    → ((start : List Assignment) (arguments : List Value) (answers : List Answer)
    → run_function scene function start arguments answers
    ≡ function_trace scene items last_item m arguments (source start arguments) answers)
    → (stuck : Trace) (start : List Assignment) (arguments : List Value) (answers : List Answer)
    → trace_by stuck world f pairs start arguments answers ≡ run_function scene function start arguments answers
function_runs_by scene world items last_item m begun given s fresh sound fits b kept steps f pairs r covers shares function built env
    is_built table_is unlinked body_is instructions_is source agrees have means stuck start arguments answers =
    ap (λ (h : Hir (List BlockPair)). graph_trace stuck (record { blocks = h.blocks; table = f.instructions; entry = h.entry }) ident world
    params start arguments answers) body_is
    ∙ ap (λ (l : List Instruction). graph_trace stuck (record { blocks = built.blocks; table = l; entry = built.entry }) ident world params
    start arguments answers) instructions_is
    ∙ is_built.runs may stuck ident world params once start arguments answers
    ∙ ap (λ (blocks : List BlockPair). graph_trace stuck (record { blocks = blocks; table = last.table; entry = last.entry }) ident world
    params start arguments answers) table_is
    ∙ settled_walks (completed_graph last) ordered ident world params settles stuck start arguments answers enough (omega arith)
    ∙ goes.by.1 stuck enough (omega arith)
    ∙ sym (means start arguments answers)
  where
    last : State
    last = closed_off s

    ident : ℕ → Option ℕ
    ident = identifier_of pairs

    params : List ℕ
    params = map param_identifier f.params

    store : Store
    store = take_arguments f.params arguments (start_values pairs start)

    trace : Trace
    trace = function_trace scene items last_item m arguments (source start arguments) answers

    ordered : MayOrder (completed_graph last)
    ordered = function_may begun s fresh b fits kept steps ident world covers unlinked

    may : MayOrder (unordered_graph last)
    may =
        subst (λ (blocks : List BlockPair). MayOrder (record { blocks = blocks; table = last.table; entry = last.entry })) (sym table_is)
        ordered

    settles : AlwaysSettles (function_code begun s fresh b fits ident world)
    settles = function_settles begun s fresh b fits ident world covers

    once : PassesOnce (code_of (unordered_graph last) ident world) last.entry params
    once =
        subst (λ (blocks : List BlockPair). PassesOnce
        (code_of (record { blocks = blocks; table = last.table; entry = last.entry }) ident world) last.entry params) (sym table_is)
        (settles_passes_once (function_code begun s fresh b fits ident world) settles last.entry params)

    goes : TracesAt (function_code begun s fresh b fits ident world) last.entry.0 0 store no_notes answers trace
    goes =
        function_runs scene items last_item f.params m begun given s ident world fresh sound b fits covers r shares arguments
        (source start arguments) store no_notes answers (agrees start arguments) (have start arguments)

    enough : ℕ
    enough = goes.by.0 + steps_for answers (positions last.completed)
