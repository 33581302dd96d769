-- A builder that lowered the parameters and the body of a function, and whose end returns Undefined, is closed off.
use Rattle.std.proofs.Common.{◌≡◌, ℕ, ◌≤◌, ◌+◌, ◌<◌, ◌^◌, None, All, List, [], length, ap, sym, ◌∙◌, subst, arith}
use Rattle.rl_base.specs.declared.ids.SymbolId.{SymbolId}
use Rattle.rl_builder.specs.Build.{IsBuilt, graph_of}
use Rattle.rl_builder.specs.Builder.{State, completed_by, placeholder}
use Rattle.rl_builder.specs.Started.{started}
use Rattle.rl_builder.specs.Temporaries.{temporary}
use Rattle.rl_hir.specs.declared.environment.Environment.{Environment}
use Rattle.rl_hir.specs.declared.function.BlockKind.TheVariants as kinds
use Rattle.rl_hir.specs.declared.function.Param.{Param}
use Rattle.rl_hir.specs.declared.instruction.Place.{Place}
use Rattle.rl_hir.specs.declared.terminal.ReturnVariant.TheVariants as returns
use Rattle.rl_lower.proofs.Building.{IsFresh, size_closed}
use Rattle.rl_lower.proofs.Builds.{closed_below, closed_env, closed_fits, closed_orders, closed_whole}
use Rattle.rl_lower.proofs.FunctionGraphs.{begun_fresh, begun_named}
use Rattle.rl_lower.proofs.LoweredFunctions.{AreSmall, LowersFunction, lowered_both, nodes_in, params_unhandled}
use Rattle.rl_lower.specs.Begun.{FunctionTables, begun_by, given_by}
use Rattle.rl_lower.specs.Endings.{IsGraphOf, closed_off, with_undefined}
use Rattle.rl_lowered.proofs.Bodies.{told_body, told_params}
use Rattle.rl_lowered.specs.Lowered.{LoweredBody, LoweredParams}
use Rattle.rl_lowered.specs.Named.{IsNamed, TellDeclarations}
use Rattle.rl_lowered.specs.Promised.{HasRoom, LowersBody, LowersParams, share}
use Rattle.rl_machine.specs.Machine.{Graph}
use Rattle.rl_names.specs.Names.{Names}
use Rattle.rl_order.specs.Numbering.{orders_of}
use Rattle.rl_order.specs.Walk.{IsWhole}
use Rattle.rl_promises.specs.Locals.{KnowsNames}
use Rattle.rl_promises.specs.Lowerable.{AreLowerable, IsLowerable}
use Rattle.rl_runs.specs.Blocks.{size_of}
use Rattle.rl_runs.specs.Listed.{AreBelow}
use Rattle.rl_runs.specs.Moves.{return_of}
use Rattle.rl_semantic.specs.declared.semantic.Semantic.{Semantic}
use Rattle.rl_syntax.specs.Syntax.{Syntax, Node, Listed, Pieces, End, Then, nodes, nodes_of}
use Rattle.rl_syntax.specs.declared.numbered.At.{At}
use Rattle.rl_syntax.specs.declared.word.Word.TheVariants as word

-- A builder that is given no names, over tables that show the unit, begins with none.
pub begun_from : (env : Environment) (tables : FunctionTables) (semantic : Semantic) (keys : List SymbolId) (s : State)
    → s ≡ started env (record (given_by tables) { semantic = semantic; context_identifiers = keys }) kinds.Block
    → semantic ≡ tables.semantic → keys ≡ [] → s ≡ begun_by env tables
begun_from env tables semantic keys s is same none =
    is ∙ ap (λ (m : Semantic). started env (record (given_by tables) { semantic = m; context_identifiers = keys }) kinds.Block) same
    ∙ ap (λ (l : List SymbolId). started env (record (given_by tables) { context_identifiers = l }) kinds.Block) none

pub closed_is : (s s1 s2 : State) (place : Place) → s1 ≡ with_undefined s → place ≡ temporary s None
    → s2 ≡ completed_by s1 (return_of None returns.Void place) placeholder → s2 ≡ closed_off s
closed_is s s1 s2 place given placed ended =
    ended ∙ ap (λ (m : State). completed_by m (return_of None returns.Void place) placeholder) given
    ∙ ap (λ (p : Place). completed_by (with_undefined s) (return_of None returns.Void p) placeholder) placed

-- The names are told in the first state.
pub names_begun : (names : Names) (env : Environment) (tables : FunctionTables) (s : State) → s ≡ begun_by env tables → KnowsNames names
    → TellDeclarations names tables.semantic → IsNamed names s
names_begun names env tables s is knows told = subst (λ (t : State). IsNamed names t) (sym is) (begun_named names env tables knows told)

-- All that is promised of the parameters that were lowered.
pub params_told : (names : Names) (env : Environment) (tables : FunctionTables) (items : Pieces) (rest : Syntax) (begun given : State)
    (params : List Param)
    → begun ≡ begun_by env tables → KnowsNames names → TellDeclarations names tables.semantic
    → LoweredParams names items rest begun given params → LowersParams names items rest (begun_by env tables) given params
params_told names env tables items rest begun given params is knows told l =
    told_params (begun_named names env tables knows told)
    (subst (λ (t : State). LoweredParams names items rest t given params) is l)

-- The names are told behind the parameters, and no scope is open.

module _ (names : Names) (env : Environment) (tables : FunctionTables) (items : Pieces) (rest : Syntax) (given : State)
    (params : List Param)
    (l : LowersParams names items rest (begun_by env tables) given params) where
  pub names_given : KnowsNames names → TellDeclarations names tables.semantic → IsNamed names given
  names_given knows told = l.names_kept.named (begun_named names env tables knows told)

  pub scopes_given : given.scopes ≡ []
  scopes_given = l.blocks.extends.scopes

  -- The room that is left for the body.
  pub room_given : (body : Syntax) → HasRoom (begun_by env tables) (share (nodes_in items rest body + 2))
      → HasRoom given (share (nodes body + 1))
  room_given body room = omega (arith, l.size, room)

  -- All that is promised of a body that was lowered behind the parameters.
  pub body_told : (body : Syntax) (s : State) → KnowsNames names → TellDeclarations names tables.semantic → LoweredBody names body given s
      → LowersBody names body given s
  body_told body s knows told b =
      told_body (names_given knows told) (params_unhandled l (begun_fresh env tables).handlers) b

-- The items and the rest of a `params` node are those that a view shows.
pub params_are : (at : At) (items : Pieces) (rest : Syntax) (P : Pieces → Syntax → Type 0) {params : Syntax}
    → Node at word.Params (Then (Listed items) (Then rest End)) ≡ params → P items rest
    → (other : At) (items1 : Pieces) (rest1 : Syntax) → params ≡ Node other word.Params (Then (Listed items1) (Then rest1 End))
    → P items1 rest1
params_are at items rest P shown holds other items1 rest1 is =
    let same : Node at word.Params (Then (Listed items) (Then rest End)) ≡ Node other word.Params (Then (Listed items1) (Then rest1 End)) =
    shown ∙ is in
    let first : items ≡ items1 = cc in
    let second : rest ≡ rest1 = cc in
    subst (λ (r : Syntax). P items1 r) second (subst (λ (l : Pieces). P l rest) first holds)

-- The tree that a view shows is a `params` node.
module _ (at : At) (items : Pieces) (rest params : Syntax) (is : Node at word.Params (Then (Listed items) (Then rest End)) ≡ params) where
  pub params_may : (names : Names) → IsLowerable names params → AreLowerable names items × IsLowerable names rest
  params_may names may = let opened = subst (IsLowerable names) (sym is) may in (opened.1.0, opened.1.1.0)

  -- The room for the parameters, and for the parameters and the body.

  pub whole_room : (body : Syntax) (s : State) → HasRoom s (share (nodes params + nodes body + 1))
      → HasRoom s (share (nodes_in items rest body + 2))
  whole_room body s room =
      let listed : nodes_of items + (nodes rest + 0) + 1 ≡ nodes params = ap nodes is in omega (arith, listed, room)

  pub params_room : (body : Syntax) (s begun : State) → s ≡ begun → HasRoom begun (share (nodes params + nodes body + 1))
      → HasRoom s (share (nodes_of items + nodes rest))
  params_room body s begun from room =
      let listed : nodes_of items + (nodes rest + 0) + 1 ≡ nodes params = ap nodes is in
      subst (λ (t : State). HasRoom t (share (nodes_of items + nodes rest))) (sym from) (omega (arith, listed, room))

-- Blocks behind the temporary have numbers.
pub undefined_fits : (s s1 : State) → HasRoom s 4 → s1 ≡ with_undefined s → s1.env.next_block + 1 < 2 ^ 32
undefined_fits s s1 room given =
    let size : size_of (with_undefined s) ≤ size_of s + 4 = size_closed s in
    let same : s1.env.next_block ≡ (with_undefined s).env.next_block = ap (λ (t : State). t.env.next_block) given in
    omega (arith, room, size, same)

-- The states that the code goes through, and what `build` asks of the last.
module _ (names : Names) (small : Type 0) (count : ℕ) (begun s : State) (fresh : IsFresh begun)
    (l : LowersFunction names small count begun s) (room : HasRoom begun (share (count + 2))) where
  -- The room that a body leaves for its end.
  pub end_room : HasRoom s 4
  end_room = omega (arith, l.size, room)

  fits : (closed_off s).env.next_block < 2 ^ 32
  fits = closed_fits names small count begun s l room

  module _ (s1 s2 : State) (place : Place) (given : s1 ≡ with_undefined s)
      (placed : place ≡ temporary s None) (ended : s2 ≡ completed_by s1 (return_of None returns.Void place) placeholder) where
    closed : closed_off s ≡ s2
    closed = sym (closed_is s s1 s2 place given placed ended)

    pub whole_call : IsWhole (graph_of s2) s2.entry
    whole_call = subst (λ (t : State). IsWhole (graph_of t) t.entry) closed (closed_whole names small count begun s fresh l fits)

    pub listed_call : All (λ b. AreBelow (length s2.table) b.1.instructions) (graph_of s2)
    listed_call =
        subst (λ (t : State). All (λ b. AreBelow (length t.table) b.1.instructions) (graph_of t)) closed
        (closed_below names small count begun s fresh l fits)

    pub orders_call : orders_of (graph_of s2) < 2 ^ 32
    orders_call = subst (λ (t : State). orders_of (graph_of t) < 2 ^ 32) closed (closed_orders names small count begun s fresh l fits room)

    pub env_call : (new : Environment) (built : Graph) → IsBuilt s2 built new → new ≡ (closed_off s).env
    env_call new built graph =
        closed_env names small count begun s fresh l fits built new (subst (λ (t : State). IsBuilt t built new) (sym closed) graph)

    pub fits_call : (closed_off s).env.next_block < 2 ^ 32
    fits_call = fits

    pub built_call : (new : Environment) (built : Graph) → IsBuilt s2 built new → IsBuilt (closed_off s) built new
    built_call new built graph = subst (λ (t : State). IsBuilt t built new) (sym closed) graph

-- The graph that is built.
pub graph_call : (names : Names) (tables : FunctionTables) (items : Pieces) (rest body : Syntax) (env new : Environment)
    (params : List Param)
    (built : Graph) (given s s1 s2 : State) (place : Place) → TellDeclarations names tables.semantic
    → LowersParams names items rest (begun_by env tables) given params → LowersBody names body given s
    → HasRoom (begun_by env tables) (share (nodes_in items rest body + 2))
    → s1 ≡ with_undefined s → place ≡ temporary s None → s2 ≡ completed_by s1 (return_of None returns.Void place) placeholder
    → IsBuilt s2 built new → IsGraphOf names tables items rest body env new params built
graph_call names tables items rest body env new params built given s s1 s2 place told p b room is placed ended graph = record {
  given = given;
  state = s;
  declared = told;
  lowers_params = p;
  lowers = b;
  graph = built_call names small count begun s fresh l room s1 s2 place is placed ended new built graph;
  after = after;
  few = subst (λ (e : Environment). e.next_block < 2 ^ 32) (sym after)
      (fits_call names small count begun s fresh l room s1 s2 place is placed ended);
}
  where
    begun : State
    begun = begun_by env tables

    small : Type 0
    small = AreSmall items rest body

    count : ℕ
    count = nodes_in items rest body

    fresh : IsFresh begun
    fresh = begun_fresh env tables

    l : LowersFunction names small count begun s
    l = lowered_both p b

    after : new ≡ (closed_off s).env
    after = env_call names small count begun s fresh l room s1 s2 place is placed ended new built graph
