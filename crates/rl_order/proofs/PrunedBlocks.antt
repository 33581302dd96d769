-- Facts of blocks and of instructions that the ordering, the removals, the numbering and the predecessors keep.
use Rattle.std.proofs.Common.{◌≡◌, ℕ, zero, suc, ◌+◌, ◌≤◌, Bool, true, false, not, if◌then◌else◌, Option, Some, None, List, [], ◌∷◌, ◌++◌, All, length, filter, fold, slice_get, slice_set, refl, sym, subst, arith}
use Rattle.std.proofs.lemmas.List.Elements.{All-append, All-cons, All-filter, All-head, All-map, All-nil, All-set, All-tail, All-weaker}
use Rattle.std.specs.Option.{option_to_list}
use Rattle.rl_base.specs.declared.ids.BlockId.{BlockId}
use Rattle.rl_base.specs.declared.ids.InstructionId.{InstructionId}
use Rattle.rl_hir.specs.Blocks.{Pair, block_at, same_id}
use Rattle.rl_hir.specs.Terminals.{fields_of, named_ids, names, with_order}
use Rattle.rl_hir.specs.declared.function.BasicBlock.{BasicBlock}
use Rattle.rl_hir.specs.declared.instruction.Instruction.{Instruction}
use Rattle.rl_hir.specs.declared.terminal.GotoVariant.TheVariants as gotos
use Rattle.rl_hir.specs.declared.terminal.TerminalKind.{TerminalKind}
use Rattle.rl_hir.specs.declared.terminal.TerminalKind.TheVariants as kinds
use Rattle.rl_order.proofs.Ordering.{same_ids}
use Rattle.rl_order.proofs.Pruning.{cleaned_orders, ordered_orders}
use Rattle.rl_order.specs.Numbering.{order_after, ordered_at, ordered_block, ordered_blocks, ordered_list, ordered_table, orders_of}
use Rattle.rl_order.specs.PredecessorWalk.{Ends, Follows, IsMarked, Meets, Misses, Trail, Visits, distinct_ids, edges_from, entry_edges, sources}
use Rattle.rl_order.specs.Prune.{IsPruned, cleaned}
use Rattle.rl_order.specs.Removals.{dead_tries, dead_try, ended_by_goto, is_lost, is_there, live_do_while, live_for, with_changed, with_kind, with_kinds, without_dead_do_whiles, without_predecessor, without_try, without_unreachable_updates}
use Rattle.rl_order.specs.Walk.{Walk, emptied, is_noted, is_used, kept, kept_block}
use Rattle.rl_order.specs.declared.predecessors.Edge.{Edge}
use Rattle.rl_order.specs.declared.tries.DeadTry.{DeadTry}

-- The fact `P` of an instruction stays under each order up to `bound`.
abbrev pub StaysOrdered : (P : Instruction → Type 0) (bound : ℕ) → Type 0
StaysOrdered P bound = (order : ℕ) (i : Instruction) → order ≤ bound → P i → P (record i { order = record { 0 = order } })

-- Instructions behind the numbering have such a fact.

get_holds : {X : Type 0} (P : X → Type 0) (xs : List X) (index : ℕ) (x : X) → slice_get xs index ≡ Some x → All P xs → P x
get_holds P [] index x is all = absurd (cc)
get_holds P (y ∷ xs) zero x is all = (let same : y ≡ x = cc in subst P same (All-head P y xs all))
get_holds P (y ∷ xs) (suc index) x is all = get_holds P xs index x is (All-tail P y xs all)

module _ (P : Instruction → Type 0) (bound : ℕ) (keeps : StaysOrdered P bound) where
  ordered_at_all : (order index : ℕ) (table : List Instruction) → order ≤ bound → All P table → All P (ordered_at order index table)
  ordered_at_all order index table within all = by_entry (slice_get table index) refl
    where
      by_entry : (o : Option Instruction) → slice_get table index ≡ o
          → All P (elim o [ Some i ↦ slice_set table index (record i { order = record { 0 = order } }) | None ↦ table ])
      by_entry (Some i) is = All-set P table index (record i { order = record { 0 = order } }) (keeps order i within (get_holds P table index i is all)) all
      by_entry None is = all

  ordered_list_all : (order : ℕ) (listed : List InstructionId) (table : List Instruction) → order + length listed ≤ bound → All P table
      → All P (ordered_list order listed table)
  ordered_list_all order [] table within all = all
  ordered_list_all order (id ∷ listed) table within all =
      ordered_list_all (order + 1) listed (ordered_at order id.0 table) (omega (arith, within)) (ordered_at_all order id.0 table (omega (arith, within)) all)

  ordered_table_all : (order : ℕ) (pairs : List Pair) (table : List Instruction) → order + orders_of pairs ≤ bound → All P table
      → All P (ordered_table order pairs table)
  ordered_table_all order [] table within all = all
  ordered_table_all order (p ∷ pairs) table within all =
      ordered_table_all (order_after order p) pairs (ordered_list order p.1.instructions table) (omega (arith, within))
      (ordered_list_all order p.1.instructions table (omega (arith, within)) all)

-- The ordered and cleaned blocks take no more orders than the graph.
few_orders : (graph : List Pair) (entry : BlockId) (table : List Instruction) (pruned : List Pair) (numbered : List Instruction) (bound : ℕ)
    → (p : IsPruned graph entry table pruned numbered) → 1 + orders_of graph ≤ bound → 1 + orders_of (cleaned p.ordered) ≤ bound
few_orders graph entry table pruned numbered bound p within =
    let first : orders_of p.ordered ≤ orders_of graph = ordered_orders graph entry p.ordered p.order in
    let second : orders_of (cleaned p.ordered) ≤ orders_of p.ordered = cleaned_orders p.ordered in
    omega (arith, first, second, within)

pub pruned_table_all : (P : Instruction → Type 0) (bound : ℕ) → StaysOrdered P bound
    → (graph : List Pair) (entry : BlockId) (table : List Instruction) (pruned : List Pair) (numbered : List Instruction)
    → IsPruned graph entry table pruned numbered → 1 + orders_of graph ≤ bound → All P table → All P numbered
pruned_table_all P bound keeps graph entry table pruned numbered p within all =
    subst (All P) (sym p.orders) (ordered_table_all P bound keeps 1 (cleaned p.ordered) table (few_orders graph entry table pruned numbered bound p within) all)

-- The fact `P` of blocks stays where a block is emptied, gets one of the ends that the removals give, an order up to `bound`, or
-- predecessors. All ids that a block with `P` has, names in its end, or has as predecessors, have `Q`.
pub record StaysPruned (P : Pair → Type 0) (Q : BlockId → Type 0) (bound : ℕ) : Type 0 where
  pub own : (p : Pair) → P p → Q p.0
  pub named : (p : Pair) → P p → All Q (named_ids p.1.terminal)
  pub linked : (p : Pair) → P p → All Q p.1.preds
  pub empties : (p : Pair) → P p → P (p.0, emptied p.1)
  pub loses_update : (p : Pair) (init test : BlockId) (update : Option BlockId) (body fallthrough : BlockId)
      → p.1.terminal.kind ≡ kinds.For init test update body fallthrough → P p → P (p.0, with_kind p.1 (kinds.For init test None body fallthrough))
  pub goes : (p : Pair) (target : BlockId) → Q target → P p → P (p.0, with_kind p.1 (kinds.Goto target gotos.Break))
  pub orders : (p : Pair) (order : ℕ) → order ≤ bound → P p → P (p.0, record p.1 { terminal = with_order order p.1.terminal })
  pub links : (p : Pair) (preds : List BlockId) → All Q preds → P p → P (p.0, record p.1 { preds = preds })

module _ (P : Pair → Type 0) (Q : BlockId → Type 0) (bound : ℕ) (stays : StaysPruned P Q bound) where
  -- The blocks that are kept.

  found_holds : (graph : List Pair) (id : BlockId) (block : BasicBlock) → block_at graph id ≡ Some block → All P graph → P (id, block)
  found_holds [] id block found all = absurd (cc)
  found_holds (p ∷ graph) id block found all = by_head (same_id id p.0) refl (λ later. found_holds graph id block later (All-tail P p graph all))
    where
      by_head : (b : Bool) → same_id id p.0 ≡ b → (block_at graph id ≡ Some block → P (id, block)) → P (id, block)
      by_head true e rest =
          let here : Some p.1 ≡ Some block = rw e at found in
          let value : p.1 ≡ block = cc in
          subst (λ (v : BasicBlock). P (id, v)) value (subst (λ (k : BlockId). P (k, p.1)) (sym (same_ids id p.0 e)) (All-head P p graph all))
      by_head false e rest = rest (rw e at found)

  kept_all : (graph : List Pair) (w : Walk) (listed : List BlockId) → All P graph → All P (kept graph w listed)
  kept_all graph w [] all = All-nil P
  kept_all graph w (id ∷ listed) all =
      All-append P (elim (block_at graph id) [ Some block ↦ kept_block w id block | None ↦ [] ]) (kept graph w listed) (by_block (block_at graph id) refl) (kept_all graph w listed all)
    where
      by_use : (block : BasicBlock) → P (id, block) → (used noted : Bool)
          → All P (if used then (id, block) ∷ [] else (if noted then (id, emptied block) ∷ [] else []))
      by_use block holds true noted = All-cons P (id, block) [] holds (All-nil P)
      by_use block holds false true = All-cons P (id, emptied block) [] (stays.empties (id, block) holds) (All-nil P)
      by_use block holds false false = All-nil P

      by_block : (o : Option BasicBlock) → block_at graph id ≡ o → All P (elim o [ Some block ↦ kept_block w id block | None ↦ [] ])
      by_block None is = All-nil P
      by_block (Some block) is = by_use block (found_holds graph id block is all) (is_used w id) (is_noted w id)

  -- The removals.

  kinds_all : (change : TerminalKind → TerminalKind) → ((p : Pair) → P p → P (p.0, with_kind p.1 (change p.1.terminal.kind)))
      → (pairs : List Pair) → All P pairs → All P (with_kinds change pairs)
  kinds_all change keeps pairs all =
      All-map P (λ (p : Pair). (p.0, with_kind p.1 (change p.1.terminal.kind))) pairs (All-weaker P (λ (p : Pair). P (p.0, with_kind p.1 (change p.1.terminal.kind))) keeps pairs all)

  keeps_for : (there : BlockId → Bool) (p : Pair) → P p → P (p.0, with_kind p.1 (live_for there p.1.terminal.kind))
  keeps_for there p holds = by_kind p.1.terminal.kind refl
    where
      by_there : (init test id body fallthrough : BlockId) → p.1.terminal.kind ≡ kinds.For init test (Some id) body fallthrough → (b : Bool)
          → P (p.0, with_kind p.1 (kinds.For init test (if b then Some id else None) body fallthrough))
      by_there init test id body fallthrough is true = subst (λ (k : TerminalKind). P (p.0, with_kind p.1 k)) is holds
      by_there init test id body fallthrough is false = stays.loses_update p init test (Some id) body fallthrough is holds

      by_kind : (kind : TerminalKind) → p.1.terminal.kind ≡ kind → P (p.0, with_kind p.1 (live_for there kind))
      by_kind (kinds.For init test None body fallthrough) is = stays.loses_update p init test None body fallthrough is holds
      by_kind (kinds.For init test (Some id) body fallthrough) is = by_there init test id body fallthrough is (there id)
      by_kind _ is = subst (λ (k : TerminalKind). P (p.0, with_kind p.1 k)) is holds

  keeps_do_while : (there : BlockId → Bool) (p : Pair) → P p → P (p.0, with_kind p.1 (live_do_while there p.1.terminal.kind))
  keeps_do_while there p holds = by_kind p.1.terminal.kind refl
    where
      by_there : (body test fallthrough : BlockId) → p.1.terminal.kind ≡ kinds.DoWhile body test fallthrough → (b : Bool)
          → P (p.0, with_kind p.1 (if b then kinds.DoWhile body test fallthrough else kinds.Goto body gotos.Break))
      by_there body test fallthrough is true = subst (λ (k : TerminalKind). P (p.0, with_kind p.1 k)) is holds
      by_there body test fallthrough is false =
          let named : All Q (names (fields_of (kinds.DoWhile body test fallthrough))) = subst (λ (k : TerminalKind). All Q (names (fields_of k))) is (stays.named p holds) in
          stays.goes p body (All-head Q body (test ∷ fallthrough ∷ []) named) holds

      by_kind : (kind : TerminalKind) → p.1.terminal.kind ≡ kind → P (p.0, with_kind p.1 (live_do_while there kind))
      by_kind (kinds.DoWhile body test fallthrough) is = by_there body test fallthrough is (there test)
      by_kind _ is = subst (λ (k : TerminalKind). P (p.0, with_kind p.1 k)) is holds

  -- The block of a `try` that is dropped has `Q`.
  abbrev HasTarget : DeadTry → Type 0
  HasTarget dead = Q dead.block

  tries_named : (there : BlockId → Bool) (pairs : List Pair) → All P pairs → All HasTarget (dead_tries there pairs)
  tries_named there [] all = All-nil HasTarget
  tries_named there (p ∷ pairs) all =
      All-append HasTarget (option_to_list (dead_try there p.0 p.1.terminal.kind)) (dead_tries there pairs)
      (by_kind p.1.terminal.kind (stays.named p (All-head P p pairs all))) (tries_named there pairs (All-tail P p pairs all))
    where
      by_handler : (block handler fallthrough : BlockId) → Q block → (b : Bool)
          → All HasTarget (option_to_list (if b then None else Some (record { id = p.0; block = block; handler = handler; fallthrough = fallthrough })))
      by_handler block handler fallthrough holds true = All-nil HasTarget
      by_handler block handler fallthrough holds false = All-cons HasTarget _ [] holds (All-nil HasTarget)

      by_kind : (kind : TerminalKind) → All Q (names (fields_of kind)) → All HasTarget (option_to_list (dead_try there p.0 kind))
      by_kind (kinds.Try block binding handler fallthrough) named =
          by_handler block handler fallthrough (All-head Q block (handler ∷ fallthrough ∷ []) named) (there handler)
      by_kind _ named = All-nil HasTarget

  changed_all : (id : BlockId) (change : BasicBlock → BasicBlock) → ((p : Pair) → P p → P (p.0, change p.1)) → (pairs : List Pair) → All P pairs
      → All P (with_changed id change pairs)
  changed_all id change keeps pairs all =
      All-map P (λ (p : Pair). (p.0, if same_id id p.0 then change p.1 else p.1)) pairs
      (All-weaker P (λ (p : Pair). P (p.0, if same_id id p.0 then change p.1 else p.1)) (λ p holds. by_id p holds (same_id id p.0)) pairs all)
    where
      by_id : (p : Pair) → P p → (b : Bool) → P (p.0, if b then change p.1 else p.1)
      by_id p holds true = keeps p holds
      by_id p holds false = holds

  try_all : (dead : DeadTry) → Q dead.block → (pairs : List Pair) → All P pairs → All P (without_try dead pairs)
  try_all dead target pairs all =
      changed_all dead.fallthrough (without_predecessor dead.handler)
      (λ p holds. stays.links p (filter (λ other. not (same_id dead.handler other)) p.1.preds) (All-filter _ Q p.1.preds (stays.linked p holds)) holds)
      (filter (λ p. not (is_lost dead p)) (with_changed dead.id (ended_by_goto dead.block) pairs))
      (All-filter _ P (with_changed dead.id (ended_by_goto dead.block) pairs)
      (changed_all dead.id (ended_by_goto dead.block)
      (λ p holds. stays.orders (p.0, with_kind p.1 (kinds.Goto dead.block gotos.Break)) 0 (omega arith) (stays.goes p dead.block target holds)) pairs all))

  tries_all : (tries : List DeadTry) (pairs : List Pair) → All HasTarget tries → All P pairs
      → All P (fold (λ now dead. without_try dead now) pairs tries)
  tries_all [] pairs targets all = all
  tries_all (dead ∷ tries) pairs targets all =
      tries_all tries (without_try dead pairs) (All-tail HasTarget dead tries targets) (try_all dead (All-head HasTarget dead tries targets) pairs all)

  cleaned_all : (pairs : List Pair) → All P pairs → All P (cleaned pairs)
  cleaned_all pairs all = tries_all (dead_tries (is_there whiles) whiles) whiles (tries_named (is_there whiles) whiles tested) tested
    where
      fors : List Pair
      fors = without_unreachable_updates pairs

      whiles : List Pair
      whiles = without_dead_do_whiles fors

      tested : All P whiles
      tested = kinds_all (live_do_while (is_there fors)) (keeps_do_while (is_there fors)) fors (kinds_all (live_for (is_there pairs)) (keeps_for (is_there pairs)) pairs all)

  -- The numbering.
  ordered_all : (order : ℕ) (pairs : List Pair) → order + orders_of pairs ≤ bound → All P pairs → All P (ordered_blocks order pairs)
  ordered_all order [] within all = all
  ordered_all order (p ∷ pairs) within all =
      All-cons P (ordered_block order p) (ordered_blocks (order_after order p) pairs)
      (stays.orders p (order + length p.1.instructions) (omega (arith, within)) (All-head P p pairs all))
      (ordered_all (order_after order p) pairs (omega (arith, within)) (All-tail P p pairs all))

  -- The predecessors: edges come from blocks that are found.

  abbrev ComesFrom : Edge → Type 0
  ComesFrom e = Q e.from

  edges_named : (id : BlockId) (block : BasicBlock) → Q id → All ComesFrom (edges_from id block)
  edges_named id block holds =
      All-map ComesFrom (λ (to : BlockId). record { from = id; to = to }) (distinct_ids block.terminal) (λ k d within. holds)

  walk_named : (graph : List Pair) → All P graph → (edges : List Edge) (trail end : Trail) → Follows graph edges trail end
      → All ComesFrom edges → All ComesFrom trail.edges → All ComesFrom end.edges
  walk_named graph all _ _ _ (Ends trail) left done = done
  walk_named graph all _ _ _ (Misses e es trail end none rest) left done = walk_named graph all es trail end rest (All-tail ComesFrom e es left) done
  walk_named graph all _ _ _ (Meets e es block trail end found seen rest) left done =
      walk_named graph all es _ end rest (All-tail ComesFrom e es left)
      (All-append ComesFrom trail.edges (e ∷ []) done (All-cons ComesFrom e [] (All-head ComesFrom e es left) (All-nil ComesFrom)))
  walk_named graph all _ _ _ (Visits e es block trail end found seen rest) left done =
      walk_named graph all (edges_from e.to block ++ es) _ end rest
      (All-append ComesFrom (edges_from e.to block) es (edges_named e.to block (stays.own (e.to, block) (found_holds graph e.to block found all))) (All-tail ComesFrom e es left))
      (All-append ComesFrom trail.edges (e ∷ []) done (All-cons ComesFrom e [] (All-head ComesFrom e es left) (All-nil ComesFrom)))

  marked_all : (graph : List Pair) (entry : BlockId) (marked : List Pair) → IsMarked graph entry marked → All P graph → All P marked
  marked_all graph entry marked m all =
      subst (All P) (sym m.blocks)
      (All-map P (λ (p : Pair). (p.0, record p.1 { preds = sources m.edges p.0 })) graph
      (All-weaker P (λ (p : Pair). P (p.0, record p.1 { preds = sources m.edges p.0 })) (λ p holds. stays.links p (sources m.edges p.0) (sources_named p.0) holds) graph all))
    where
      at_entry : (o : Option BasicBlock) → block_at graph entry ≡ o → All ComesFrom (elim o [ None ↦ [] | Some block ↦ edges_from entry block ])
      at_entry None is = All-nil ComesFrom
      at_entry (Some block) is = edges_named entry block (stays.own (entry, block) (found_holds graph entry block is all))

      followed : All ComesFrom m.edges
      followed = walk_named graph all (entry_edges graph entry) _ _ m.walk.walk (at_entry (block_at graph entry) refl) (All-nil ComesFrom)

      sources_named : (id : BlockId) → All Q (sources m.edges id)
      sources_named id = All-map Q (λ (e : Edge). e.from) (filter (λ e. same_id id e.to) m.edges) (All-filter _ ComesFrom m.edges followed)

  -- All blocks of the result have `P`.
  pub pruned_all : (graph : List Pair) (entry : BlockId) (table : List Instruction) (pruned : List Pair) (numbered : List Instruction)
      → IsPruned graph entry table pruned numbered → 1 + orders_of graph ≤ bound → All P graph → All P pruned
  pruned_all graph entry table pruned numbered p within all =
      marked_all (ordered_blocks 1 (cleaned p.ordered)) entry pruned p.marked
      (ordered_all 1 (cleaned p.ordered) (few_orders graph entry table pruned numbered bound p within)
      (cleaned_all p.ordered (subst (All P) (sym p.order.blocks) (kept_all graph p.order.end _ all))))
