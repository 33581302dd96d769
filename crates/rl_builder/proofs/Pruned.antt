-- The result of `build`, from those of its moves.
use Rattle.std.proofs.Common.{◌≡◌, ℕ, ◌+◌, ◌<◌, ◌^◌, ◌++◌, List, All, drop, length, take, sym, ap, ◌∙◌, subst, arith}
use Rattle.std.proofs.Math.Seq.{take-append_seam}
use Rattle.rl_base.specs.Distinct.{AreDistinct}
use Rattle.rl_base.specs.declared.ids.BlockId.{BlockId}
use Rattle.rl_builder.specs.Build.{IsBuilt, graph_of, unordered_graph}
use Rattle.rl_builder.specs.Builder.{State}
use Rattle.rl_builder.specs.Dropped.{refused_blocks}
use Rattle.rl_builder.proofs.Refusals.{with_more}
use Rattle.rl_hir.specs.Blocks.{HaveOwnIds, Pair}
use Rattle.rl_hir.specs.Numbered.{IsNumbered, listed_in}
use Rattle.rl_hir.specs.declared.environment.Environment.{Environment}
use Rattle.rl_hir.specs.declared.instruction.Instruction.{Instruction}
use Rattle.rl_machine.proofs.KeptRuns.{pruned_keeps}
use Rattle.rl_machine.proofs.StaysClosed.{pruned_closed}
use Rattle.rl_machine.specs.Closed.{IsClosed}
use Rattle.rl_machine.specs.Conditions.{KeepsRuns, MayOrder}
use Rattle.rl_machine.specs.Machine.{Graph}
use Rattle.rl_order.proofs.Pruning.{ordered_once, ordered_orders, ordered_within}
use Rattle.rl_order.specs.Numbering.{ordered_blocks, ordered_table, orders_of}
use Rattle.rl_order.specs.PredecessorWalk.{IsMarked}
use Rattle.rl_order.specs.Predecessors.{PredecessorsReached}
use Rattle.rl_order.specs.Prune.{IsPruned, cleaned}
use Rattle.rl_order.specs.Walk.{IsOrdered, IsWhole}

-- The blocks list instructions of the table.
abbrev AreListed : List Instruction → List Pair → Type 0
AreListed table pairs = All (λ p. All (λ id. id.0 < length table) p.1.instructions) pairs

-- The blocks in their order list instructions of the table, and leave room for their orders.

pub ordered_listed : (s : State) (blocks ordered : List Pair) (table : List Instruction) → blocks ≡ graph_of s → table ≡ s.table
    → IsOrdered blocks s.entry ordered → AreListed s.table (graph_of s) → AreListed table ordered
ordered_listed s blocks ordered table is old o listed =
    let given : AreListed table (graph_of s) = subst (λ (l : List Instruction). AreListed l (graph_of s)) (sym old) listed in
    ordered_within (length table) blocks s.entry ordered o (subst (λ (pairs : List Pair). AreListed table pairs) (sym is) given)

pub ordered_room : (s : State) (blocks ordered : List Pair) → blocks ≡ graph_of s → IsOrdered blocks s.entry ordered
    → orders_of (graph_of s) < 2 ^ 32 → orders_of ordered < 2 ^ 32
ordered_room s blocks ordered is o room =
    let fewer = ordered_orders blocks s.entry ordered o in
    let count : orders_of blocks ≡ orders_of (graph_of s) = ap orders_of is in
    omega (arith, fewer, count, room)

-- A slice of all items of a vector, written back.
pub written_back : (count : ℕ) (old new after : List Instruction) → after ≡ take count (new ++ drop (length new) old) → count ≡ length old
    → length new ≡ length old → new ≡ after
written_back count old new after is all same =
    sym (is ∙ ap (λ (n : ℕ). take n (new ++ drop (length new) old)) (all ∙ sym same) ∙ take-append_seam new (drop (length new) old))

-- The graph of a pruned one is closed, and has its runs.
closed_same : (graph : Graph) (pruned : List Pair) (numbered : List Instruction) (entry : BlockId) → IsWhole graph.blocks graph.entry
    → IsPruned graph.blocks graph.entry graph.table pruned numbered → entry ≡ graph.entry → MayOrder graph
    → IsClosed (record { entry = entry; blocks = pruned })
closed_same graph pruned numbered entry whole p same may =
    subst (λ (e : BlockId). IsClosed (record { entry = e; blocks = pruned })) (sym same) (pruned_closed graph pruned numbered whole p may)

runs_same : (graph : Graph) (pruned : List Pair) (numbered : List Instruction) (entry : BlockId) → IsWhole graph.blocks graph.entry
    → IsPruned graph.blocks graph.entry graph.table pruned numbered → entry ≡ graph.entry → MayOrder graph
    → KeepsRuns graph (record { blocks = pruned; table = numbered; entry = entry })
runs_same graph pruned numbered entry whole p same may =
    subst (λ (e : BlockId). KeepsRuns graph (record { blocks = pruned; table = numbered; entry = e })) (sym same) (pruned_keeps graph pruned numbered whole p may)

-- The moves make the graph.
pub built_by : (s : State) (blocks ordered pruned : List Pair) (numbered : List Instruction) (entry : BlockId) (env : Environment)
    → blocks ≡ graph_of s → IsWhole (graph_of s) s.entry → IsOrdered blocks s.entry ordered
    → env ≡ with_more s.env (refused_blocks s.table ordered (graph_of s))
    → entry ≡ s.entry → IsMarked (ordered_blocks 1 (cleaned ordered)) s.entry pruned → numbered ≡ ordered_table 1 (cleaned ordered) s.table
    → HaveOwnIds pruned → (AreDistinct (listed_in ordered) → All (λ i. i.order.0 ≡ 0) s.table → IsNumbered numbered pruned)
    → PredecessorsReached pruned entry pruned → IsBuilt s (record { blocks = pruned; table = numbered; entry = entry }) env
built_by s blocks ordered pruned numbered entry env is whole order refused at marked orders distinct counted predecessors =
    let kept : IsOrdered (graph_of s) s.entry ordered = subst (λ (pairs : List Pair). IsOrdered pairs s.entry ordered) is order in
    let made : IsPruned (graph_of s) s.entry s.table pruned numbered = record { ordered = ordered; order = kept; marked = marked; orders = orders } in
    record {
      entry = at;
      pruned = made;
      refused = refused;
      distinct = distinct;
      numbered = λ once none. counted (ordered_once (graph_of s) s.entry ordered kept once) none;
      predecessors = predecessors;
      closed = closed_same (unordered_graph s) pruned numbered entry whole made at;
      runs = runs_same (unordered_graph s) pruned numbered entry whole made at;
    }
