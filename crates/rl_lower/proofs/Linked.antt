-- A graph that is built is numbered and linked.
use Rattle.std.proofs.Common.{◌≡◌, ◌<◌, List, All, length, map, sym, ap, ◌∙◌, subst}
use Rattle.rl_base.specs.Distinct.{AreDistinct}
use Rattle.rl_base.proofs.DistinctLists.{distinct_left}
use Rattle.rl_hir.specs.Blocks.{Pair as BlockPair, HaveOwnIds}
use Rattle.rl_hir.specs.Numbered.{IsNumbered, listed_in}
use Rattle.rl_hir.specs.declared.function.Hir.{Hir}
use Rattle.rl_hir.specs.declared.environment.Environment.{Environment}
use Rattle.rl_hir.specs.declared.function.HirFunction.{HirFunction}
use Rattle.rl_hir.specs.declared.instruction.Instruction.{Instruction}
use Rattle.rl_order.proofs.NumberedOrders.{table_length}
use Rattle.rl_order.proofs.Pruning.{pruned_within}
use Rattle.rl_order.specs.Predecessors.{PredecessorsReached}
use Rattle.rl_order.specs.Prune.{cleaned}
use Rattle.rl_builder.specs.Build.{IsBuilt, graph_of}
use Rattle.rl_builder.specs.Builder.{State}
use Rattle.rl_machine.specs.Machine.{Graph}
use Rattle.rl_model.specs.WellFormed.{IsLinked}
use Rattle.rl_lower.specs.Endings.{hir_of}
use Rattle.rl_runs.proofs.Graphs.{ordered_table_plain, without_order}
use Rattle.rl_runs.proofs.Listed.{numbers}
use Rattle.rl_runs.proofs.Tables.{table_same}
use Rattle.rl_runs.specs.Listed.{IsListed}

pub built_numbered : (s : State) (built : Graph) (env : Environment) → HaveOwnIds s.completed → IsListed s → IsBuilt s built env
    → IsNumbered built.table built.blocks
built_numbered s built env own l b =
    b.numbered (subst (λ (pairs : List BlockPair). AreDistinct (listed_in pairs)) (sym (table_same s.completed own))
    (distinct_left (listed_in s.completed) (numbers s.current.instructions) l.once)) l.unordered

-- The table of a graph that is built has the builder's instructions, with other orders.
pub built_length : (s : State) (built : Graph) (env : Environment) → IsBuilt s built env → length built.table ≡ length s.table
built_length s built env b = ap (λ (t : List Instruction). length t) b.pruned.orders ∙ table_length 1 (cleaned b.pruned.ordered) s.table

pub built_plain : (s : State) (built : Graph) (env : Environment) → IsBuilt s built env
    → map without_order built.table ≡ map without_order s.table
built_plain s built env b =
    ap (λ (t : List Instruction). map without_order t) b.pruned.orders ∙ ordered_table_plain 1 (cleaned b.pruned.ordered) s.table

pub built_linked : (s : State) (built : Graph) (env : Environment) → HaveOwnIds s.completed → IsListed s → IsBuilt s built env
    → (f : HirFunction (List BlockPair)) → f.body ≡ hir_of built → f.instructions ≡ built.table → IsLinked f
built_linked s built env own l b f body table = record {
  ids = subst (λ (h : Hir (List BlockPair)). HaveOwnIds h.blocks) (sym body) b.distinct;
  listed = subst (λ (h : Hir (List BlockPair)). All (λ p. All (λ id. id.0 < length f.instructions) p.1.instructions) h.blocks) (sym body)
      (subst (λ n. All (λ p. All (λ id. id.0 < n) p.1.instructions) built.blocks)
      (sym (ap (λ (t : List Instruction). length t) table ∙ built_length s built env b))
      (pruned_within (length s.table) (graph_of s) s.entry s.table built.blocks built.table b.pruned
      (subst (λ (pairs : List BlockPair). All (λ p. All (λ id. id.0 < length s.table) p.1.instructions) pairs)
      (sym (table_same s.completed own)) l.completed)));
  preds = subst (λ (h : Hir (List BlockPair)). PredecessorsReached h.blocks h.entry h.blocks) (sym body) b.predecessors;
}
