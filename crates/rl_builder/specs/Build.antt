-- The graph that is made of a builder's blocks.
use Rattle.std.specs.Prelude.{◌≡◌, List, [], ◌++◌, All, fold}
use Rattle.rl_base.specs.Distinct.{AreDistinct}
use Rattle.rl_builder.specs.Builder.{State}
use Rattle.rl_builder.specs.Dropped.{refused_blocks}
use Rattle.rl_hir.specs.Blocks.{HaveOwnIds, Pair, with_block}
use Rattle.rl_hir.specs.Numbered.{IsNumbered, listed_in}
use Rattle.rl_hir.specs.declared.environment.Environment.{Environment}
use Rattle.rl_machine.specs.Closed.{IsClosed}
use Rattle.rl_machine.specs.Conditions.{KeepsRuns, MayOrder}
use Rattle.rl_machine.specs.Machine.{Graph}
use Rattle.rl_order.specs.Predecessors.{PredecessorsReached}
use Rattle.rl_order.specs.Prune.{IsPruned}

-- The blocks as a table: each under its id, in order.
abbrev pub table_of : List Pair → List Pair
table_of completed = fold (λ table p. with_block table p.0 p.1) [] completed

-- The completed blocks as a table.
abbrev pub graph_of : State → List Pair
graph_of s = table_of s.completed

-- The completed blocks as a graph, with the instruction table.
abbrev pub unordered_graph : State → Graph
unordered_graph s = record { blocks = graph_of s; table = s.table; entry = s.entry }

-- The seven moves of `build` made this graph and left this environment: the blocks in their order, the refusals of dropped blocks, the
-- three removals, evaluation orders from 1, and predecessors.
pub record IsBuilt (s : State) (graph : Graph) (env : Environment) : Type 0 where
  pub entry : graph.entry ≡ s.entry
  pub pruned : IsPruned (graph_of s) s.entry s.table graph.blocks graph.table
  pub refused : env ≡ record s.env { diagnostics = s.env.diagnostics ++ refused_blocks s.table pruned.ordered (graph_of s) }
  pub distinct : HaveOwnIds graph.blocks
  pub numbered : AreDistinct (listed_in (graph_of s)) → All (λ i. i.order.0 ≡ 0) s.table → IsNumbered graph.table graph.blocks
  pub predecessors : PredecessorsReached graph.blocks graph.entry graph.blocks
  -- under the conditions on what is ordered, the graph is closed and has the runs of the completed blocks
  pub closed : MayOrder (unordered_graph s) → IsClosed (record { entry = graph.entry; blocks = graph.blocks })
  pub runs : MayOrder (unordered_graph s) → KeepsRuns (unordered_graph s) graph
