-- The state of a walk along the edges of a graph, as its code keeps it.
use Rattle.std.specs.Prelude.{ℕ, ◌+◌, if◌then◌else◌, Option, Some, None, List, [], ◌∷◌, ◌++◌, length, reverse, slice_get, slice_set}
use Rattle.std.specs.List.{list_any}
use Rattle.rl_base.specs.declared.ids.BlockId.{BlockId}
use Rattle.rl_hir.specs.Blocks.{Pair, same_id}
use Rattle.rl_order.specs.PredecessorWalk.{Follows, Trail, distinct_ids}
use Rattle.rl_order.specs.declared.predecessors.Edge.{Edge}
use Rattle.rl_order.specs.declared.predecessors.Walk.{Walk}

abbrev pub trail_of : Walk → Trail
trail_of walk = record { seen = walk.seen.keys; edges = walk.edges.items }

-- The edges that are left, the next one first.
abbrev pub worklist : Walk → List Edge
worklist walk = reverse walk.left.items

-- A walk that ends from the second edges and trail ends so from the first ones.
pub record Goes (graph : List Pair) (edges : List Edge) (trail : Trail) (edges1 : List Edge) (trail1 : Trail) : Type 0 where
  pub goes : (end : Trail) → Follows graph edges1 trail1 end → Follows graph edges trail end

-- The number of edges from blocks that were not visited.
abbrev pub unseen_edges : List Pair → (seen : List BlockId) → ℕ
unseen_edges [] seen = 0
unseen_edges (p ∷ pairs) seen = (if list_any (same_id p.0) seen then 0 else length (distinct_ids p.1.terminal)) + unseen_edges pairs seen

-- The number of edges that are left, now or after a first visit.
abbrev pub left_of : List Pair → Walk → ℕ
left_of graph walk = length walk.left.items + unseen_edges graph walk.seen.keys

-- The lists with one more source in that at an index, if there is one.
abbrev pub with_source : (index : Option ℕ) → BlockId → List (List BlockId) → List (List BlockId)
with_source None from lists = lists
with_source (Some index) from lists = elim (slice_get lists index) [ Some list ↦ slice_set lists index (list ++ from ∷ []) | None ↦ lists ]

-- The first blocks with these lists as predecessors, and those behind them as they are.
abbrev pub with_lists : List Pair → List (List BlockId) → List Pair
with_lists [] lists = []
with_lists (p ∷ pairs) [] = p ∷ pairs
with_lists (p ∷ pairs) (list ∷ lists) = (p.0, record p.1 { preds = list }) ∷ with_lists pairs lists
