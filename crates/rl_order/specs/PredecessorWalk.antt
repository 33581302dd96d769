-- The walk that finds predecessors: over a graph, depth first, and the edges that it follows.
use Rattle.std.specs.Prelude.{◌≡◌, Bool, true, false, Some, None, List, [], ◌∷◌, ◌++◌, map, filter}
use Rattle.std.specs.List.{list_any}
use Rattle.indexmap.specs.IndexSet.{insert_all}
use Rattle.rl_base.specs.declared.ids.BlockId.{BlockId}
use Rattle.rl_hir.specs.Blocks.{Pair, block_at, same_id}
use Rattle.rl_hir.specs.Terminals.{successor_ids}
use Rattle.rl_hir.specs.declared.function.BasicBlock.{BasicBlock}
use Rattle.rl_hir.specs.declared.terminal.Terminal.{Terminal}
use Rattle.rl_order.specs.declared.predecessors.Edge.{Edge}

-- The successors of a terminal, each once, in order.
abbrev pub distinct_ids : Terminal → List BlockId
distinct_ids terminal = insert_all same_id [] (successor_ids terminal)

-- The edges from a block, in order: one to each of its successors.
abbrev pub edges_from : BlockId → BasicBlock → List Edge
edges_from id block = map (λ to. record { from = id; to = to }) (distinct_ids block.terminal)

-- The state of a walk.
pub record Trail : Type 0 where
  -- The blocks that were visited, in this order
  pub seen : List BlockId
  -- The edges to blocks of the graph that were followed, in this order
  pub edges : List Edge

abbrev pub is_seen : Trail → BlockId → Bool
is_seen trail id = list_any (same_id id) trail.seen

-- With one more edge that was followed.
abbrev pub followed : Edge → Trail → Trail
followed e trail = record trail { edges = trail.edges ++ e ∷ [] }

-- With one more block that was visited.
abbrev pub visited : BlockId → Trail → Trail
visited id trail = record trail { seen = trail.seen ++ id ∷ [] }

-- A walk along edges, the first one first, from one trail to another. The first visit of a block puts the edges from it in front of
-- those that are left.
pub data Follows (graph : List Pair) : List Edge → Trail → Trail → Type 0 where
  Ends : (trail : Trail) → Follows graph [] trail trail
  Misses : (e : Edge) (es : List Edge) (trail end : Trail) → block_at graph e.to ≡ None → Follows graph es trail end → Follows graph (e ∷ es) trail end
  Meets : (e : Edge) (es : List Edge) (block : BasicBlock) (trail end : Trail) → block_at graph e.to ≡ Some block → is_seen trail e.to ≡ true
      → Follows graph es (followed e trail) end → Follows graph (e ∷ es) trail end
  Visits : (e : Edge) (es : List Edge) (block : BasicBlock) (trail end : Trail) → block_at graph e.to ≡ Some block → is_seen trail e.to ≡ false
      → Follows graph (edges_from e.to block ++ es) (visited e.to (followed e trail)) end → Follows graph (e ∷ es) trail end

-- The edges from the entry; none where it is missing.
abbrev pub entry_edges : List Pair → (entry : BlockId) → List Edge
entry_edges graph entry = elim (block_at graph entry) [ None ↦ [] | Some block ↦ edges_from entry block ]

-- The edges that the walk from the entry follows.
pub record WalksAlong (graph : List Pair) (entry : BlockId) (edges : List Edge) : Type 0 where
  pub seen : List BlockId
  pub walk : Follows graph (entry_edges graph entry) (record { seen = entry ∷ []; edges = [] }) (record { seen = seen; edges = edges })

-- The blocks from which edges lead to a block.
abbrev pub sources : List Edge → BlockId → List BlockId
sources edges id = map (λ e. e.from) (filter (λ e. same_id id e.to) edges)

-- The blocks with the sources of these edges as predecessors.
abbrev pub with_predecessors : List Edge → List Pair → List Pair
with_predecessors edges pairs = map (λ p. (p.0, record p.1 { preds = sources edges p.0 })) pairs

-- The sources of each block, in block order.
abbrev pub source_lists : List Edge → List Pair → List (List BlockId)
source_lists edges pairs = map (λ p. sources edges p.0) pairs

-- The predecessors of all blocks are those that the walk from the entry comes from.
pub record IsMarked (graph : List Pair) (entry : BlockId) (marked : List Pair) : Type 0 where
  pub edges : List Edge
  pub walk : WalksAlong graph entry edges
  pub blocks : marked ≡ with_predecessors edges graph
