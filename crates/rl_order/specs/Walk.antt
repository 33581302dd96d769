-- The ordering of the blocks of a graph (`getReversePostorderedBlocks`): a walk from the entry, and the blocks that are kept.
use Rattle.std.specs.Prelude.{◌≡◌, ℕ, ◌+◌, Bool, true, false, not, ◌||◌, if◌then◌else◌, Option, Some, None, List, [], ◌∷◌, ◌++◌, map, reverse, is_some, unwrap_or}
use Rattle.std.specs.Map.{lookup}
use Rattle.std.specs.List.{list_any, list_all}
use Rattle.indexmap.specs.IndexMap.{insert_entry}
use Rattle.indexmap.specs.IndexSet.{insert_key}
use Rattle.rl_base.specs.declared.ids.BlockId.{BlockId}
use Rattle.rl_hir.specs.Blocks.{Pair, block_at, same_id}
use Rattle.rl_hir.specs.Terminals.{fallthrough, listed_id, successor_ids, unreachable}
use Rattle.rl_hir.specs.declared.function.BasicBlock.{BasicBlock}
use Rattle.rl_order.specs.Reached.{IsReached}
use Rattle.rl_order.specs.declared.tasks.Visit.{Visit}

-- The blocks to which a block leads: its successors, and the fallthrough of its terminal.
abbrev pub leads_to : BasicBlock → List BlockId
leads_to block = listed_id (fallthrough block.terminal) ++ successor_ids block.terminal

-- True of an id that a block of the graph has.
abbrev pub has_block : List Pair → BlockId → Bool
has_block graph id = is_some (block_at graph id)

-- The entry is a block of the graph, and so are the blocks to which a block of the graph leads.
pub record IsWhole (graph : List Pair) (entry : BlockId) : Type 0 where
  pub entry_there : has_block graph entry ≡ true
  pub leads : (id : BlockId) (block : BasicBlock) → block_at graph id ≡ Some block
      → list_all (has_block graph) (leads_to block) ≡ true

-- The state of a walk.
pub record Walk : Type 0 where
  -- The blocks that were visited, each with true if it is used
  pub seen : List (BlockId × Bool)
  -- The fallthroughs of used blocks
  pub noted : List BlockId
  -- The blocks whose first visit has ended, in the order of these ends
  pub appended : List BlockId

abbrev pub nothing : Walk
nothing = record { seen = []; noted = []; appended = [] }

-- True of a visit that is passed over: the block was visited before, and it is used already or this visit is not used.
abbrev pub is_passed : Walk → Visit → Bool
is_passed w v = elim (lookup (same_id v.id) w.seen) [ Some used ↦ used || not v.used | None ↦ false ]

-- True if the block was not visited yet.
abbrev pub is_first : Walk → BlockId → Bool
is_first w id = not (is_some (lookup (same_id id) w.seen))

abbrev pub visit : (used : Bool) → BlockId → Visit
visit used id = record { id = id; used = used }

-- The visits that a visit of a block makes, in order: of its fallthrough, as not used, and of its successors from last to
-- first, used as the block is.
abbrev pub visits_from : (used : Bool) → BasicBlock → List Visit
visits_from used block =
    map (visit false) (listed_id (fallthrough block.terminal)) ++ map (visit used) (reverse (successor_ids block.terminal))

-- The noted blocks with the fallthrough of a block, if the block is used.
abbrev pub with_noted : (used : Bool) → Option BlockId → List BlockId → List BlockId
with_noted used None noted = noted
with_noted used (Some id) noted = if used then insert_key same_id noted id else noted

-- A visit that is not passed over begins: the block is visited, and if it is used, its fallthrough `behind` is noted.
abbrev pub entered : Walk → Visit → (behind : Option BlockId) → Walk
entered w v behind = record w { seen = insert_entry same_id w.seen v.id v.used; noted = with_noted v.used behind w.noted }

abbrev pub appended : Walk → BlockId → Walk
appended w id = record w { appended = w.appended ++ id ∷ [] }

-- The visit ends: the block is appended if this was its first visit.
abbrev pub left : (first : Bool) → Walk → BlockId → Walk
left first w id = if first then appended w id else w

-- The visits, in order, take the walk over the graph from one state to another.
pub data Walks (graph : List Pair) : List Visit → Walk → Walk → Type 0 where
  Ends : (w : Walk) → Walks graph [] w w
  Passes : (v : Visit) (vs : List Visit) (w end : Walk) → is_passed w v ≡ true → Walks graph vs w end
      → Walks graph (v ∷ vs) w end
  Expands : (v : Visit) (vs : List Visit) (block : BasicBlock) (w inner end : Walk) → is_passed w v ≡ false
      → block_at graph v.id ≡ Some block
      → Walks graph (visits_from v.used block) (entered w v (fallthrough block.terminal)) inner
      → Walks graph vs (left (is_first w v.id) inner v.id) end
      → Walks graph (v ∷ vs) w end

-- The number of visits in a walk that expand a block: those in the list that are not passed over, and those that they make.
abbrev pub expansions : {graph : List Pair} {vs : List Visit} {w end : Walk} → Walks graph vs w end → ℕ
expansions (Ends w) = 0
expansions (Passes v vs w end passed rest) = expansions rest
expansions (Expands v vs block w inner end passed there within rest) = 1 + expansions within + expansions rest

-- The walk from the entry, as a used block, ends in this state.
abbrev pub WalksFrom : (graph : List Pair) (entry : BlockId) → Walk → Type 0
WalksFrom graph entry end = Walks graph (visit true entry ∷ []) nothing end

-- True of a block that is used.
abbrev pub is_used : Walk → BlockId → Bool
is_used w id = unwrap_or (lookup (same_id id) w.seen) false

-- True of the fallthrough of a used block.
abbrev pub is_noted : Walk → BlockId → Bool
is_noted w id = list_any (same_id id) w.noted

-- The block without its instructions, ended as unreachable. Its kind and predecessors stay, and the terminal's order and span.
abbrev pub emptied : BasicBlock → BasicBlock
emptied block = record block { instructions = []; terminal = unreachable block.terminal }

-- A block that is kept, as a list: whole if it is used, empty if it is noted alone. No block else.
abbrev pub kept_block : Walk → BlockId → BasicBlock → List Pair
kept_block w id block = if is_used w id then (id, block) ∷ [] else (if is_noted w id then (id, emptied block) ∷ [] else [])

-- The blocks of the graph with these ids that are kept, in the order of the ids.
abbrev pub kept : List Pair → Walk → List BlockId → List Pair
kept graph w [] = []
kept graph w (id ∷ ids) = elim (block_at graph id) [ Some block ↦ kept_block w id block | None ↦ [] ] ++ kept graph w ids

-- The blocks of the graph in their order: of those that the walk from the entry appended, the kept ones, the last first.
pub record IsOrdered (graph : List Pair) (entry : BlockId) (ordered : List Pair) : Type 0 where
  pub end : Walk
  pub walk : WalksFrom graph entry end
  pub blocks : ordered ≡ kept graph end (reverse end.appended)

-- A block to which successors lead from the entry is among the ordered blocks, as it stands in the graph.
abbrev pub KeepsReached : (graph : List Pair) (entry : BlockId) (ordered : List Pair) → Type 0
KeepsReached graph entry ordered = (id : BlockId) → IsReached graph entry id → block_at ordered id ≡ block_at graph id
