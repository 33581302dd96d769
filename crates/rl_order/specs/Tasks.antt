-- The tasks that a walk has still to do, on a stack.
use Rattle.std.specs.Prelude.{Bool, true, false, not, if◌then◌else◌, Some, None, List, [], ◌∷◌, ◌++◌, map}
use Rattle.rl_hir.specs.Blocks.{Pair, block_at}
use Rattle.rl_hir.specs.Terminals.{fallthrough, listed_id, successor_ids}
use Rattle.rl_hir.specs.declared.function.BasicBlock.{BasicBlock}
use Rattle.rl_order.specs.Walk.{Walk, appended, entered, has_block, is_first, is_passed, visit}
use Rattle.rl_order.specs.declared.tasks.Task.{Task}
use Rattle.rl_order.specs.declared.tasks.Task.TheVariants as tasks
use Rattle.rl_order.specs.declared.tasks.Visit.{Visit}

-- True of a task that visits a block of the graph, and of one that visits none.
abbrev pub is_known : List Pair → Task → Bool
is_known graph (tasks.Enter v) = has_block graph v.id
is_known graph (tasks.Append id) = true

-- The tasks that a visit of a block adds, the last to be done first.
abbrev pub tasks_from : (first : Bool) → Visit → BasicBlock → List Task
tasks_from first v block =
    (if first then tasks.Append v.id ∷ [] else [])
    ++ map (λ id. tasks.Enter (visit v.used id)) (successor_ids block.terminal)
    ++ map (λ id. tasks.Enter (visit false id)) (listed_id (fallthrough block.terminal))

-- The walk after a task.
abbrev pub walk_after : List Pair → Walk → Task → Walk
walk_after graph w (tasks.Append id) = appended w id
walk_after graph w (tasks.Enter v) =
    if is_passed w v then w else elim (block_at graph v.id) [
      | Some block ↦ entered w v (fallthrough block.terminal)
      | None ↦ w
    ]

-- The tasks that a task adds.
abbrev pub tasks_after : List Pair → Walk → Task → List Task
tasks_after graph w (tasks.Append id) = []
tasks_after graph w (tasks.Enter v) =
    if is_passed w v then [] else elim (block_at graph v.id) [
      | Some block ↦ tasks_from (is_first w v.id) v block
      | None ↦ []
    ]

-- True of a task that expands a block.
abbrev pub is_expanding : Walk → Task → Bool
is_expanding w (tasks.Append id) = false
is_expanding w (tasks.Enter v) = not (is_passed w v)
