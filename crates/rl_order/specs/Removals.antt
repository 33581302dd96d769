-- The removals: what stands in place of the terminals that name blocks which were dropped.
use Rattle.std.specs.Prelude.{Bool, false, not, ◌&&◌, if◌then◌else◌, Option, Some, None, is_some, List, [], ◌∷◌, ◌++◌, map, filter, fold}
use Rattle.std.specs.Option.{option_to_list}
use Rattle.rl_base.specs.declared.ids.BlockId.{BlockId}
use Rattle.rl_hir.specs.Blocks.{Pair, block_at, same_id}
use Rattle.rl_hir.specs.declared.function.BasicBlock.{BasicBlock}
use Rattle.rl_hir.specs.declared.terminal.TerminalKind.{TerminalKind}
use Rattle.rl_hir.specs.declared.terminal.TerminalKind.TheVariants as kinds
use Rattle.rl_order.specs.declared.tries.DeadTry.{DeadTry}
use Rattle.rl_hir.specs.declared.terminal.GotoVariant.TheVariants as gotos

-- True of a block of the graph.
abbrev pub is_there : List Pair → BlockId → Bool
is_there pairs id = is_some (block_at pairs id)

-- The block with another kind of terminal; the terminal's order and span stay.
abbrev pub with_kind : BasicBlock → TerminalKind → BasicBlock
with_kind block kind = record block { terminal = record block.terminal { kind = kind } }

-- The blocks with other kinds of terminals.
abbrev pub with_kinds : (TerminalKind → TerminalKind) → List Pair → List Pair
with_kinds change pairs = map (λ p. (p.0, with_kind p.1 (change p.1.terminal.kind))) pairs

-- An update that is missing is none.
abbrev pub live_update : (there : BlockId → Bool) → Option BlockId → Option BlockId
live_update there None = None
live_update there (Some id) = if there id then Some id else None

-- A `for` loop whose update is missing has none.
abbrev pub live_for : (there : BlockId → Bool) → TerminalKind → TerminalKind
live_for there (kinds.For init test update body fallthrough) = kinds.For init test (live_update there update) body fallthrough
live_for there kind = kind

abbrev pub without_unreachable_updates : List Pair → List Pair
without_unreachable_updates pairs = with_kinds (live_for (is_there pairs)) pairs

-- A `do`-`while` loop whose test is missing is a goto to its block.
abbrev pub live_do_while : (there : BlockId → Bool) → TerminalKind → TerminalKind
live_do_while there (kinds.DoWhile body test fallthrough) = if there test then kinds.DoWhile body test fallthrough else kinds.Goto body gotos.Break
live_do_while there kind = kind

abbrev pub without_dead_do_whiles : List Pair → List Pair
without_dead_do_whiles pairs = with_kinds (live_do_while (is_there pairs)) pairs

-- The `try` that ends a block, if its handler is missing.
abbrev pub dead_try : (there : BlockId → Bool) → BlockId → TerminalKind → Option DeadTry
dead_try there id (kinds.Try block binding handler fallthrough) = if there handler then None else Some (record { id = id; block = block; handler = handler; fallthrough = fallthrough })
dead_try there id kind = None

-- The `try`s whose handlers are missing, in block order.
abbrev pub dead_tries : (there : BlockId → Bool) → List Pair → List DeadTry
dead_tries there [] = []
dead_tries there (p ∷ pairs) = option_to_list (dead_try there p.0 p.1.terminal.kind) ++ dead_tries there pairs

-- The blocks with a change of that of an id, if it is there.
abbrev pub with_changed : BlockId → (BasicBlock → BasicBlock) → List Pair → List Pair
with_changed id change pairs = map (λ p. (p.0, if same_id id p.0 then change p.1 else p.1)) pairs

-- The block that ends with a goto of order 0, with the span of the old terminal.
abbrev pub ended_by_goto : BlockId → BasicBlock → BasicBlock
ended_by_goto target block = record block { terminal = record { order = record { 0 = 0 }; span = block.terminal.span; kind = kinds.Goto target gotos.Break } }

abbrev pub without_predecessor : BlockId → BasicBlock → BasicBlock
without_predecessor id block = record block { preds = filter (λ other. not (same_id id other)) block.preds }

-- True of a list of this id alone.
abbrev pub is_alone : BlockId → List BlockId → Bool
is_alone id [] = false
is_alone id (other ∷ []) = same_id id other
is_alone id (other ∷ next ∷ ids) = false

-- True of the fallthrough of a `try` whose handler is the only predecessor.
abbrev pub is_lost : DeadTry → Pair → Bool
is_lost dead p = same_id dead.fallthrough p.0 && is_alone dead.handler p.1.preds

-- The blocks without a `try` whose handler is missing: its block goes to the block of the `try`. A fallthrough with the handler as its
-- only predecessor is removed; from other predecessors of the fallthrough the handler is taken.
abbrev pub without_try : DeadTry → List Pair → List Pair
without_try dead pairs = with_changed dead.fallthrough (without_predecessor dead.handler) (filter (λ p. not (is_lost dead p)) (with_changed dead.id (ended_by_goto dead.block) pairs))

-- The blocks without each `try` whose handler is missing in them, one after the other in block order.
abbrev pub without_dead_tries : List Pair → List Pair
without_dead_tries pairs = fold (λ now dead. without_try dead now) pairs (dead_tries (is_there pairs) pairs)
