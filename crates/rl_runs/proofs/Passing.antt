-- Parts that complete: what is behind them is reached.
use Rattle.std.proofs.Common.{length, Option, Some, None}
use Rattle.rl_builder.specs.Builder.{innermost, maybe_throw, new_block, plainly_pushed, pushed, pushed_under, reserved}
use Rattle.rl_hir.specs.Blocks.{same_id}
use Rattle.rl_order.proofs.Ordering.{or_left, same_self}
use Rattle.rl_runs.proofs.Common.{BlockId, Instruction, State}
use Rattle.rl_runs.proofs.Moves.{contained_before, terminal_met}
use Rattle.rl_runs.specs.Blocks.{Leads, Passes}
use Rattle.rl_runs.specs.Facts.{Extends}

pub passes_refl : (s : State) → Passes s s
passes_refl s c cover entry r = r

pub passes_then : (a : State) {b d : State} → Extends b d → Passes a b → Passes b d → Passes a d
passes_then a g first second c cover entry r = second c cover entry (first c (contained_before g cover) entry r)

passes_under : (o : Option BlockId) (s : State) (i : Instruction) → Passes s (pushed_under o s i)
passes_under None s i c cover entry r = r
passes_under (Some handler) s i c cover entry r =
    Leads s.current.id.0 (length (plainly_pushed s i).current.instructions) (maybe_throw s.env.next_block handler i.span)
    (record { 0 = s.env.next_block }) r
    (terminal_met (reserved (plainly_pushed s i)) (maybe_throw s.env.next_block handler i.span)
    (new_block s.env.next_block s.current.kind) c cover)
    (or_left (same_id (record { 0 = s.env.next_block }) (record { 0 = s.env.next_block })) _ (same_self (record { 0 = s.env.next_block })))

pub passes_pushed : (s : State) (i : Instruction) → Passes s (pushed s i)
passes_pushed s i = passes_under (innermost s.handlers) s i
