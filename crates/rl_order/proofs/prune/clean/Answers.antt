use Rattle.std.proofs.Common.{◌≡◌, ◌<◌, List, All, length, sym, ap, ◌∙◌, subst, arith}
use Rattle.rl_base.specs.Distinct.{AreDistinct}
use Rattle.rl_base.specs.declared.ids.BlockId.{BlockId}
use Rattle.rl_hir.specs.Blocks.{Pair}
use Rattle.rl_hir.specs.Numbered.{listed_in}
use Rattle.rl_order.specs.Numbering.{ordered_blocks, ordered_table, orders_of}
use Rattle.rl_order.specs.Prune.{cleaned}
use Rattle.rl_order.specs.Predecessors.{PredecessorsReached}
use Rattle.rl_order.proofs.CleanedIds.{numbered_part, on_err, same_part}
use Rattle.rl_order.proofs.Pruning.{cleaned_once, cleaned_orders, cleaned_within, marked_numbered, marked_same, own_predecessors}
use Rattle.rl_order.proofs.prune.clean.Goals as goal

pub mark_instruction_ids-requires-clause-within : goal.mark_instruction_ids-requires-clause-within
mark_instruction_ids-requires-clause-within g c =
    let is : g.B.Blocks.pairs c.remove_dead_ends.new.hir.blocks ≡ cleaned (g.B.Blocks.pairs c.args.hir.now.blocks) = c.in_ok-remove_dead_ends.ensures.blocks in
    subst (λ (pairs : List Pair). All (λ p. All (λ id. id.0 < length c.args.table.now) p.1.instructions) pairs) (sym is)
    (cleaned_within (length c.args.table.now) (g.B.Blocks.pairs c.args.hir.now.blocks) c.requires.within)

pub mark_instruction_ids-requires-clause-room : goal.mark_instruction_ids-requires-clause-room
mark_instruction_ids-requires-clause-room g c =
    let is : g.B.Blocks.pairs c.remove_dead_ends.new.hir.blocks ≡ cleaned (g.B.Blocks.pairs c.args.hir.now.blocks) = c.in_ok-remove_dead_ends.ensures.blocks in
    let count = ap orders_of is in
    let fewer = cleaned_orders (g.B.Blocks.pairs c.args.hir.now.blocks) in
    omega (arith, count, fewer, c.requires.room)

pub returns-clause-marked : goal.returns-clause-marked
returns-clause-marked g c =
    let is : g.B.Blocks.pairs c.remove_dead_ends.new.hir.blocks ≡ cleaned (g.B.Blocks.pairs c.args.hir.now.blocks) = c.in_ok-remove_dead_ends.ensures.blocks in
    marked_same _ _ _ _ _ (c.mark_instruction_ids.ensures.blocks ∙ ap (ordered_blocks 1) is)
    (c.mark_instruction_ids.ensures.entry ∙ c.remove_dead_ends.ensures.entry)
    c.in_ok-mark_predecessors.ensures.walked

pub returns-clause-orders : goal.returns-clause-orders
returns-clause-orders g c =
    let is : g.B.Blocks.pairs c.remove_dead_ends.new.hir.blocks ≡ cleaned (g.B.Blocks.pairs c.args.hir.now.blocks) = c.in_ok-remove_dead_ends.ensures.blocks in
    c.mark_instruction_ids.ensures.table ∙ ap (λ (pairs : List Pair). ordered_table 1 pairs c.args.table.now) is

pub returns-clause-numbered : goal.returns-clause-numbered
returns-clause-numbered g c once none =
    let is : g.B.Blocks.pairs c.remove_dead_ends.new.hir.blocks ≡ cleaned (g.B.Blocks.pairs c.args.hir.now.blocks) = c.in_ok-remove_dead_ends.ensures.blocks in
    marked_numbered c.mark_instruction_ids.new.table (g.B.Blocks.pairs c.mark_instruction_ids.new.hir.blocks) (g.B.Blocks.pairs c.mark_predecessors.new.hir.blocks) _ c.in_ok-mark_predecessors.ensures.walked
    (c.mark_instruction_ids.ensures.numbered (subst (λ (pairs : List Pair). AreDistinct (listed_in pairs)) (sym is) (cleaned_once (g.B.Blocks.pairs c.args.hir.now.blocks) once)) none)

pub returns-clause-predecessors : goal.returns-clause-predecessors
returns-clause-predecessors g c =
    subst (λ (entry : BlockId). PredecessorsReached (g.B.Blocks.pairs c.mark_predecessors.new.hir.blocks) entry (g.B.Blocks.pairs c.mark_predecessors.new.hir.blocks))
    (sym c.mark_predecessors.ensures.entry)
    (own_predecessors (g.B.Blocks.pairs c.mark_instruction_ids.new.hir.blocks) (g.B.Blocks.pairs c.mark_predecessors.new.hir.blocks) _ c.in_ok-mark_predecessors.ensures.walked)

pub returns-in_err-remove_dead_ends-clause-err : goal.returns-in_err-remove_dead_ends-clause-err
returns-in_err-remove_dead_ends-clause-err g c =
    on_err c.from_residual.result
    (same_part (g.B.Blocks.pairs c.remove_dead_ends.new.hir.blocks) (g.B.Blocks.pairs c.args.hir.now.blocks) c.in_err-remove_dead_ends.ensures.err)

pub returns-in_err-mark_predecessors-clause-err : goal.returns-in_err-mark_predecessors-clause-err
returns-in_err-mark_predecessors-clause-err g c =
    on_err c.from_residual-in_err-mark_predecessors.result
    (numbered_part (g.B.Blocks.pairs c.args.hir.now.blocks) (g.B.Blocks.pairs c.remove_dead_ends.new.hir.blocks) (g.B.Blocks.pairs c.mark_predecessors.new.hir.blocks)
    c.in_ok-remove_dead_ends.ensures.blocks (c.in_err-mark_predecessors.ensures.err ∙ c.mark_instruction_ids.ensures.blocks))
