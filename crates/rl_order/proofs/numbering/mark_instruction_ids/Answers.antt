use Rattle.std.proofs.Common.{◌≡◌, ◌+◌, List, drop, length, ap, ◌∙◌, refl, arith}
use Rattle.rl_hir.specs.Blocks.{Pair, with_block_at}
use Rattle.rl_hir.specs.declared.function.BasicBlock.{BasicBlock}
use Rattle.rl_order.proofs.NumberedOrders.{counted_marked, numbered_marked}
use Rattle.rl_order.proofs.NumberingSteps.{all_marked, blocks_step, listed_within, marked, put_marked, room_step, table_step}
use Rattle.rl_order.proofs.TakenBlocks.{IsReplaced, replaced, same_count, same_later}
use Rattle.rl_order.specs.Numbering.{orders_of}
use Rattle.rl_order.proofs.numbering.mark_instruction_ids.Goals as goal

pub mark_block-last-requires-clause-within : goal.mark_block-last-requires-clause-within
mark_block-last-requires-clause-within g c =
    let now : List Pair = g.B.Blocks.pairs c.loop-index.hir.blocks in
    let index = c.loop-index.index in
    let old : BasicBlock = c.take_block-block.result in
    let r : IsReplaced now (with_block_at now index old) index old old = replaced now (with_block_at now index old) index old old c.take_block-block.ensures.value refl in
    let all = listed_within (length c.args.table.now) (g.B.Blocks.pairs c.args.hir.now.blocks) now (with_block_at now index old) index old old r c.loop-index.invariant.rest (omega arith) c.requires.within in
    λ k d h. omega (arith, all k d h)

pub mark_block-last-requires-clause-room : goal.mark_block-last-requires-clause-room
mark_block-last-requires-clause-room g c =
    let now : List Pair = g.B.Blocks.pairs c.loop-index.hir.blocks in
    let index = c.loop-index.index in
    let old : BasicBlock = c.take_block-block.result in
    let r : IsReplaced now (with_block_at now index old) index old old = replaced now (with_block_at now index old) index old old c.take_block-block.ensures.value refl in
    let taken : orders_of (drop index now) ≡ length old.instructions + 1 + orders_of (drop (index + 1) now) = ap orders_of r.before in
    omega (arith, taken)

pub loop-index-preserved : goal.loop-index-preserved
loop-index-preserved g c =
    let now : List Pair = g.B.Blocks.pairs c.loop-index.hir.blocks in
    let after : List Pair = g.B.Blocks.pairs c.set_at.new.self in
    let index = c.loop-index.index in
    let last = c.loop-index.last in
    let next = last + 1 in
    let next1 = c.mark_block-last.result + 1 in
    let old : BasicBlock = c.take_block-block.result in
    let put : after ≡ with_block_at now index (marked next old) =
    put_marked now after index last old c.mark_block-last.new.block c.mark_block-last.ensures.block
    (c.set_at.ensures.new ∙ c.take_block-block.ensures.free c.mark_block-last.new.block) in
    let r : IsReplaced now after index old (marked next old) = replaced now after index old (marked next old) c.take_block-block.ensures.value put in
    let ends : next1 ≡ next + length old.instructions + 1 = omega (arith, c.mark_block-last.ensures.last) in
    record {
      blocks = blocks_step now after index next next1 old r ends ∙ c.loop-index.invariant.blocks;
      table = table_step now after index next next1 old r ends c.loop-index.table c.mark_block-last.new.table c.mark_block-last.ensures.table ∙ c.loop-index.invariant.table;
      room = (let rest = room_step now after index next next1 old r ends in let sum = c.loop-index.invariant.room in omega (arith, rest, sum));
      rest = r.rest ∙ same_later now (g.B.Blocks.pairs c.args.hir.now.blocks) index c.loop-index.invariant.rest;
      entry = c.loop-index.invariant.entry;
      count = same_count now after index (marked next old) put ∙ c.loop-index.invariant.count;
    }

pub returns-clause-counted : goal.returns-clause-counted
returns-clause-counted g c =
    let end = c.loop-index in
    let pairs : List Pair = g.B.Blocks.pairs end.hir.blocks in
    let first : List Pair = g.B.Blocks.pairs c.args.hir.now.blocks in
    let done = all_marked first pairs c.args.table.now end.table end.index (end.last + 1) (omega arith) end.invariant.blocks end.invariant.table in
    counted_marked first pairs c.args.table.now end.table done.0 done.1 c.requires.within

pub returns-clause-numbered : goal.returns-clause-numbered
returns-clause-numbered g c =
    let end = c.loop-index in
    let pairs : List Pair = g.B.Blocks.pairs end.hir.blocks in
    let first : List Pair = g.B.Blocks.pairs c.args.hir.now.blocks in
    let done = all_marked first pairs c.args.table.now end.table end.index (end.last + 1) (omega arith) end.invariant.blocks end.invariant.table in
    numbered_marked first pairs c.args.table.now end.table done.0 done.1 c.requires.within
