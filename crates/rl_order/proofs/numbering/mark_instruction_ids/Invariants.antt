use Rattle.std.proofs.Common.{◌≡◌, ◌+◌, ◌++◌, take, drop, length}
use Rattle.rl_order.specs.Numbering.{ordered_blocks, ordered_table, orders_of}
use Rattle.rl_order.proofs.numbering.mark_instruction_ids.Given as goal

-- The blocks numbered already, and then those numbered by the rest of the loop, are all
abbrev pub invariant-loop-index : goal.invariant-loop-index
invariant-loop-index g l =
    record {
      blocks : take l.index (g.B.Blocks.pairs l.hir.blocks) ++ ordered_blocks (l.last + 1) (drop l.index (g.B.Blocks.pairs l.hir.blocks)) ≡ ordered_blocks 1 (g.B.Blocks.pairs l.fn.hir.blocks);
      table : ordered_table (l.last + 1) (drop l.index (g.B.Blocks.pairs l.hir.blocks)) l.table ≡ ordered_table 1 (g.B.Blocks.pairs l.fn.hir.blocks) l.fn.table;
      room : l.last + orders_of (drop l.index (g.B.Blocks.pairs l.hir.blocks)) ≡ orders_of (g.B.Blocks.pairs l.fn.hir.blocks);
      rest : drop l.index (g.B.Blocks.pairs l.hir.blocks) ≡ drop l.index (g.B.Blocks.pairs l.fn.hir.blocks);
      entry : l.hir.entry ≡ l.fn.hir.entry;
      count : length (g.B.Blocks.pairs l.hir.blocks) ≡ length (g.B.Blocks.pairs l.fn.hir.blocks);
    }
