use Rattle.std.proofs.Common.{◌≡◌, ◌≤◌, length, vec_len}
use Rattle.rl_order.specs.Walked.{with_lists}
use Rattle.rl_order.proofs.predecessors.set_predecessors.Given as goal

abbrev pub invariant-loop-list : goal.invariant-loop-list
invariant-loop-list g l =
    record {
      blocks : with_lists (g.B.Blocks.pairs l.blocks) l.lists.items ≡ with_lists (g.B.Blocks.pairs l.fn.blocks) l.fn.lists.items;
      within : vec_len l.lists ≤ length (g.B.Blocks.pairs l.blocks);
    }

abbrev pub decreases-loop-list : goal.decreases-loop-list
decreases-loop-list g l = vec_len l.lists
