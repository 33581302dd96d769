use Rattle.std.proofs.Common.{◌≡◌, ◌+◌, ◌*◌, ◌≤◌, drop}
use Rattle.rl_machine.specs.Machine.{positions}
use Rattle.rl_graph_steps.proofs.graph.positions.Given as goal

-- The count so far and the positions of the blocks that are left are all; it is at most 2^64 for each block so far.
abbrev pub invariant-loop-index : goal.invariant-loop-index
invariant-loop-index l =
    record {
      sum : l.count + positions (drop l.index l.blocks) ≡ positions l.blocks;
      room : l.count ≤ l.index * 18446744073709551616;
    }
