use Rattle.std.proofs.Common.{◌≡◌, ◌-◌, ◌++◌, drop, length, map, reverse}
use Rattle.rl_order.proofs.predecessors.leave_edges.Given as goal

abbrev pub invariant-loop-back : goal.invariant-loop-back
invariant-loop-back l = reverse l.left.items ≡ map (λ to. record { from = l.from; to = to }) (drop (length l.successors - l.back) l.successors) ++ reverse l.fn.left.items
