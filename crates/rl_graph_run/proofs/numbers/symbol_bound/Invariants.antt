use Rattle.std.proofs.Common.{◌≡◌, ◌≤◌, length}
use Rattle.rl_model.specs.Worlds.{symbol_bound}
use Rattle.rl_graph_run.proofs.Tables.{bound_over}
use Rattle.rl_graph_run.proofs.numbers.symbol_bound.Given as goal

abbrev pub decreases-pairs : goal.decreases-pairs
decreases-pairs l = length l.left

-- The bound so far, raised above the pairs that are left, is that of all.
abbrev pub invariant-pairs : goal.invariant-pairs
invariant-pairs l = record { same : bound_over l.left l.bound ≡ symbol_bound l.pairs; fits : l.bound ≤ 4294967296 }
