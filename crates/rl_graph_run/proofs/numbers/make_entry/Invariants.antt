use Rattle.std.proofs.Common.{◌≡◌, ◌+◌, ◌-◌, ℕ, length}
use Rattle.rl_graph_run.specs.Symbols.{identifier_at}
use Rattle.rl_graph_run.proofs.numbers.make_entry.Given as goal

abbrev pub decreases-room : goal.decreases-room
decreases-room l = l.symbol + 1 - length l.table.items

-- The table has the entries of before.
abbrev pub invariant-room : goal.invariant-room
invariant-room l = (n : ℕ) → identifier_at l.table.items n ≡ identifier_at l.initial.table.items n
