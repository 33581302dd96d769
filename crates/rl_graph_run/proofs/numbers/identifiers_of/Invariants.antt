use Rattle.std.proofs.Common.{◌≡◌, ℕ, length}
use Rattle.rl_hir.specs.Pairs.{identifier_of}
use Rattle.rl_graph_run.specs.Symbols.{identifier_at}
use Rattle.rl_graph_run.proofs.Tables.{identifier_or}
use Rattle.rl_graph_run.proofs.numbers.identifiers_of.Given as goal

abbrev pub decreases-pairs : goal.decreases-pairs
decreases-pairs l = length l.left

-- The pairs that are left, and the table where they have none, give the identifiers of all.
abbrev pub invariant-pairs : goal.invariant-pairs
invariant-pairs l = (n : ℕ) → identifier_or l.left n (identifier_at l.table.items n) ≡ identifier_of l.pairs n
