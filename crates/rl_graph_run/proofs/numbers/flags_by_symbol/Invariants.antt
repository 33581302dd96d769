use Rattle.std.proofs.Common.{◌≡◌, ◌++◌, drop, map}
use Rattle.rl_graph_run.specs.Symbols.{has_flag}
use Rattle.rl_graph_run.proofs.numbers.flags_by_symbol.Given as goal

-- The flags so far and those of the entries that are left are all.
abbrev pub invariant-entries : goal.invariant-entries
invariant-entries l = l.symbols.items ++ map (has_flag l.flags) (drop l.identifier-index l.table) ≡ map (has_flag l.flags) l.table
