use Rattle.std.proofs.Common.{◌≡◌, ◌++◌, drop}
use Rattle.rl_graph_places.specs.Tables.{table_identifiers}
use Rattle.rl_graph_places.proofs.tables.push_table.Given as goal

-- Those so far and those of the instructions that are left are all.
abbrev pub invariant-table : goal.invariant-table
invariant-table l =
    l.out.items ++ table_identifiers l.which (drop l.instruction-index l.table) ≡ l.initial.out.items ++ table_identifiers l.which l.table
