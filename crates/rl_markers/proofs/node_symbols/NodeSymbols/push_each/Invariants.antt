use Rattle.std.proofs.Common.{◌≡◌, ◌++◌, ◌-◌}
use Rattle.rl_markers.specs.NodeSymbols.{between}
use Rattle.rl_markers.proofs.node_symbols.NodeSymbols.push_each.Given as goal

abbrev pub invariant-ids : goal.invariant-ids
invariant-ids l =
    l.out.items ++ between l.self l.id (l.end - l.id) ≡ l.initial.out.items ++ between l.self l.start (l.end - l.start)
