use Rattle.std.proofs.Common.{◌≡◌, drop}
use Rattle.rl_lint.specs.Clear.{are_clear_from}
use Rattle.rl_lint.specs.Tables.{tables}
use Rattle.rl_lint.proofs.clear.are_clear_nodes.Given as goal

abbrev pub invariant-nodes : goal.invariant-nodes
invariant-nodes l = are_clear_from l.hints (tables l.bindings) l.index (drop l.index l.nodes)
    ≡ are_clear_from l.hints (tables l.bindings) 0 l.nodes
