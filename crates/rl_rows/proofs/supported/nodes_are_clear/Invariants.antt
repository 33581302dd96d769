use Rattle.std.proofs.Common.{◌≡◌, map, drop}
use Rattle.std.specs.List.{list_all}
use Rattle.rl_rows.specs.Clean.{clear_node}
use Rattle.rl_syntax.specs.Syntax.{syntax}
use Rattle.rl_rows.proofs.supported.nodes_are_clear.Given as goal

abbrev pub invariant-nodes : goal.invariant-nodes
invariant-nodes g l =
    list_all (clear_node (g.F.RowFacts.facts l.facts)) (map (λ t. syntax t.now) (drop l.node-index l.nodes))
    ≡ list_all (clear_node (g.F.RowFacts.facts l.facts)) (map (λ t. syntax t.now) l.nodes)
