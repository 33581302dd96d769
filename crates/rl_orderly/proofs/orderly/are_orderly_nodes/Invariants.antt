use Rattle.std.proofs.Common.{◌≡◌, map, drop}
use Rattle.std.specs.List.{list_all}
use Rattle.rl_model.specs.Orderly.{is_orderly_node}
use Rattle.rl_names.specs.Seen.{seen}
use Rattle.rl_syntax.specs.Syntax.{syntax}
use Rattle.rl_orderly.proofs.orderly.are_orderly_nodes.Given as goal

abbrev pub invariant-nodes : goal.invariant-nodes
invariant-nodes l =
    list_all (is_orderly_node (seen l.variables.names) l.assigned.list.items) (map (λ t. syntax t.now) (drop l.node-index l.nodes))
    ≡ list_all (is_orderly_node (seen l.variables.names) l.assigned.list.items) (map (λ t. syntax t.now) l.nodes)
