use Rattle.std.proofs.Common.{◌≡◌, ◌++◌, map, drop}
use Rattle.rl_model.specs.Code.{assigned_at, flat}
use Rattle.rl_names.specs.Seen.{seen}
use Rattle.rl_syntax.specs.Syntax.{syntax}
use Rattle.rl_code.proofs.assigned.push_assigned_among.Given as goal

abbrev pub invariant-nodes : goal.invariant-nodes
invariant-nodes l =
    l.out.items ++ flat (assigned_at (seen l.variables.names)) (map (λ t. syntax t.now) (drop l.node-index l.nodes))
    ≡ l.initial.out.items ++ flat (assigned_at (seen l.variables.names)) (map (λ t. syntax t.now) l.nodes)
