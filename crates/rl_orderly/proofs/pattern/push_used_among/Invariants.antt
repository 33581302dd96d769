use Rattle.std.proofs.Common.{◌≡◌, ◌++◌, map, drop}
use Rattle.rl_model.specs.Code.{flat}
use Rattle.rl_model.specs.Orderly.{used_at}
use Rattle.rl_names.specs.Seen.{seen}
use Rattle.rl_syntax.specs.Syntax.{syntax}
use Rattle.rl_orderly.proofs.pattern.push_used_among.Given as goal

abbrev pub invariant-nodes : goal.invariant-nodes
invariant-nodes l =
    l.out.items ++ flat (used_at (seen l.variables.names) l.tags.list.items) (map (λ t. syntax t.now) (drop l.node-index l.nodes))
    ≡ l.initial.out.items ++ flat (used_at (seen l.variables.names) l.tags.list.items) (map (λ t. syntax t.now) l.nodes)
