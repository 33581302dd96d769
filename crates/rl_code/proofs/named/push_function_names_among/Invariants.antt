use Rattle.std.proofs.Common.{◌≡◌, ◌++◌, map, drop}
use Rattle.rl_model.specs.Code.{function_names_at, flat}
use Rattle.rl_names.specs.Seen.{seen}
use Rattle.rl_syntax.specs.Syntax.{syntax}
use Rattle.rl_code.proofs.named.push_function_names_among.Given as goal

abbrev pub invariant-nodes : goal.invariant-nodes
invariant-nodes l =
    l.out.items ++ flat (function_names_at (seen l.variables.names).declared) (map (λ t. syntax t.now) (drop l.node-index l.nodes))
    ≡ l.initial.out.items ++ flat (function_names_at (seen l.variables.names).declared) (map (λ t. syntax t.now) l.nodes)
