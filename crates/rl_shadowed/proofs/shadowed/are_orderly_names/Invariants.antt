use Rattle.std.proofs.Common.{◌≡◌, map, drop}
use Rattle.std.specs.List.{list_all}
use Rattle.rl_model.specs.Orderly.{is_orderly_name}
use Rattle.rl_names.specs.Seen.{seen}
use Rattle.rl_shadowed.specs.Shadowed.{is_shadowed_by}
use Rattle.rl_syntax.specs.Syntax.{syntax}
use Rattle.rl_shadowed.proofs.shadowed.are_orderly_names.Given as goal

abbrev pub invariant-nodes : goal.invariant-nodes
invariant-nodes l =
    let b = l.variables.names.resolver.now.semantic.now.bindings in
    let is_orderly = is_orderly_name (is_shadowed_by b.names b.scopes b.symbols (seen l.variables.names)) in
    list_all is_orderly (map (λ t. syntax t.now) (drop l.node-index l.nodes)) ≡ list_all is_orderly (map (λ t. syntax t.now) l.nodes)
