use Rattle.std.proofs.Common.{◌&&◌, map, ap, ◌∙◌}
use Rattle.std.specs.List.{list_all}
use Rattle.rl_model.specs.Code.{assigned_in, flat}
use Rattle.rl_model.specs.Orderly.{is_orderly_name, is_orderly_node}
use Rattle.rl_names.specs.Seen.{seen}
use Rattle.rl_shadowed.specs.Shadowed.{is_shadowed_by}
use Rattle.rl_syntax.specs.Syntax.{syntax}
use Rattle.rl_orderly.proofs.orderly.has_orderly_nodes.Goals as goal

pub returns : goal.returns
returns c =
    let n = seen c.args.variables.now.names in
    let b = c.args.variables.now.names.resolver.now.semantic.now.bindings in
    let named = is_orderly_name (is_shadowed_by b.names b.scopes b.symbols n) in
    let nodes = map (λ t. syntax t.now) c.in_ok-nodes.nodes.items in
    let all = flat (assigned_in n) (map (λ t. syntax t.now) c.args.functions.now) in
    c.in_ok-result.ensures
    ∙ ap (λ l. list_all (is_orderly_node n l) nodes && list_all named nodes) (c.in_ok-assigned.ensures ∙ c.in_ok-list.ensures)
    ∙ ap (λ ns. list_all (is_orderly_node n all) ns && list_all named ns) c.in_ok-nodes.ensures
