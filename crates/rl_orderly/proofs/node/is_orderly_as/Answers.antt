use Rattle.std.proofs.Common.{map, ap, sym, ◌∙◌}
use Rattle.rl_names.specs.Seen.{seen}
use Rattle.rl_orderly.specs.Nodes.{orderly_as}
use Rattle.rl_syntax.specs.Syntax.{pieces_of, syntax}
use Rattle.rl_orderly.proofs.node.is_orderly_as.Goals as goal

pub returns-in-Call : goal.returns-in-Call
returns-in-Call c =
    let n = seen c.args.variables.now.names in
    let assigned = c.args.assigned.now.list.items in
    c.is_orderly_call.ensures n assigned ∙ ap (λ w. orderly_as n assigned w (pieces_of (map syntax c.args.parts.now))) (sym c.in-Call.is)

pub returns-in-Tagged : goal.returns-in-Tagged
returns-in-Tagged c =
    let n = seen c.args.variables.now.names in
    let assigned = c.args.assigned.now.list.items in
    c.is_orderly_tagged.ensures n assigned ∙ ap (λ w. orderly_as n assigned w (pieces_of (map syntax c.args.parts.now))) (sym c.in-Tagged.is)
