use Rattle.std.proofs.Common.{not, ap, ◌∙◌}
use Rattle.rl_names.specs.Seen.{seen}
use Rattle.rl_orderly.proofs.Steadiness.{assigned_none, unassigned_local}
use Rattle.rl_orderly.proofs.steady.is_steady_reference.Goals as goal

pub returns-in-Some : goal.returns-in-Some
returns-in-Some c name =
    ap not c.has.ensures
    ∙ unassigned_local c.args.assigned.now.list.items ((seen c.args.variables.now.names).meaning c.args.reference.0 name) c.in-Some.symbol (c.in-Some.ensures name)

pub returns-in-None : goal.returns-in-None
returns-in-None c name =
    assigned_none c.args.assigned.now.list.items ((seen c.args.variables.now.names).meaning c.args.reference.0 name) (c.in-None.ensures name)
