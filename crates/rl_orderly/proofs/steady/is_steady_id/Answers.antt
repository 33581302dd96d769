use Rattle.std.proofs.Common.{map}
use Rattle.rl_names.specs.Seen.{seen}
use Rattle.rl_orderly.proofs.Steadiness.{steady_said}
use Rattle.rl_syntax.specs.Syntax.{pieces_of, syntax}
use Rattle.rl_orderly.proofs.steady.is_steady_id.Goals as goal

pub returns-in-Some : goal.returns-in-Some
returns-in-Some c =
    steady_said (seen c.args.variables.now.names) c.args.assigned.now.list.items c.args.at (pieces_of (map syntax c.args.parts.now))
    c.in-Some._name.now c.is_steady_reference.result c.in-Some.ensures (c.is_steady_reference.ensures c.in-Some._name.now)
