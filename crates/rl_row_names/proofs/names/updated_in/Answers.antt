use Rattle.std.proofs.Common.{map}
use Rattle.rl_row_names.proofs.Named.{target_some}
use Rattle.rl_syntax.specs.Syntax.{pieces_of, syntax}
use Rattle.rl_row_names.proofs.names.updated_in.Goals as goal

pub returns-in-Some : goal.returns-in-Some
returns-in-Some c =
    target_some (pieces_of (map syntax c.args.parts.now)) (syntax c.in-Some.target.now) _ c.in-Some.ensures c.id_in.ensures
