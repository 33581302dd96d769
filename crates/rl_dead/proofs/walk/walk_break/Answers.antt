use Rattle.std.proofs.Common.{map, refl}
use Rattle.rl_dead.proofs.Statements.{no_break}
use Rattle.rl_syntax.specs.Syntax.{pieces_of, syntax}
use Rattle.rl_dead.proofs.walk.walk_break.Goals as goal

pub returns-in-None : goal.returns-in-None
returns-in-None c = no_break c.args.jumps.now _ (pieces_of (map syntax c.args.parts.now)) c.in-None.ensures refl refl
