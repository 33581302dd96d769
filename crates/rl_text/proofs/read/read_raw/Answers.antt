use Rattle.std.proofs.Common.{length, ap, arith}
use Rattle.rl_text.proofs.Trees.{height-le-length}
use Rattle.rl_text.proofs.read.read_raw.Goals as goal

pub returns-clause-malformed : goal.returns-clause-malformed
returns-clause-malformed c e t spells =
    c.read_raw_within.ensures.malformed e t spells (omega (arith, height-le-length t, ap length spells.spelled))
