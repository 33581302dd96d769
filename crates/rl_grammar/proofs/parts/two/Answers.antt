use Rattle.std.proofs.Common.{arith}
use Rattle.rl_grammar.proofs.Counts.{two_of}
use Rattle.rl_grammar.proofs.Viewing.{two_fit}
use Rattle.rl_grammar.proofs.parts.two.Goals as goal

pub returns-clause-fit : goal.returns-clause-fit
returns-clause-fit c =
    two_fit _ _ _ (two_of c.args.parts.now _ _ (omega (arith, c.in-len2.len_at_least, c.in-len2.len_below)) c.a-item.is c.b-item.is)
