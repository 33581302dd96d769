use Rattle.std.proofs.Common.{arith}
use Rattle.rl_grammar.proofs.Counts.{three_of}
use Rattle.rl_grammar.proofs.Viewing.{three_fit}
use Rattle.rl_grammar.proofs.parts.three.Goals as goal

pub returns-clause-fit : goal.returns-clause-fit
returns-clause-fit c =
    three_fit _ _ _ _ (three_of c.args.parts.now _ _ _ (omega (arith, c.in-len3.len_at_least, c.in-len3.len_below)) c.a-item.is c.b-item.is c.c-item.is)
