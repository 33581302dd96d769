use Rattle.std.proofs.Common.{arith}
use Rattle.rl_grammar.proofs.Counts.{six_of}
use Rattle.rl_grammar.proofs.Viewing.{six_fit}
use Rattle.rl_grammar.proofs.parts.six.Goals as goal

pub returns-clause-fit : goal.returns-clause-fit
returns-clause-fit c =
    six_fit _ _ _ _ _ _ _ (six_of c.args.parts.now _ _ _ _ _ _ (omega (arith, c.in-len6.len_at_least, c.in-len6.len_below)) c.a-item.is c.b-item.is c.c-item.is c.d-item.is c.e-item.is c.f-item.is)
