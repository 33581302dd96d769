use Rattle.std.proofs.Common.{arith}
use Rattle.rl_grammar.proofs.Counts.{four_of}
use Rattle.rl_grammar.proofs.Viewing.{four_fit}
use Rattle.rl_grammar.proofs.parts.four.Goals as goal

pub returns-clause-fit : goal.returns-clause-fit
returns-clause-fit c =
    four_fit _ _ _ _ _ (four_of c.args.parts.now _ _ _ _ (omega (arith, c.in-len4.len_at_least, c.in-len4.len_below)) c.a-item.is c.b-item.is c.c-item.is c.d-item.is)
