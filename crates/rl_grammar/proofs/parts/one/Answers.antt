use Rattle.std.proofs.Common.{arith}
use Rattle.rl_grammar.proofs.Counts.{one_of}
use Rattle.rl_grammar.proofs.Viewing.{one_fits}
use Rattle.rl_grammar.proofs.parts.one.Goals as goal

pub returns-clause-fit : goal.returns-clause-fit
returns-clause-fit c =
    one_fits _ _ (one_of c.args.parts.now _ (omega (arith, c.in-len1.len_at_least, c.in-len1.len_below)) c.a-item.is)
