use Rattle.std.proofs.Common.{arith}
use Rattle.rl_jsx.proofs.LineEnds.{ended-feed, ended-both, ended-return}
use Rattle.rl_jsx.proofs.lines.ending_end.Goals as goal

pub returns-then-text-at-eq10-clause-ended : goal.returns-then-text-at-eq10-clause-ended
returns-then-text-at-eq10-clause-ended c = ended-feed c.args.text.now c.args.at c.requires.within c.if-text-at-eq10.true

pub returns-then-next-text-clause-ended : goal.returns-then-next-text-clause-ended
returns-then-next-text-clause-ended c =
    ended-return c.args.text.now c.args.at c.requires.within c.requires.stopped c.if-text-at-eq10.false (λ lt e. absurd (omega (arith, lt, c.if-next-text.true)))

pub returns-then-text-next-eq10-clause-ended : goal.returns-then-text-next-eq10-clause-ended
returns-then-text-next-eq10-clause-ended c =
    ended-both c.args.text.now c.args.at (omega arith) c.requires.stopped c.if-text-at-eq10.false c.if-text-next-eq10.true

pub returns-clause-ended : goal.returns-clause-ended
returns-clause-ended c = ended-return c.args.text.now c.args.at c.requires.within c.requires.stopped c.if-text-at-eq10.false (λ lt e. c.if-text-next-eq10.false e)
