use Rattle.rl_jsx.proofs.Marked.{last-cut}
use Rattle.rl_jsx.proofs.cuts.cut_at_last.Goals as goal

pub returns : goal.returns
returns c = last-cut c.args.mark c.args.text.now c.rsplit_once.result c.requires c.rsplit_once.ensures.cases
