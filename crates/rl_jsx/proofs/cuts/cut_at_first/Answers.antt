use Rattle.std.proofs.lemmas.Str.Pattern.{split_parts}
use Rattle.rl_jsx.proofs.Marked.{first-cut}
use Rattle.rl_jsx.proofs.cuts.cut_at_first.Goals as goal

pub returns : goal.returns
returns c = first-cut c.args.mark c.args.text.now c.split_once.result (split_parts c.args.mark c.args.text.now c.split_once.result c.split_once.ensures.cases c.requires)
