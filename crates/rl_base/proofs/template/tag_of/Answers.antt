use Rattle.std.proofs.Common.{Some, lit<}
use Rattle.std.proofs.lemmas.Str.Pattern.{split_once_first}
use Rattle.rl_base.proofs.template.tag_of.Goals as goal

pub returns-in-Some : goal.returns-in-Some
returns-in-Some c =
    (split_once_first 58 c.args.word.now (Some (c.in-Some.tag, c.in-Some._name)) c.in-Some.ensures.cases (lit< tt)).1
