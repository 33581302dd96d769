use Rattle.rl_markers.proofs.Opening.{list_marked}
use Rattle.rl_markers.specs.Lists.{seen as seen_list}
use Rattle.rl_markers.specs.Named.{tables}
use Rattle.rl_names.specs.Seen.{seen}
use Rattle.rl_markers.proofs.marking.mark_list.Goals as goal

pub returns : goal.returns
returns c =
    list_marked (tables c.args.variables.now) (seen c.args.variables.now.names) c.in_ok-opened.opened.list.items c.args.marks.now.items _
    (seen_list c.args.list) c.in_ok-opened.ensures c.in_ok-mark_statements.ensures
