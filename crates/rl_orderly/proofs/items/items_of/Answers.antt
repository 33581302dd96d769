use Rattle.std.proofs.Common.{map, ap}
use Rattle.rl_names.specs.Seen.{seen}
use Rattle.rl_orderly.proofs.Itemising.{whole_some}
use Rattle.rl_orderly.specs.Items.{item_of}
use Rattle.rl_syntax.specs.Syntax.{syntax}
use Rattle.rl_orderly.proofs.items.items_of.Goals as goal

pub returns-in_ok-push_list-in-Some : goal.returns-in_ok-push_list-in-Some
returns-in_ok-push_list-in-Some c =
    whole_some (seen c.args.variables.now.names) (syntax c.args.pattern.now) _ _ (map item_of c.new-found.result.items) _
    (ap (map item_of) c.new-found.ensures.items) c.in-Some.ensures c.in_ok-push_list-in-Some.ensures
