use Rattle.std.proofs.Common.{map}
use Rattle.rl_markers.proofs.Listing.{catch_listed}
use Rattle.rl_markers.specs.Lists.{seen}
use Rattle.rl_syntax.specs.Syntax.{pieces_of, syntax}
use Rattle.rl_markers.proofs.lists.+listing.Goals as goal

pub push_node-returns-in-Some-catch_list : goal.push_node-returns-in-Some-catch_list
push_node-returns-in-Some-catch_list t c =
    catch_listed c.args.at c.args.word (pieces_of (map syntax c.args.parts.now))
    (pieces_of (map syntax c.in-Some-catch_list.statements.now)) (syntax c.in-Some-catch_list.param.now) (map seen c.args.out.now.items) _ _ _
    c.in-Some-catch_list.ensures c.in_ok-push_list-2.ensures c.in_ok-push_lists.ensures c.in_ok-push_among-2.ensures
