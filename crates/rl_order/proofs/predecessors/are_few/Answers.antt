use Rattle.rl_order.proofs.FewIds.{one_once}
use Rattle.rl_order.proofs.predecessors.are_few.Goals as goal

pub returns-in-len1 : goal.returns-in-len1
returns-in-len1 c _ = one_once c.args.ids.now c.in-len1.len_below
