use Rattle.std.proofs.Common.{◌||◌, ap, ◌∙◌}
use Rattle.std.specs.BTreeSet.{contains_by}
use Rattle.std.specs.Ordering.{nat_cmp}
use Rattle.rl_code.proofs.Flagging.{eq_swapped}
use Rattle.rl_code.proofs.numbers.add.Goals as goal

pub returns : goal.returns
returns c n = c.in_ok-put.ensures n ∙ ap (λ b. contains_by (nat_cmp n) c.args.set.now || b) (eq_swapped c.args.number n)
