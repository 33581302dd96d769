use Rattle.std.proofs.Common.{rules}
use Rattle.rl_lint.proofs.Sorting.{listed_by_place}
use Rattle.rl_lint.proofs.lint.sort.Goals as goal

pub returns : goal.returns
returns c =
    listed_by_place c.args.found.now.items c.sort_by_key.new.self.items c.in_ok-sort_by_key.ensures.permutation
    c.in_ok-sort_by_key.ensures.sorted (λ a r q k. search rules)
