use Rattle.std.proofs.Common.{◌≡◌, drop}
use Rattle.std.specs.List.{list_any}
use Rattle.rl_lint.specs.Rules.{stands_before}
use Rattle.rl_lint.proofs.early.stands_before_any.Given as goal

abbrev pub invariant-lates : goal.invariant-lates
invariant-lates l = list_any (stands_before l.site) (drop l.late-index l.lates) ≡ list_any (stands_before l.site) l.lates
