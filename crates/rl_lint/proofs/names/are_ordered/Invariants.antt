use Rattle.std.proofs.Common.{◌≡◌, drop}
use Rattle.rl_lint.specs.Lates.{are_ordered as in_order}
use Rattle.rl_lint.proofs.names.are_ordered.Given as goal

abbrev pub invariant-declarations : goal.invariant-declarations
invariant-declarations l = in_order l.least (drop l.declaration-index l.declarations) ≡ in_order 0 l.declarations
