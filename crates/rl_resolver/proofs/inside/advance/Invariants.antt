use Rattle.std.proofs.Common.{◌≡◌}
use Rattle.rl_resolver.specs.Containing.{functions_out}
use Rattle.rl_resolver.proofs.inside.advance.Given as goal

abbrev pub decreases-out : goal.decreases-out
decreases-out l = l.left

abbrev pub invariant-out : goal.invariant-out
invariant-out l = functions_out l.nodes l.left l.at ≡ functions_out l.nodes l.most l.fn.node
