use Rattle.std.proofs.Common.{◌≡◌}
use Rattle.rl_lint.specs.Rules.{least, other_among}
use Rattle.rl_resolver.specs.Around.{ancestors, outward}
use Rattle.rl_lint.proofs.taken.other_around.Given as goal

abbrev pub decreases-scopes : goal.decreases-scopes
decreases-scopes l = l.left

abbrev pub invariant-scopes : goal.invariant-scopes
invariant-scopes l =
    least l.found (other_among l.bindings.symbols l.own l.name (outward l.bindings.scopes l.left l.next))
    ≡ other_among l.bindings.symbols l.own
    l.name (ancestors l.bindings.scopes l.fn.scope)
