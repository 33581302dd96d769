use Rattle.std.proofs.Common.{◌≡◌}
use Rattle.std.specs.List.{list_any}
use Rattle.rl_resolver.specs.Around.{ancestors, outward}
use Rattle.rl_resolver.specs.Inside.{is_scope}
use Rattle.rl_resolver.proofs.inside.descends.Given as goal

abbrev pub invariant-outward : goal.invariant-outward
invariant-outward l =
    (goal.iterator-outward).can_next l.outward × (goal.iterator-outward).is_finite l.outward ×
    (list_any (is_scope l.ancestor) (outward l.outward.scopes.now l.outward.most l.outward.next) ≡ list_any (is_scope l.ancestor) (ancestors l.scopes l.fn.scope))
