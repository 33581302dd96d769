use Rattle.std.proofs.Common.{◌≡◌, ◌++◌}
use Rattle.rl_resolver.specs.Around.{ancestors, outward}
use Rattle.rl_shadowed.proofs.shadowed.scopes_around.Given as goal

abbrev pub invariant-scopes : goal.invariant-scopes
invariant-scopes l =
    (goal.iterator-scopes).can_next l.scopes × (goal.iterator-scopes).is_finite l.scopes
    × (l.found.items ++ outward l.scopes.scopes.now l.scopes.most l.scopes.next ≡ ancestors l.resolver.semantic.now.bindings.scopes l.fn.scope)
