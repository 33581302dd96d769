use Rattle.std.proofs.Common.{◌≡◌}
use Rattle.rl_bindings.specs.Symbols.{resolve as stands_for}
use Rattle.rl_resolver.specs.Around.{ancestors, outward}
use Rattle.rl_lint.proofs.shadowing.resolve.Given as goal

abbrev pub decreases-scopes : goal.decreases-scopes
decreases-scopes l = l.left

abbrev pub invariant-scopes : goal.invariant-scopes
invariant-scopes l = stands_for l.bindings.symbols (outward l.bindings.scopes l.left l.next) l.name
    ≡ stands_for l.bindings.symbols (ancestors l.bindings.scopes l.fn.scope) l.name
