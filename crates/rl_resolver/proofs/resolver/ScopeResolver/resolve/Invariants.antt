use Rattle.std.proofs.Common.{◌≡◌}
use Rattle.rl_bindings.specs.Symbols.{resolve}
use Rattle.rl_resolver.specs.Around.{ancestors, outward}
use Rattle.rl_resolver.proofs.resolver.ScopeResolver.resolve.Given as goal

abbrev pub invariant-scopes : goal.invariant-scopes
invariant-scopes l =
    (goal.iterator-scopes).can_next l.scopes × (goal.iterator-scopes).is_finite l.scopes ×
    (resolve l.self.semantic.now.bindings.symbols (outward l.scopes.scopes.now l.scopes.most l.scopes.next) l.name ≡ resolve l.self.semantic.now.bindings.symbols (ancestors l.self.semantic.now.bindings.scopes l.fn.scope) l.name)
