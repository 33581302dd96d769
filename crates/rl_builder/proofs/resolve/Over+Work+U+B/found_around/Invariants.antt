use Rattle.std.proofs.Common.{◌≡◌}
use Rattle.rl_builder.specs.Builder.{state_of}
use Rattle.rl_builder.specs.FunctionNames.{found_among}
use Rattle.rl_resolver.specs.Around.{ancestors, outward}
use Rattle.rl_builder.proofs.resolve.Over+Work+U+B.found_around.Given as goal

-- The symbol that is found among the scopes that are left is the one among all.
abbrev pub invariant-scopes : goal.invariant-scopes
invariant-scopes g l =
    (goal.iterator-scopes g).can_next l.scopes × (goal.iterator-scopes g).is_finite l.scopes ×
    (found_among (state_of g.U.ReadsUnit.tables l.self) l.name (outward l.scopes.scopes.now l.scopes.most l.scopes.next) ≡ found_among (state_of g.U.ReadsUnit.tables l.self) l.name (ancestors (state_of g.U.ReadsUnit.tables l.self).semantic.bindings.scopes l.fn.scope))
