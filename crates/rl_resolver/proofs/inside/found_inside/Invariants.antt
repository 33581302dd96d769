use Rattle.std.proofs.Common.{◌≡◌, ◌-◌, drop, length}
use Rattle.rl_resolver.specs.Inside.{found_from}
use Rattle.rl_resolver.proofs.inside.found_inside.Given as goal

abbrev pub decreases-scopes : goal.decreases-scopes
decreases-scopes l = length l.scopes - l.scope.0

abbrev pub invariant-scopes : goal.invariant-scopes
invariant-scopes l = found_from l.scopes l.symbols l.ancestor l.name l.scope.0 (drop l.scope.0 l.scopes) ≡ found_from l.scopes l.symbols l.ancestor l.name l.ancestor.0 (drop l.ancestor.0 l.scopes)
