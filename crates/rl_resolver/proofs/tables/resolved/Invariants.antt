use Rattle.std.proofs.Common.{◌≡◌, ◌++◌, drop}
use Rattle.rl_resolver.specs.Listed.{resolved_from}
use Rattle.rl_resolver.proofs.tables.resolved.Given as goal

abbrev pub invariant-loop-reference : goal.invariant-loop-reference
invariant-loop-reference l = l.pairs ++ resolved_from l.number (drop l.reference-index l.references) ≡ resolved_from 0 l.references
