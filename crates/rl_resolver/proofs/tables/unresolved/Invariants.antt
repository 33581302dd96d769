use Rattle.std.proofs.Common.{◌≡◌, ◌++◌, drop}
use Rattle.rl_resolver.specs.Listed.{unresolved_in}
use Rattle.rl_resolver.proofs.tables.unresolved.Given as goal

abbrev pub invariant-loop-reference : goal.invariant-loop-reference
invariant-loop-reference l = l.pairs ++ unresolved_in (drop l.reference-index l.references) ≡ unresolved_in l.references
