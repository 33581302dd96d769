use Rattle.std.proofs.Common.{◌≡◌, Bool, map, drop}
use Rattle.rl_model.specs.Code.{contains}
use Rattle.rl_names.specs.Seen.{seen}
use Rattle.rl_orderly.specs.Patterns.{are_orderly}
use Rattle.rl_syntax.specs.Syntax.{Syntax, syntax}
use Rattle.rl_orderly.proofs.orderly.are_orderly_patterns.Given as goal

abbrev pub invariant-patterns : goal.invariant-patterns
invariant-patterns l =
    are_orderly (seen l.variables.names) (contains l.opens.list.items)
    (map {B = Bool × Syntax} (λ p. (p.0, syntax p.1.now)) (drop l.pattern-index l.patterns))
    ≡ are_orderly (seen l.variables.names) (contains l.opens.list.items) (map {B = Bool × Syntax} (λ p. (p.0, syntax p.1.now)) l.patterns)
