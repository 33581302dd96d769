use Rattle.std.proofs.Common.{◌≡◌, map, drop}
use Rattle.rl_model.specs.Dead.{has_default}
use Rattle.rl_syntax.specs.Syntax.{pieces_of, syntax}
use Rattle.rl_dead.proofs.parts.has_default.Given as goal

abbrev pub invariant-cases : goal.invariant-cases
invariant-cases l =
    has_default (pieces_of (map syntax (drop l.case-index l.cases))) ≡ has_default (pieces_of (map syntax l.cases))
