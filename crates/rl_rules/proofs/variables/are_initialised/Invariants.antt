use Rattle.std.proofs.Common.{◌≡◌, map, drop}
use Rattle.rl_syntax.specs.Syntax.{pieces_of, syntax}
use Rattle.rl_rules.specs.Variables.{are_initialised}
use Rattle.rl_rules.proofs.variables.are_initialised.Given as goal

abbrev pub invariant-declarators : goal.invariant-declarators
invariant-declarators l = are_initialised l.bare (pieces_of (map syntax (drop l.declarator-index l.declarators))) ≡ are_initialised l.bare (pieces_of (map syntax l.declarators))
