use Rattle.std.proofs.Common.{◌≡◌, ◌++◌, map, drop}
use Rattle.rl_model.specs.Hoisting.{declared_among}
use Rattle.rl_names.specs.Seen.{seen}
use Rattle.rl_syntax.specs.Syntax.{pieces_of, syntax}
use Rattle.rl_markers.proofs.named.push_declarators.Given as goal

abbrev pub invariant-declarators : goal.invariant-declarators
invariant-declarators l =
    l.out.items ++ declared_among (seen l.variables.names) (pieces_of (map syntax (drop l.declarator-index l.declarators)))
    ≡ l.initial.out.items ++ declared_among (seen l.variables.names) (pieces_of (map syntax l.declarators))
