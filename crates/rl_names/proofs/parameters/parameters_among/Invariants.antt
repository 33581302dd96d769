use Rattle.std.proofs.Common.{◌≡◌, ◌++◌, map}
use Rattle.rl_names.specs.Names.{parameters_among as among}
use Rattle.rl_names.specs.Seen.{seen}
use Rattle.rl_syntax.specs.Sizes.{size_of}
use Rattle.rl_syntax.specs.Syntax.{pieces_of, syntax}
use Rattle.rl_names.proofs.parameters.parameters_among.Given as goal

abbrev pub decreases-parameters : goal.decreases-parameters
decreases-parameters l = size_of (pieces_of (map syntax l.left.trees.now))

-- The parameters, and those that are left, are all parameters.
abbrev pub invariant-parameters : goal.invariant-parameters
invariant-parameters l = l.parameters ++ among (seen l.names) (pieces_of (map syntax l.left.trees.now)) ≡ among (seen l.names) (pieces_of (map syntax l.trees.trees.now))
