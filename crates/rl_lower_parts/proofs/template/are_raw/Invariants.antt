use Rattle.std.proofs.Common.{◌≡◌, map}
use Rattle.rl_syntax.specs.Sizes.{size_of}
use Rattle.rl_syntax.specs.Syntax.{pieces_of, syntax}
use Rattle.rl_model.specs.Shapes.{are_raw}
use Rattle.rl_lower_parts.proofs.template.are_raw.Given as goal

abbrev pub decreases-quasis : goal.decreases-quasis
decreases-quasis l = size_of (pieces_of (map syntax l.left.trees.now))

abbrev pub invariant-quasis : goal.invariant-quasis
invariant-quasis l = are_raw (pieces_of (map syntax l.left.trees.now)) ≡ are_raw (pieces_of (map syntax l.quasis.trees.now))
