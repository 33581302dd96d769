use Rattle.std.proofs.Common.{◌≡◌, ◌++◌, map}
use Rattle.rl_syntax.specs.Sizes.{size_of}
use Rattle.rl_syntax.specs.Syntax.{pieces_of, syntax}
use Rattle.rl_model.specs.Shapes.{quasis}
use Rattle.rl_source_shapes.proofs.shapes.push_quasis.Given as goal

abbrev pub decreases-quasis : goal.decreases-quasis
decreases-quasis l = size_of (pieces_of (map syntax l.left.trees.now))

abbrev pub invariant-quasis : goal.invariant-quasis
invariant-quasis l = l.texts ++ quasis (pieces_of (map syntax l.left.trees.now)) ≡ l.initial.texts ++ quasis (pieces_of (map syntax l.quasis.trees.now))
