use Rattle.std.proofs.Common.{◌≡◌, ◌++◌, map}
use Rattle.rl_syntax.specs.Sizes.{size_of}
use Rattle.rl_syntax.specs.Syntax.{pieces_of, syntax}
use Rattle.rl_model.specs.Shapes.{shapes}
use Rattle.rl_source_shapes.proofs.shapes.push_shapes.Given as goal

abbrev pub decreases-parts : goal.decreases-parts
decreases-parts l = size_of (pieces_of (map syntax l.left))

abbrev pub invariant-parts : goal.invariant-parts
invariant-parts l = l.texts ++ shapes (pieces_of (map syntax l.left)) ≡ l.initial.texts ++ shapes (pieces_of (map syntax l.parts))
