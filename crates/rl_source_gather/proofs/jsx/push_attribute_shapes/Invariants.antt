use Rattle.std.proofs.Common.{◌≡◌, ◌++◌, map}
use Rattle.rl_syntax.specs.Sizes.{size_of}
use Rattle.rl_syntax.specs.Syntax.{pieces_of, syntax}
use Rattle.rl_model.specs.Shapes.{attribute_shapes}
use Rattle.rl_source_gather.proofs.jsx.push_attribute_shapes.Given as goal

abbrev pub decreases-attributes : goal.decreases-attributes
decreases-attributes l = size_of (pieces_of (map syntax l.left.trees.now))

abbrev pub invariant-attributes : goal.invariant-attributes
invariant-attributes l =
    l.texts ++ attribute_shapes (pieces_of (map syntax l.left.trees.now))
    ≡ l.initial.texts ++ attribute_shapes (pieces_of (map syntax l.attributes.trees.now))
