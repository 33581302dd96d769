use Rattle.std.proofs.Common.{◌≡◌, ◌++◌, map}
use Rattle.rl_syntax.specs.Sizes.{size_of}
use Rattle.rl_syntax.specs.Syntax.{pieces_of, syntax}
use Rattle.rl_model.specs.Shapes.{child_shapes}
use Rattle.rl_source_stack.specs.States.{state_of}
use Rattle.rl_source_gather.proofs.jsx.push_child_shapes.Given as goal

abbrev pub decreases-children : goal.decreases-children
decreases-children l = size_of (pieces_of (map syntax l.left.trees.now))

abbrev pub invariant-children : goal.invariant-children
invariant-children l =
    l.texts ++ child_shapes (state_of l.run).scene (pieces_of (map syntax l.left.trees.now))
    ≡ l.initial.texts ++ child_shapes (state_of l.run).scene (pieces_of (map syntax l.children.trees.now))
