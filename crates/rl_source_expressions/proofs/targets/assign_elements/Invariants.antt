use Rattle.std.proofs.Common.{◌≡◌, map}
use Rattle.rl_grammar.specs.Fields.{maybe}
use Rattle.rl_source_expressions.proofs.Targeted.{left_to}
use Rattle.rl_source_stack.specs.States.{state_of}
use Rattle.rl_syntax.specs.Sizes.{size_of}
use Rattle.rl_syntax.specs.Syntax.{pieces_of, syntax}
use Rattle.rl_source_expressions.proofs.targets.assign_elements.Given as goal

abbrev pub decreases-items : goal.decreases-items
decreases-items l = size_of (pieces_of (map syntax l.left.trees.now))

abbrev pub invariant-items : goal.invariant-items
invariant-items l =
    left_to (state_of l.run) l.pieces (maybe l.rest (λ t. syntax t.tree.now)) (pieces_of (map syntax l.left.trees.now))
    ≡ left_to (state_of l.initial.run) l.pieces (maybe l.rest (λ t. syntax t.tree.now)) (pieces_of (map syntax l.items.trees.now))
