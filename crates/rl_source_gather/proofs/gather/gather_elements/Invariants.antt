use Rattle.std.proofs.Common.{◌≡◌, map}
use Rattle.rl_syntax.specs.Sizes.{size_of}
use Rattle.rl_syntax.specs.Syntax.{pieces_of, syntax}
use Rattle.rl_source_stack.specs.Controls.{from}
use Rattle.rl_source_stack.specs.Parts.{gathering}
use Rattle.rl_source_stack.specs.States.{state_of}
use Rattle.rl_source_gather.proofs.gather.gather_elements.Given as goal

abbrev pub decreases-elements : goal.decreases-elements
decreases-elements l = size_of (pieces_of (map syntax l.next.trees.now))

abbrev pub invariant-elements : goal.invariant-elements
invariant-elements l =
    from (gathering (state_of l.run).scene l.what (pieces_of (map syntax l.next.trees.now)) l.given) (state_of l.run)
    ≡ from (gathering (state_of l.initial.run).scene l.what (pieces_of (map syntax l.left.trees.now)) l.given)
    (state_of l.initial.run)
