use Rattle.std.proofs.Common.{◌≡◌, ◌+◌, ◌*◌, ℕ, map}
use Rattle.rl_syntax.specs.Sizes.{size_of}
use Rattle.rl_syntax.specs.Syntax.{pieces_of, syntax}
use Rattle.rl_source_stack.specs.Controls.{from}
use Rattle.rl_source_stack.specs.Parts.{gathering}
use Rattle.rl_source_stack.specs.States.{state_of}
use Rattle.rl_source_stack.specs.declared.gather.Gather.{Gather}
use Rattle.rl_source_stack.specs.declared.gather.Gather.TheVariants as gather
use Rattle.rl_source_gather.proofs.gather.+gathering.Given as goal

-- The rows of parts that a construct has behind the one that it gathers.
abbrev rank : Gather → ℕ
rank (gather.Attributes tag attributes children) = 1
rank _ = 0

abbrev pub decreases-finish : goal.decreases-finish
decreases-finish l = 2 * rank l.what

abbrev pub decreases-gather_children : goal.decreases-gather_children
decreases-gather_children l = 2 * rank l.what + 1

abbrev pub decreases-gather_children-children : goal.decreases-gather_children-children
decreases-gather_children-children l = size_of (pieces_of (map syntax l.next.trees.now))

abbrev pub invariant-gather_children-children : goal.invariant-gather_children-children
invariant-gather_children-children l =
    from (gathering (state_of l.run).scene l.what (pieces_of (map syntax l.next.trees.now)) l.given) (state_of l.run)
    ≡ from (gathering (state_of l.initial.run).scene l.what (pieces_of (map syntax l.left.trees.now)) l.initial.given)
    (state_of l.initial.run)
