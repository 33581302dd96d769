use Rattle.rl_text.specs.Raw.{tree}
use Rattle.rl_trace_text.proofs.NoValues.{no_value}
use Rattle.rl_trace_text.proofs.read.ValueFromTree.from_tree.Goals as goal

pub returns-clause-none : goal.returns-clause-none
returns-clause-none c = no_value (tree c.args.raw.now)
    (rw c.in_default.is at c.in_ok-from_node.ensures.none)
    (rw c.in_default-2.is at c.in_ok-from_node-2.ensures.none)
    (rw c.in_default-3.is at c.in_ok-flag.ensures.none)
    (rw c.in_default-4.is at c.in_ok-number.ensures.none)
    (rw c.in_default-5.is at c.in_ok-text.ensures.none)
    (rw c.in_default-6.is at c.in_ok-number-2.ensures.none)
