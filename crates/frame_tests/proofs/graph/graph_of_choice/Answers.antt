use Rattle.frame_tests.proofs.FormulaGraphs.{choice_of}
use Rattle.frame_tests.proofs.graph.graph_of_choice.Goals as goal

pub graph_of-requires-clause-built : goal.graph_of-requires-clause-built
graph_of-requires-clause-built g c given =
    choice_of (record { start = 0; end = 0 }) _ _ given c.in_ok-test.test.value c.in_ok-consequent.consequent.value
    c.in_ok-alternate.alternate.value c.in_ok-left.left.value c.in_ok-right.right.value c.in_ok-test.ensures.ok
    c.in_ok-consequent.ensures.ok c.in_ok-alternate.ensures.ok c.in_ok-left.ensures.ok c.in_ok-right.ensures.ok
