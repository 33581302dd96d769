use Rattle.frame_tests.proofs.FormulaGraphs.{both_of}
use Rattle.frame_tests.proofs.graph.graph_of_both.Goals as goal

pub graph_of-requires-clause-built : goal.graph_of-requires-clause-built
graph_of-requires-clause-built g c given =
    both_of (record { start = 0; end = 0 }) _ given c.in_ok-left.left.value c.in_ok-right.right.value c.in_ok-part.part.value
    c.in_ok-left.ensures.ok c.in_ok-right.ensures.ok c.in_ok-part.ensures.ok
