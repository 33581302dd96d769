-- Lines of traces: no two traces have one.
use Rattle.std.proofs.Common.{◌≡◌, ℕ, List, ◌++◌, codes, inl, sym, ◌∙◌}
use Rattle.std.proofs.lemmas.List.{append_cancel_right}
use Rattle.react_lower.specs.Traced.{IsCompared}
use Rattle.rl_unit.specs.Lines.{trace_line}
use Rattle.rl_machine.specs.declared.trace.Trace.{Trace}
use Rattle.rl_text.specs.Notation.{spelling}
use Rattle.rl_trace_text.proofs.ReadBack.{only_trace}
use Rattle.rl_trace_text.specs.Trees.{trace_tree}

-- Traces with one line are one.
same_lines : (source graph : Trace) → trace_line source ≡ trace_line graph → source ≡ graph
same_lines source graph same =
    only_trace graph source (append_cancel_right (spelling (trace_tree source)) (spelling (trace_tree graph)) (codes "\n") same)

-- The lines of two traces whose lines are equal.
pub compared_same : (source graph : Trace) (first second text : List ℕ) → first ≡ trace_line source → second ≡ trace_line graph
    → first ≡ second → text ≡ first ++ second ++ codes "same\n" → IsCompared source graph text
compared_same source graph first second text by_source by_graph same written =
    inl (same_lines source graph (sym by_source ∙ same ∙ by_graph), written ∙ (λ i. by_source i ++ by_graph i ++ codes "same\n"))
