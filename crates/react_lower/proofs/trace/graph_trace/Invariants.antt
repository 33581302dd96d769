use Rattle.react_lower.proofs.trace.graph_trace.Given as goal

abbrev pub ghosts-graph_trace_by : goal.ghosts-graph_trace_by
ghosts-graph_trace_by a = record { name = a.blank.name; parts = a.blank.parts }
