-- Lines that the commands write.
use Rattle.std.specs.Prelude.{ℕ, List, ◌++◌, codes}
use Rattle.rl_machine.specs.declared.trace.Trace.{Trace}
use Rattle.rl_text.specs.Notation.{spelling}
use Rattle.rl_trace_text.specs.Trees.{trace_tree}

-- The line of a trace.
abbrev pub trace_line : Trace → List ℕ
trace_line t = spelling (trace_tree t) ++ codes "\n"

-- The line of a number that names no function.
abbrev pub no_function : List ℕ
no_function = codes "No such function\n"
