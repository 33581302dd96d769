-- The function of a unit that is lowered.
use Rattle.std.specs.Prelude.{unwrap_or}
use Rattle.rl_ast.specs.Marked.{first, marked_functions}
use Rattle.rl_syntax.specs.Syntax.{Syntax, Absent}

-- The function that is lowered: the first marked function, in the order of the nodes; Absent in a tree without one.
abbrev pub marked : Syntax → Syntax
marked u = unwrap_or (first (marked_functions u)) Absent
