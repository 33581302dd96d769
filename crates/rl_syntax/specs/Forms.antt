-- The sign of an absent part.
use Rattle.std.specs.Prelude.{Bool, true, false}
use Rattle.rl_syntax.specs.Syntax.{Syntax, Absent}

-- True of `-`.
abbrev pub is_absent : Syntax → Bool
is_absent Absent = true
is_absent _ = false
