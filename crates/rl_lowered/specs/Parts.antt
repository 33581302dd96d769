-- Parts of jumps and of loops that may be absent.
use Rattle.std.specs.Prelude.{Some, None}
use Rattle.rl_base.specs.declared.span.Span.{Span}
use Rattle.rl_model.specs.Actions.{Label}
use Rattle.rl_syntax.specs.Syntax.{Syntax, Absent, Said, span_of}

-- The label of a jump as a part of its node.
abbrev pub label_part : Label → Syntax
label_part None = Absent
label_part (Some label) = Said label

-- The span of a part of a loop, or that of the loop where the part is absent.
abbrev pub part_span : (loop : Span) → Syntax → Span
part_span loop Absent = loop
part_span loop part = span_of part
