-- Values that go into fresh identifiers (`lowerValueToTemporary`).
use Rattle.std.specs.Prelude.{Option, length}
use Rattle.rl_base.specs.declared.span.Span.{Span}
use Rattle.rl_builder.specs.Builder.{State, with_temporary, pushed}
use Rattle.rl_hir.specs.declared.instruction.Place.{Place}
use Rattle.rl_hir.specs.declared.instruction.Instruction.{Instruction}
use Rattle.rl_hir.specs.declared.instruction.InstructionValue.{InstructionValue}

-- The place of the next identifier.
abbrev pub temporary : State → Option Span → Place
temporary s span = record { identifier = record { 0 = length s.env.identifiers }; span = span }

-- An instruction whose order is not set yet.
abbrev pub unordered : Place → InstructionValue → Option Span → Instruction
unordered place value span = record { order = record { 0 = 0 }; lvalue = place; value = value; span = span }

-- Appends an instruction that puts a value into a fresh identifier.
abbrev pub with_value : State → InstructionValue → Option Span → State
with_value s value span = pushed (with_temporary s span) (unordered (temporary s span) value span)
