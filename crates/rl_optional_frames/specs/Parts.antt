-- The moves of a default and of a link of an optional chain, as functions of the builder's states between their holes.
use Rattle.std.specs.Prelude.{ℕ, ◌+◌, Option, Some, None}
use Rattle.rl_base.specs.declared.ids.BlockId.{BlockId}
use Rattle.rl_base.specs.declared.operator.BinaryOperator.TheVariants as operator
use Rattle.rl_base.specs.declared.span.Span.{Span}
use Rattle.rl_builder.specs.Builder.{State, completed_by, entered, new_block, reserved, with_temporary}
use Rattle.rl_builder.specs.declared.blocks.WipBlock.{WipBlock}
use Rattle.rl_builder.specs.Temporaries.{temporary, with_value}
use Rattle.rl_frames.specs.Parts.{chain_reserved, link_begun}
use Rattle.rl_hir.specs.declared.function.BlockKind.{BlockKind}
use Rattle.rl_hir.specs.declared.function.BlockKind.TheVariants as block
use Rattle.rl_hir.specs.declared.instruction.InstructionValue.TheVariants as values
use Rattle.rl_hir.specs.declared.instruction.Place.{Place}
use Rattle.rl_hir.specs.declared.instruction.PrimitiveValue.TheVariants as primitives
use Rattle.rl_hir.specs.declared.terminal.GotoVariant.TheVariants as gotos
use Rattle.rl_hir.specs.declared.terminal.Terminal.{Terminal}
use Rattle.rl_hir.specs.declared.terminal.TerminalKind.TheVariants as kinds
use Rattle.rl_runs.specs.Moves.{block_id, branch, ends_by, last_hole, next_hole, stored_in}

-- A default: the place of the value is made, and the blocks of the test and behind it are numbered.
abbrev pub default_reserved : State → (span : Span) → State
default_reserved s span = reserved (reserved (with_temporary s (Some span)))

-- The hole of the default opens.
abbrev pub default_begun : State → (span : Span) → State
default_begun s span = entered (reserved (default_reserved s span)) (new_block (s.env.next_block + 1 + 1) block.Value)

-- The hole of the default ends with its value. In the other block the place takes the value itself.
abbrev pub default_given : State → (behind : ℕ) → (place default : Place) → (span : Span) → State
default_given s behind place default span = next_hole (stored_in s place default span) behind gotos.Break span block.Value

-- The block in which it does.
abbrev pub default_other : State → (place default : Place) → (span : Span) → ℕ
default_other s place default span = (stored_in s place default span).env.next_block

abbrev pub default_end : (test behind : ℕ) → Span → Terminal
default_end test behind span = ends_by (kinds.Ternary (block_id test) (block_id behind)) (Some span)

-- The place has taken the value itself, and the test begins.
abbrev pub default_begins : State → (test : WipBlock) → (behind : ℕ) → (place value : Place) → (span : Span) → (outer : WipBlock) → State
default_begins s test behind place value span outer =
    completed_by (last_hole (stored_in s place value span) behind gotos.Break span outer) (default_end test.id.0 behind span) test

abbrev pub default_test : State → (test behind : ℕ) → (place default value : Place) → (span : Span) → (outer : WipBlock) → State
default_test s test behind place default value span outer =
    default_begins (default_given s behind place default span) (new_block test block.Value) behind place value span outer

-- A value is compared with undefined.
abbrev pub undefined_made : State → (span : Span) → State
undefined_made s span = with_value s (values.Primitive primitives.Undefined) (Some span)

abbrev pub compared : State → (value : Place) → (span : Span) → State
compared s value span =
    with_value (undefined_made s span) (values.BinaryExpression operator.StrictEquality value (temporary s (Some span))) (Some span)

-- The place of the answer.
abbrev pub comparison : State → (span : Span) → Place
comparison s span = temporary (undefined_made s span) (Some span)

-- The whole ends.
abbrev pub default_finished : State → (test behind consequent : ℕ) → (kind : BlockKind) → (place default value : Place) → (span : Span)
    → (outer : WipBlock) → State
default_finished s test behind consequent kind place default value span outer =
    let x : State = default_test s test behind place default value span outer in
    completed_by (compared x value span)
    (branch (comparison x span) consequent (default_other s place default span) behind span) (new_block behind kind)

-- A link of an optional chain. In a new block the chain ends early: `place` takes undefined, and the run goes on in block `behind`.
abbrev pub made_early_end : State → (place : Place) → (behind : ℕ) → Span → State
made_early_end s place behind span =
    last_hole
    (stored_in (undefined_made (entered (reserved s) (new_block s.env.next_block block.Value)) span) place
    (temporary s (Some span)) span) behind gotos.Break span s.current

-- The block in which the chain ends early is the one that is given, or else a new one.
abbrev pub early_ended : (alternate : Option BlockId) → State → (place : Place) → (behind : ℕ) → Span → State
early_ended None s place behind span = made_early_end s place behind span
early_ended (Some given) s place behind span = s

abbrev pub early_block : (alternate : Option BlockId) → State → BlockId
early_block None s = block_id s.env.next_block
early_block (Some given) s = given

-- The blocks behind the link and of the link are numbered, its place is made, and the chain has an early end.
abbrev pub link_reserved : (alternate : Option BlockId) → State → Span → State
link_reserved alternate s span = early_ended alternate (chain_reserved s span) (temporary s (Some span)) s.env.next_block span

-- The hole of the object or callee opens.
abbrev pub link_opened : (alternate : Option BlockId) → State → Span → State
link_opened alternate s span = link_begun (link_reserved alternate s span)
