-- Moves around the parts of a construct: the hole of a part opens in a block of its own, ends with a jump, and the block that was set aside
-- goes on.
use Rattle.std.specs.Prelude.{ℕ, ◌-◌, Option, Some, List, length, take}
use Rattle.rl_base.specs.declared.ids.BlockId.{BlockId}
use Rattle.rl_base.specs.declared.span.Span.{Span}
use Rattle.rl_builder.specs.Builder.{State, completed_by, new_block, reserved}
use Rattle.rl_builder.specs.declared.blocks.WipBlock.{WipBlock}
use Rattle.rl_builder.specs.declared.jumps.JumpScope.{JumpScope}
use Rattle.rl_builder.specs.Temporaries.{with_value}
use Rattle.rl_hir.specs.declared.function.BlockKind.{BlockKind}
use Rattle.rl_hir.specs.declared.instruction.InstructionKind.TheVariants as variables
use Rattle.rl_hir.specs.declared.instruction.InstructionValue.TheVariants as values
use Rattle.rl_hir.specs.declared.instruction.Place.{Place}
use Rattle.rl_hir.specs.declared.terminal.GotoVariant.{GotoVariant}
use Rattle.rl_hir.specs.declared.terminal.ReturnVariant.{ReturnVariant}
use Rattle.rl_hir.specs.declared.terminal.Terminal.{Terminal}
use Rattle.rl_hir.specs.declared.terminal.TerminalKind.{TerminalKind}
use Rattle.rl_hir.specs.declared.terminal.TerminalKind.TheVariants as kinds

abbrev pub block_id : ℕ → BlockId
block_id id = record { 0 = id }

-- A terminal that has no order yet.
abbrev pub ends_by : TerminalKind → Option Span → Terminal
ends_by kind span = record { order = record { 0 = 0 }; span = span; kind = kind }

-- Goes on in a block.
abbrev pub goto : (block : ℕ) → GotoVariant → Span → Terminal
goto block variant span = ends_by (kinds.Goto (block_id block) variant) (Some span)

-- Goes to one of two blocks by a value, as the note at `fallthrough` tells.
abbrev pub branch : (test : Place) → (consequent alternate fallthrough : ℕ) → Span → Terminal
branch test consequent alternate fallthrough span =
    ends_by (kinds.Branch test (block_id consequent) (block_id alternate) (block_id fallthrough)) (Some span)

-- Returns the value of a place.
abbrev pub return_of : Option Span → ReturnVariant → Place → Terminal
return_of span variant place = ends_by (kinds.Return variant place) span

-- The current block ends by a return of `place`, and a fresh, unreachable block of kind `kind` goes on.
abbrev pub returned_from : State → Option Span → ReturnVariant → Place → BlockKind → State
returned_from s span variant place kind =
    completed_by (reserved s) (return_of span variant place) (new_block s.env.next_block kind)

-- The current block ends by a throw of the value of `place`, and a fresh, unreachable block of kind `kind` goes on.
abbrev pub threw_from : State → Span → Place → BlockKind → State
threw_from s span place kind =
    completed_by (reserved s) (ends_by (kinds.Throw place) (Some span)) (new_block s.env.next_block kind)

-- The hole in the current block ends with a jump to block `behind`, and that of a fresh block opens.
abbrev pub next_hole : State → (behind : ℕ) → GotoVariant → (part : Span) → BlockKind → State
next_hole s behind variant part kind = completed_by (reserved s) (goto behind variant part) (new_block s.env.next_block kind)

-- The hole in the current block ends with a jump to block `behind`, and the block that was set aside goes on.
abbrev pub last_hole : State → (behind : ℕ) → GotoVariant → (part : Span) → (outer : WipBlock) → State
last_hole s behind variant part outer = completed_by s (goto behind variant part) outer

-- The state without its innermost scope, and without its innermost handler.
abbrev pub without_scope : State → State
without_scope s = record s { scopes = take (length s.scopes - 1) s.scopes }

abbrev pub without_handler : State → State
without_handler s = record s { handlers = take (length s.handlers - 1) s.handlers }

-- The state with other stacks.
abbrev pub stacked : State → (scopes : List JumpScope) → (handlers : List BlockId) → State
stacked s scopes handlers = record s { scopes = scopes; handlers = handlers }

-- The state with another block under construction, and other stacks.
abbrev pub set_aside : State → WipBlock → (scopes : List JumpScope) → (handlers : List BlockId) → State
set_aside s wip scopes handlers = record s { current = wip; scopes = scopes; handlers = handlers }

-- A value goes into a place that was made before, for one of several ways on which it is computed.
abbrev pub stored_in : State → (place value : Place) → Span → State
stored_in s place value span = with_value s (values.StoreLocal variables.Const place value) (Some span)
