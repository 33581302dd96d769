-- An `if` statement with an empty branch, as moves of the builder.
use Rattle.std.specs.Prelude.{ℕ, ◌+◌, None}
use Rattle.rl_builder.specs.Builder.{State, completed_by, entered, new_block, reserved}
use Rattle.rl_hir.specs.declared.function.BlockKind.TheVariants as kinds
use Rattle.rl_hir.specs.declared.instruction.Place.{Place}
use Rattle.rl_hir.specs.declared.terminal.GotoVariant.TheVariants as variants
use Rattle.rl_hir.specs.declared.terminal.Terminal.{Terminal}
use Rattle.rl_hir.specs.declared.terminal.TerminalKind.TheVariants as ends

-- Goes on in the block behind a construct.
abbrev pub goto : (block : ℕ) → Terminal
goto block = record { order = record { 0 = 0 }; span = None; kind = ends.Goto (record { 0 = block }) variants.Break }

-- Goes to `consequent` or to `after`, and on in `after`.
abbrev pub branch : Place → (consequent after : ℕ) → Terminal
branch test consequent after = record { order = record { 0 = 0 }; span = None; kind = ends.If test (record { 0 = consequent }) (record { 0 = after }) (record { 0 = after }) }

-- The current block ends by an `if` whose branch is an empty block, and the block behind it is current. Both are fresh.
abbrev pub with_empty_if : State → Place → State
with_empty_if s test =
    let behind = s.env.next_block in
    completed_by (completed_by (entered (reserved (reserved s)) (new_block (behind + 1) kinds.Block)) (goto behind) s.current) (branch test (behind + 1) behind) (new_block behind kinds.Block)
