-- The moves of a `switch` statement, the parts that its frame holds between its calls, and what the frame makes of the runs of its holes.
use Rattle.std.specs.Prelude.{ℕ, ◌+◌, ◌||◌, Bool, true, false, is_some, Option, Some, None, unwrap_or}
use Rattle.std.specs.Prelude.{List, [], ◌∷◌, ◌++◌, reverse}
use Rattle.std.specs.Option.{option_map}
use Rattle.rl_base.specs.declared.span.Span.{Span}
use Rattle.rl_builder.specs.Builder.{State, completed_by, entered, new_block, placeholder, reserved, with_scope}
use Rattle.rl_builder.specs.declared.blocks.WipBlock.{WipBlock}
use Rattle.rl_builder.specs.declared.jumps.JumpScope.TheVariants as scope
use Rattle.rl_frames.specs.declared.switch_frame.SwitchFrame.{SwitchFrame}
use Rattle.rl_hir.specs.declared.function.BlockKind.TheVariants as block
use Rattle.rl_hir.specs.declared.instruction.Place.{Place}
use Rattle.rl_hir.specs.declared.terminal.Case.{Case}
use Rattle.rl_hir.specs.declared.terminal.GotoVariant.TheVariants as gotos
use Rattle.rl_hir.specs.declared.terminal.Terminal.{Terminal}
use Rattle.rl_hir.specs.declared.terminal.TerminalKind.TheVariants as kinds
use Rattle.rl_machine.specs.Machine.{default_case}
use Rattle.rl_model.specs.Actions.{Label}
use Rattle.rl_runs.specs.Moves.{block_id, ends_by, last_hole, without_scope}

-- The block behind the statement is numbered.
abbrev pub switch_begun : State → State
switch_begun s = reserved s

-- The block to which the statements before these cases fall through: that of the first of them, or the one behind the statement.
abbrev pub fall_of : (behind : ℕ) → List Case → ℕ
fall_of behind [] = behind
fall_of behind (k ∷ cases) = k.block.0

-- The block of a case is numbered, and the hole of its statements opens.
abbrev pub case_begun : State → Label → (behind : ℕ) → State
case_begun s own behind =
    with_scope (entered (reserved s) (new_block s.env.next_block block.Block)) (scope.Switch own (block_id behind))

-- The hole of a case's statements ends, and falls through.
abbrev pub case_ended : State → (fall : ℕ) → (outer : WipBlock) → (part : Span) → State
case_ended s fall outer part = last_hole (without_scope s) fall gotos.Break part outer

-- The cases; one more goes behind the statement where none is the default.
abbrev pub with_default : (has_default : Bool) → List Case → (behind : ℕ) → List Case
with_default true cases behind = cases
with_default false cases behind = cases ++ record { test = None; block = block_id behind } ∷ []

abbrev pub switch_end : (behind : ℕ) → List Case → (value : Place) → Span → Terminal
switch_end behind cases value span =
    ends_by (kinds.Switch value (with_default (is_some (default_case cases)) cases behind) (block_id behind)) (Some span)

-- The hole of the value ends.
abbrev pub switch_finished : State → (behind : ℕ) → List Case → (value : Place) → Span → State
switch_finished s behind cases value span = completed_by s (switch_end behind cases value span) (new_block behind block.Block)

-- The parts of a `SwitchFrame`. The cases stand from the last to the first; `fall` is the block to which the next hole falls through, and
-- `block` that of the case whose hole was opened last.
pub record SwitchParts : Type 0 where
  pub span : Span
  pub label : Label
  pub behind : WipBlock
  pub cases : List Case
  pub has_default : Bool
  pub fall : ℕ
  pub block : ℕ
  pub outer : Option WipBlock

abbrev pub switch_of : SwitchFrame → SwitchParts
switch_of f = record {
  span = f.span;
  label = f.label;
  behind = f.behind;
  cases = f.cases.items;
  has_default = f.has_default;
  fall = f.fall.0;
  block = f.block.0;
  outer = option_map (λ o. o.block) f.outer;
}

-- The parts behind the cases `cases`, of which the last was lowered first.
abbrev pub switch_at : State → (span : Span) → Label → (cases : List Case) → SwitchParts
switch_at s span own cases = record {
  span = span;
  label = own;
  behind = new_block s.env.next_block block.Block;
  cases = reverse cases;
  has_default = is_some (default_case cases);
  fall = fall_of s.env.next_block cases;
  block = fall_of s.env.next_block cases;
  outer = None;
}

abbrev pub switch_entered : SwitchParts → State → State
switch_entered f s = case_begun s f.label f.behind.id.0

abbrev pub switch_after_enter : SwitchParts → State → SwitchParts
switch_after_enter f s = record f { block = s.env.next_block; outer = Some s.current }

abbrev pub switch_left : SwitchParts → State → (part : Span) → State
switch_left f s part = case_ended s f.fall (unwrap_or f.outer placeholder) part

abbrev pub switch_after_leave : SwitchParts → SwitchParts
switch_after_leave f = record f { outer = None }

abbrev pub is_default : (test : Option Place) → Bool
is_default None = true
is_default (Some place) = false

abbrev pub switch_after_done : SwitchParts → (test : Option Place) → SwitchParts
switch_after_done f test = record f {
  cases = f.cases ++ record { test = test; block = block_id f.block } ∷ [];
  has_default = is_default test || f.has_default;
  fall = f.block;
}

abbrev pub switch_ended : SwitchParts → State → (value : Place) → State
switch_ended f s value =
    completed_by s (ends_by (kinds.Switch value (with_default f.has_default (reverse f.cases) f.behind.id.0) f.behind.id) (Some f.span))
    f.behind
