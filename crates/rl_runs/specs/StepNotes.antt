-- Steps of loops: the blocks in which they stand.
use Rattle.std.specs.Prelude.{◌≡◌, ℕ, ◌<◌, ◌⊎◌, Some, List, [], ◌∷◌, length, slice_get}
use Rattle.rl_base.specs.declared.ids.BlockId.{BlockId}
use Rattle.rl_base.specs.declared.ids.InstructionId.{InstructionId}
use Rattle.rl_builder.specs.Builder.{State}
use Rattle.rl_hir.specs.Blocks.{Pair as BlockPair}
use Rattle.rl_hir.specs.declared.instruction.Instruction.{Instruction}
use Rattle.rl_hir.specs.declared.terminal.TerminalKind.{TerminalKind}
use Rattle.rl_hir.specs.declared.terminal.TerminalKind.TheVariants as kinds
use Rattle.rl_machine.specs.Prunes.{ReadsNote}
use Rattle.rl_runs.specs.Blocks.{IsOneOf, WasNumbered}
use Rattle.rl_runs.specs.ReadNotes.{MarkedAt}

-- A listed instruction reads the note of its block.
pub record HasStep (table : List Instruction) (listed : List InstructionId) : Type 0 where
  pub place : ℕ
  pub number : InstructionId
  pub instruction : Instruction
  pub at : slice_get listed place ≡ Some number
  pub kept : slice_get table number.0 ≡ Some instruction
  pub reads : ReadsNote instruction

-- A step stands in the complete block `id`.
pub record InDone (s : State) (id : ℕ) : Type 0 where
  pub block : BlockPair
  pub one : IsOneOf s.completed block
  pub named : block.0.0 ≡ id
  pub step : HasStep s.table block.1.instructions

-- A step stands in block `id`, complete or under construction.
abbrev pub StepIn : State → ℕ → Type 0
StepIn s id = InDone s id ⊎ ((s.current.id.0 ≡ id) × HasStep s.table s.current.instructions)

-- Listed ids are below the table's length.
abbrev pub AreIn : List Instruction → List InstructionId → Type 0
AreIn table listed = (place : ℕ) (number : InstructionId) → slice_get listed place ≡ Some number → number.0 < length table

pub record KnowsListed (s : State) : Type 0 where
  pub done : (block : BlockPair) → IsOneOf s.completed block → AreIn s.table block.1.instructions
  pub current : AreIn s.table s.current.instructions

-- The blocks at which no step of a loop may stand: the test of a `do`-`while` loop, whose note is no loop's with steps, and the blocks
-- behind constructs whose terminals `build` may replace.
abbrev pub stepless_of : TerminalKind → List BlockId
stepless_of (kinds.DoWhile body test fallthrough) = test ∷ fallthrough ∷ []
stepless_of (kinds.Try block binding handler fallthrough) = fallthrough ∷ []
stepless_of _ = []

-- No step stands at these blocks.
abbrev pub Stepless : State → Type 0
Stepless s = (id : ℕ) → MarkedAt stepless_of s.completed id → StepIn s id → ⊥

-- The blocks were numbered, and so were those of steps.
pub record KnowsStepless (s : State) : Type 0 where
  pub marked : (id : ℕ) → MarkedAt stepless_of s.completed id → id < s.env.next_block
  pub steps : (id : ℕ) → StepIn s id → id < s.env.next_block

-- Such blocks are those alone that were numbered since.
pub record KeepsStepless (old new : State) : Type 0 where
  pub marks : (id : ℕ) → MarkedAt stepless_of new.completed id
      → MarkedAt stepless_of old.completed id ⊎ WasNumbered old.env.next_block new.env.next_block id
  pub stepless : KnowsListed old → KnowsStepless old → Stepless old → Stepless new
