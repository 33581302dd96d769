-- The steps of loops over keys and values, between two states.
use Rattle.std.specs.Prelude.{◌≡◌, ℕ, ◌≤◌, ◌⊎◌, Some, slice_get}
use Rattle.rl_builder.specs.Builder.{State}
use Rattle.rl_hir.specs.declared.instruction.Instruction.{Instruction}
use Rattle.rl_runs.specs.Blocks.{WasNumbered}
use Rattle.rl_runs.specs.StepNotes.{KeepsStepless, KnowsListed, StepIn}

-- Instructions stay. Steps of loops stand in blocks alone that were numbered since, and at none of the blocks where none may stand.
pub record KeepsStepsApart (old new : State) : Type 0 where
  pub grows : old.env.next_block ≤ new.env.next_block
  pub table : (number : ℕ) (i : Instruction) → slice_get old.table number ≡ Some i → slice_get new.table number ≡ Some i
  pub listed : KnowsListed old → KnowsListed new
  pub since : KnowsListed old → (id : ℕ) → StepIn new id → StepIn old id ⊎ WasNumbered old.env.next_block new.env.next_block id
  pub keeps : KeepsStepless old new
