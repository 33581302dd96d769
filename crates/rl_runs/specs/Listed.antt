-- Blocks under construction: the instructions that they list, orders and predecessors.
use Rattle.std.specs.Prelude.{◌≡◌, ℕ, false, ◌+◌, ◌<◌, ◌++◌, List, [], All, length, map}
use Rattle.rl_base.specs.declared.ids.InstructionId.{InstructionId}
use Rattle.rl_base.specs.Distinct.{AreDistinct}
use Rattle.rl_builder.specs.Builder.{State}
use Rattle.rl_builder.specs.Dropped.{is_function_expression}
use Rattle.rl_hir.specs.Numbered.{listed_in}
use Rattle.rl_order.specs.Numbering.{orders_of}

-- All indices are below `bound`.
abbrev pub AreBelow : (bound : ℕ) → List InstructionId → Type 0
AreBelow bound ids = All (λ id. id.0 < bound) ids

-- Blocks list indices into the instruction table, each of them once. No instruction has an order yet or makes a function, and no
-- completed block has predecessors.
pub record IsListed (s : State) : Type 0 where
  pub completed : All (λ b. AreBelow (length s.table) b.1.instructions) s.completed
  pub current : AreBelow (length s.table) s.current.instructions
  pub counted : orders_of s.completed + length s.current.instructions ≡ length s.table + length s.completed
  pub once : AreDistinct (listed_in s.completed ++ map (λ id. id.0) s.current.instructions)
  pub unordered : All (λ i. i.order.0 ≡ 0) s.table
  pub no_functions : All (λ i. is_function_expression i.value ≡ false) s.table
  pub predecessors : All (λ b. b.1.preds ≡ []) s.completed
