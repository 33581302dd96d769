-- The instructions that blocks list, between two states: each that was made since is listed once, and no other is listed anew.
use Rattle.std.specs.Prelude.{◌≡◌, ℕ, ◌+◌, ◌≤◌, false, if◌then◌else◌, ◌&&◌, nat_le, nat_lt, nat_eq, ◌++◌}
use Rattle.std.specs.Prelude.{List, [], ◌∷◌, All, length, map}
use Rattle.rl_builder.specs.Builder.{State}
use Rattle.rl_builder.specs.Dropped.{is_function_expression}
use Rattle.rl_hir.specs.Blocks.{Pair as BlockPair}
use Rattle.rl_hir.specs.Numbered.{listed_in}
use Rattle.rl_hir.specs.declared.instruction.Instruction.{Instruction}
use Rattle.rl_order.specs.Numbering.{orders_of}
use Rattle.rl_runs.specs.Listed.{AreBelow}

-- The indices that completed blocks and the current one list.
abbrev pub all_listed : State → List ℕ
all_listed s = listed_in s.completed ++ map (λ id. id.0) s.current.instructions

-- The places at which the number stands in the list, counted.
abbrev pub occurrences : ℕ → List ℕ → ℕ
occurrences n [] = 0
occurrences n (m ∷ ms) = (if nat_eq n m then 1 else 0) + occurrences n ms

-- 1 of a number from `first` on below `end`, else 0.
abbrev pub one_within : (first end : ℕ) → ℕ → ℕ
one_within first end n = if nat_le first n && nat_lt n end then 1 else 0

-- Blocks list indices into the instruction table.
pub record ListsTable (s : State) : Type 0 where
  pub completed : All (λ (b : BlockPair). AreBelow (length s.table) b.1.instructions) s.completed
  pub current : AreBelow (length s.table) s.current.instructions

-- Each instruction that was made since is listed once more than before, and the numbers that blocks take grow as the table and the blocks
-- do. No instruction has an order yet or makes a function, and no completed block has predecessors.
pub record ListsSince (old new : State) : Type 0 where
  pub longer : length old.table ≤ length new.table
  pub within : ListsTable old → ListsTable new
  pub once : (n : ℕ) → occurrences n (all_listed new) ≡ occurrences n (all_listed old) + one_within (length old.table) (length new.table) n
  pub counted :
      orders_of new.completed + length new.current.instructions + (length old.table + length old.completed)
      ≡ orders_of old.completed + length old.current.instructions + (length new.table + length new.completed)
  pub unordered : All (λ (i : Instruction). i.order.0 ≡ 0) old.table → All (λ (i : Instruction). i.order.0 ≡ 0) new.table
  pub no_functions : All (λ (i : Instruction). is_function_expression i.value ≡ false) old.table
      → All (λ (i : Instruction). is_function_expression i.value ≡ false) new.table
  pub predecessors : All (λ (b : BlockPair). b.1.preds ≡ []) old.completed → All (λ (b : BlockPair). b.1.preds ≡ []) new.completed
