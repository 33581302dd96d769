-- The evaluation orders of a graph.
use Rattle.std.specs.Prelude.{◌≡◌, ℕ, ◌+◌, Option, Some, List, [], ◌∷◌, ◌++◌, Contains, map, slice_get}
use Rattle.std.specs.Option.{option_map}
use Rattle.rl_base.specs.declared.ids.InstructionId.{InstructionId}
use Rattle.rl_hir.specs.Blocks.{Pair}
use Rattle.rl_hir.specs.declared.instruction.Instruction.{Instruction}

-- The order of the instruction at an index into the table; None past its end.
abbrev pub order_at : List Instruction → InstructionId → Option ℕ
order_at table id = option_map (λ i. i.order.0) (slice_get table id.0)

-- The orders of blocks, in block order: those of a block's instructions, and then its terminal's.
abbrev pub orders_in : List Instruction → List Pair → List (Option ℕ)
orders_in table [] = []
orders_in table (p ∷ pairs) = map (λ id. order_at table id) p.1.instructions ++ Some p.1.terminal.order.0 ∷ orders_in table pairs

-- The indices into the instruction table that blocks list, in block order.
abbrev pub listed_in : List Pair → List ℕ
listed_in [] = []
listed_in (p ∷ pairs) = map (λ id. id.0) p.1.instructions ++ listed_in pairs

-- Orders count from 1 in block order.
pub record IsCounted (table : List Instruction) (pairs : List Pair) : Type 0 where
  pub in_order : (index : ℕ) (order : Option ℕ) → slice_get (orders_in table pairs) index ≡ Some order → order ≡ Some (index + 1)

-- Orders count from 1 in block order, and an instruction that no block lists has order 0.
pub record IsNumbered (table : List Instruction) (pairs : List Pair) : Type 0 where
  pub counted : IsCounted table pairs
  pub unlisted : (index : ℕ) (i : Instruction) → slice_get table index ≡ Some i → (Contains (listed_in pairs) index → ⊥) → i.order.0 ≡ 0
