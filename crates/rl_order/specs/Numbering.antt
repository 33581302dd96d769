-- The evaluation orders of instructions and terminals.
use Rattle.std.specs.Prelude.{ℕ, ◌+◌, ◌<◌, ◌^◌, All, Some, None, List, [], ◌∷◌, length, slice_get, slice_set}
use Rattle.rl_base.specs.declared.ids.InstructionId.{InstructionId}
use Rattle.rl_hir.specs.Blocks.{Pair}
use Rattle.rl_hir.specs.Terminals.{with_order}
use Rattle.rl_hir.specs.declared.instruction.Instruction.{Instruction}

-- The table with an order for the instruction at an index; past its end nothing changes.
abbrev pub ordered_at : (order : ℕ) → (index : ℕ) → List Instruction → List Instruction
ordered_at order index table = elim (slice_get table index) [
  | Some i ↦ slice_set table index (record i { order = record { 0 = order } })
  | None ↦ table
]

-- The table with consecutive orders from `order` on for the listed instructions.
abbrev pub ordered_list : (order : ℕ) → List InstructionId → List Instruction → List Instruction
ordered_list order [] table = table
ordered_list order (id ∷ ids) table = ordered_list (order + 1) ids (ordered_at order id.0 table)

-- The first order of the next block, where those of a block begin with `order`.
abbrev pub order_after : (order : ℕ) → Pair → ℕ
order_after order p = order + length p.1.instructions + 1

-- The block whose terminal has the order after those of its instructions.
abbrev pub ordered_block : (order : ℕ) → Pair → Pair
ordered_block order p = (p.0, record p.1 { terminal = with_order (order + length p.1.instructions) p.1.terminal })

-- The blocks with orders for their terminals, from `order` on: in block order, first those of a block's instructions, and then its
-- terminal's.
abbrev pub ordered_blocks : (order : ℕ) → List Pair → List Pair
ordered_blocks order [] = []
ordered_blocks order (p ∷ pairs) = ordered_block order p ∷ ordered_blocks (order_after order p) pairs

-- The instruction table with the orders that blocks give, from `order` on.
abbrev pub ordered_table : (order : ℕ) → List Pair → List Instruction → List Instruction
ordered_table order [] table = table
ordered_table order (p ∷ pairs) table = ordered_table (order_after order p) pairs (ordered_list order p.1.instructions table)

-- The number of orders that blocks take: one for each listed instruction and one for each terminal.
abbrev pub orders_of : List Pair → ℕ
orders_of [] = 0
orders_of (p ∷ pairs) = length p.1.instructions + 1 + orders_of pairs

-- Listed instructions lie in a table of this length, and listed instructions and blocks together are fewer than 2^32.
pub record HaveOrders (table : ℕ) (pairs : List Pair) : Type 0 where
  pub within : All (λ (p : Pair). All (λ (id : InstructionId). id.0 < table) p.1.instructions) pairs
  pub room : orders_of pairs < 2 ^ 32
