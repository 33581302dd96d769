-- Steps of the numbering of blocks.
use Rattle.std.proofs.Common.{◌≡◌, ℕ, ◌+◌, ◌<◌, List, [], ◌∷◌, ◌++◌, length, get_or, take, drop, slice_set, All, append-nil, arith, subst, ◌≤◌, ap, ◌∙◌, sym, refl}
use Rattle.std.proofs.lemmas.List.{drop_all, take_all}
use Rattle.std.proofs.lemmas.Option.{slice_get-get_or}
use Rattle.rl_base.specs.declared.ids.InstructionId.{InstructionId}
use Rattle.rl_hir.specs.Blocks.{Pair, with_block_at}
use Rattle.rl_hir.specs.Terminals.{with_order}
use Rattle.rl_hir.specs.declared.function.BasicBlock.{BasicBlock}
use Rattle.rl_hir.specs.declared.instruction.Instruction.{Instruction}
use Rattle.rl_order.proofs.TakenBlocks.{IsReplaced, first_is, one_more}
use Rattle.rl_order.specs.Numbering.{ordered_at, ordered_blocks, ordered_list, ordered_table, orders_of}

-- Inside the table the instruction is changed in place.
pub ordered_at-within : (order index : ℕ) (table : List Instruction) (d : Instruction) → index < length table → ordered_at order index table ≡ slice_set table index (record (get_or table index d) { order = record { 0 = order } })
ordered_at-within order index table d within = rw (ordered_at, slice_get-get_or table index d within) refl

-- The block with the order after those of its instructions, which begin with `order`.
abbrev pub marked : ℕ → BasicBlock → BasicBlock
marked order block = record block { terminal = with_order (order + length block.instructions) block.terminal }

-- The block was put, with the order of its terminal counted from the last order before it.
pub put_marked : (now after : List Pair) (index last : ℕ) (old new : BasicBlock)
    → new ≡ record old { terminal = with_order (last + length old.instructions + 1) old.terminal } → after ≡ with_block_at now index new
    → after ≡ with_block_at now index (marked (last + 1) old)
put_marked now after index last old new is put =
    let order : last + length old.instructions + 1 ≡ last + 1 + length old.instructions = omega arith in
    put ∙ ap (λ (b : BasicBlock). with_block_at now index b) (is ∙ ap (λ n. record old { terminal = with_order n old.terminal }) order)

module _ (now after : List Pair) (index next next1 : ℕ) (old : BasicBlock) (r : IsReplaced now after index old (marked next old)) (ends : next1 ≡ next + length old.instructions + 1) where
  pub blocks_step : take (index + 1) after ++ ordered_blocks next1 (drop (index + 1) after) ≡ take index now ++ ordered_blocks next (drop index now)
  blocks_step =
      ap (λ (t : List Pair). t ++ ordered_blocks next1 (drop (index + 1) after)) r.done
      ∙ ap (λ (t : List Pair). (take index now ++ (r.id, marked next old) ∷ []) ++ ordered_blocks next1 t) r.rest
      ∙ ap (λ n. (take index now ++ (r.id, marked next old) ∷ []) ++ ordered_blocks n (drop (index + 1) now)) ends
      ∙ one_more (take index now) (r.id, marked next old) (ordered_blocks (next + length old.instructions + 1) (drop (index + 1) now))
      ∙ ap (λ (t : List Pair). take index now ++ ordered_blocks next t) (sym r.before)

  pub table_step : (table table1 : List Instruction) → table1 ≡ ordered_list next old.instructions table → ordered_table next1 (drop (index + 1) after) table1 ≡ ordered_table next (drop index now) table
  table_step table table1 is =
      ap (λ (t : List Pair). ordered_table next1 t table1) r.rest
      ∙ ap (λ n. ordered_table n (drop (index + 1) now) table1) ends
      ∙ ap (λ (t : List Instruction). ordered_table (next + length old.instructions + 1) (drop (index + 1) now) t) is
      ∙ ap (λ (t : List Pair). ordered_table next t table) (sym r.before)

  pub room_step : next1 + orders_of (drop (index + 1) after) ≡ next + orders_of (drop index now)
  room_step =
      let first : orders_of (drop (index + 1) after) ≡ orders_of (drop (index + 1) now) = ap orders_of r.rest in
      let second : orders_of (drop index now) ≡ length old.instructions + 1 + orders_of (drop (index + 1) now) = ap orders_of r.before in
      omega (arith, first, second, ends)

-- The requirement of the numbering of a block follows from that of all blocks.
pub listed_within : (bound : ℕ) (pairs now after : List Pair) (index : ℕ) (old new : BasicBlock) → IsReplaced now after index old new → drop index now ≡ drop index pairs → index < length pairs
    → All (λ (p : Pair). All (λ (id : InstructionId). id.0 < bound) p.1.instructions) pairs → All (λ (id : InstructionId). id.0 < bound) old.instructions
listed_within bound pairs now after index old new r same within all =
    let first : get_or pairs index (r.id, old) ≡ (r.id, old) = first_is pairs (drop (index + 1) now) index (r.id, old) (r.id, old) (sym same ∙ r.before) in
    subst (λ (p : Pair). All (λ (id : InstructionId). id.0 < bound) p.1.instructions) first (all index (r.id, old) within)

-- At the end of the blocks all are numbered, and the table is that of all of them.
pub all_marked : (first pairs : List Pair) (before table : List Instruction) (index next : ℕ) → length pairs ≤ index
    → take index pairs ++ ordered_blocks next (drop index pairs) ≡ ordered_blocks 1 first
    → ordered_table next (drop index pairs) table ≡ ordered_table 1 first before
    → (pairs ≡ ordered_blocks 1 first) × (table ≡ ordered_table 1 first before)
all_marked first pairs before table index next end blocks marked =
    let rest : drop index pairs ≡ [] = drop_all index pairs (omega (arith, end)) in (
      sym (append-nil pairs)
          ∙ ap (λ (left : List Pair). left ++ ordered_blocks next []) (sym (take_all index pairs (omega (arith, end))))
          ∙ ap (λ (left : List Pair). take index pairs ++ ordered_blocks next left) (sym rest)
          ∙ blocks,
      ap (λ (left : List Pair). ordered_table next left table) (sym rest) ∙ marked,
    )
