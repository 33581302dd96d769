-- Orders count from 1 in block order, where blocks list each instruction once.
use Rattle.std.proofs.Common.{◌≡◌, ℕ, zero, suc, ◌+◌, ◌<◌, inl, inr, ◌++◌, List, [], ◌∷◌, All, Contains, length, map, slice_get}
use Rattle.std.proofs.Common.{slice_set, Option, Some, None, refl, sym, ap, ◌∙◌, subst, arith}
use Rattle.std.specs.Option.{option_map}
use Rattle.std.proofs.lemmas.List.{length-map, length-set}
use Rattle.std.proofs.lemmas.Option.{get_or_from_slice_get, slice_get_within}
use Rattle.rl_base.specs.Distinct.{AreDistinct}
use Rattle.rl_base.specs.declared.ids.InstructionId.{InstructionId}
use Rattle.rl_base.proofs.DistinctLists.{IsIn, contains_in, in_either, in_head, in_left, in_none, in_right, in_tail}
use Rattle.rl_base.proofs.DistinctLists.{distinct_apart, distinct_head, distinct_left, distinct_right, distinct_tail}
use Rattle.rl_hir.specs.Numbered.{IsCounted, IsNumbered, listed_in, order_at, orders_in}
use Rattle.rl_order.specs.Numbering.{ordered_at, ordered_list, order_after, ordered_blocks, ordered_table}
use Rattle.rl_hir.specs.Blocks.{Pair}
use Rattle.rl_hir.specs.declared.instruction.Instruction.{Instruction}

-- The indices into the instruction table that a block lists.
abbrev numbers : List InstructionId → List ℕ
numbers ids = map (λ (id : InstructionId). id.0) ids

-- A listed index is below a bound where all are.
pub numbers_below : (bound : ℕ) (ids : List InstructionId) → All (λ (id : InstructionId). id.0 < bound) ids → (n : ℕ)
    → IsIn (map (λ (id : InstructionId). id.0) ids) n → n < bound
numbers_below bound [] below n h = absurd (in_none n h)
numbers_below bound (id ∷ ids) below n h =
    by_index h.index h.found (numbers_below bound ids (λ index d within. below (suc index) d (omega arith)) n)
  where
    by_index : (index : ℕ) → slice_get (id.0 ∷ numbers ids) index ≡ Some n → (IsIn (numbers ids) n → n < bound) → n < bound
    by_index zero e rest = (let same : id.0 ≡ n = cc in omega (arith, same, below 0 id (omega arith)))
    by_index (suc index) e rest = rest (record { index = index; found = e })

-- The instruction with an order.
abbrev marked : ℕ → Instruction → Instruction
marked order i = record i { order = record { 0 = order } }

-- The order of the instruction at an index into the table.
abbrev order_in : List Instruction → ℕ → Option ℕ
order_in table index = option_map (λ (i : Instruction). i.order.0) (slice_get table index)

get_set_same : (table : List Instruction) (index : ℕ) (old new : Instruction) → slice_get table index ≡ Some old
    → slice_get (slice_set table index new) index ≡ Some new
get_set_same [] index old new is = absurd (cc)
get_set_same (i ∷ table) zero old new is = refl
get_set_same (i ∷ table) (suc index) old new is = get_set_same table index old new is

get_set_other : (table : List Instruction) (index other : ℕ) (new : Instruction) → (other ≡ index → ⊥)
    → slice_get (slice_set table index new) other ≡ slice_get table other
get_set_other [] index other new apart = refl
get_set_other (i ∷ table) zero zero new apart = absurd (apart refl)
get_set_other (i ∷ table) zero (suc other) new apart = refl
get_set_other (i ∷ table) (suc index) zero new apart = refl
get_set_other (i ∷ table) (suc index) (suc other) new apart =
    get_set_other table index other new (λ same. apart (ap (λ n. suc n) same))

get_within : (table : List Instruction) (index : ℕ) → index < length table → (i : Instruction) × (slice_get table index ≡ Some i)
get_within [] index within = absurd (omega arith)
get_within (i ∷ table) zero within = (i, refl)
get_within (i ∷ table) (suc index) within = get_within table index (omega arith)

-- Giving an order to the instruction at one index

at_same : (order index : ℕ) (table : List Instruction) → index < length table
    → order_in (ordered_at order index table) index ≡ Some order
at_same order index table within = by_item (slice_get table index) refl
  where
    by_item : (o : Option Instruction) → slice_get table index ≡ o
        → order_in (elim o [ Some i ↦ slice_set table index (marked order i) | None ↦ table ]) index ≡ Some order
    by_item None is = absurd (past (get_within table index within))
      where
        past : (i : Instruction) × (slice_get table index ≡ Some i) → ⊥
        past found = (let never : None ≡ Some found.0 = sym is ∙ found.1 in cc)
    by_item (Some i) is =
        ap (λ (o : Option Instruction). option_map (λ (j : Instruction). j.order.0) o)
        (get_set_same table index i (marked order i) is)

at_other : (order index : ℕ) (table : List Instruction) (other : ℕ) → (other ≡ index → ⊥)
    → order_in (ordered_at order index table) other ≡ order_in table other
at_other order index table other apart = by_item (slice_get table index)
  where
    by_item : (o : Option Instruction)
        → order_in (elim o [ Some i ↦ slice_set table index (marked order i) | None ↦ table ]) other ≡ order_in table other
    by_item None = refl
    by_item (Some i) =
        ap (λ (o : Option Instruction). option_map (λ (j : Instruction). j.order.0) o)
        (get_set_other table index other (marked order i) apart)

at_length : (order index : ℕ) (table : List Instruction) → length (ordered_at order index table) ≡ length table
at_length order index table = by_item (slice_get table index)
  where
    by_item : (o : Option Instruction)
        → length {A = Instruction} (elim o [ Some i ↦ slice_set table index (marked order i) | None ↦ table ]) ≡ length table
    by_item None = refl
    by_item (Some i) = length-set table index (marked order i)

-- Giving orders to the instructions of a list

list_other : (order : ℕ) (ids : List InstructionId) (table : List Instruction) (other : ℕ) → (IsIn (numbers ids) other → ⊥)
    → order_in (ordered_list order ids table) other ≡ order_in table other
list_other order [] table other apart = refl
list_other order (id ∷ ids) table other apart =
    list_other (order + 1) ids (ordered_at order id.0 table) other (λ h. apart (in_tail id.0 (numbers ids) other h))
    ∙ at_other order id.0 table other
    (λ same. apart (subst (λ n. IsIn (id.0 ∷ numbers ids) n) (sym same) (in_head id.0 (numbers ids))))

list_length : (order : ℕ) (ids : List InstructionId) (table : List Instruction)
    → length (ordered_list order ids table) ≡ length table
list_length order [] table = refl
list_length order (id ∷ ids) table = list_length (order + 1) ids (ordered_at order id.0 table) ∙ at_length order id.0 table

-- The table keeps its length.
pub table_length : (order : ℕ) (pairs : List Pair) (table : List Instruction) → length (ordered_table order pairs table) ≡ length table
table_length order [] table = refl
table_length order (p ∷ pairs) table = table_length (order_after order p) pairs (ordered_list order p.1.instructions table) ∙ list_length order p.1.instructions table

-- Orders that are there, and count from `first`.
record CountFrom (first : ℕ) (orders : List (Option ℕ)) : Type 0 where
  counted : (index : ℕ) (order : Option ℕ) → slice_get orders index ≡ Some order → order ≡ Some (index + first)

count_none : (first : ℕ) → CountFrom first []
count_none first = record { counted = λ index order is. absurd (cc) }

count_cons : (first : ℕ) (order : Option ℕ) (orders : List (Option ℕ)) → order ≡ Some first → CountFrom (first + 1) orders
    → CountFrom first (order ∷ orders)
count_cons first order orders here later = record { counted = by_index }
  where
    by_index : (index : ℕ) (o : Option ℕ) → slice_get (order ∷ orders) index ≡ Some o → o ≡ Some (index + first)
    by_index zero o is =
        let same : order ≡ o = cc in
        let start : first ≡ 0 + first = omega arith in
        sym same ∙ here ∙ ap (λ n. Some n) start
    by_index (suc index) o is =
        let moved : index + (first + 1) ≡ suc index + first = omega arith in
        later.counted index o is ∙ ap (λ n. Some n) moved

count_head : (first : ℕ) (order : Option ℕ) (orders : List (Option ℕ)) → CountFrom first (order ∷ orders) → order ≡ Some first
count_head first order orders c = let start : 0 + first ≡ first = omega arith in c.counted 0 order refl ∙ ap (λ n. Some n) start

count_tail : (first : ℕ) (order : Option ℕ) (orders : List (Option ℕ)) → CountFrom first (order ∷ orders)
    → CountFrom (first + 1) orders
count_tail first order orders c = record {
  counted = λ index o is.
      let moved : suc index + first ≡ index + (first + 1) = omega arith in
      c.counted (suc index) o is ∙ ap (λ n. Some n) moved;
}

count_append : (first next : ℕ) (xs ys : List (Option ℕ)) → first + length xs ≡ next → CountFrom first xs → CountFrom next ys
    → CountFrom first (xs ++ ys)
count_append first next [] ys ends cx cy = let same : next ≡ first = omega arith in subst (λ n. CountFrom n ys) same cy
count_append first next (x ∷ xs) ys ends cx cy =
    count_cons first x (xs ++ ys) (count_head first x xs cx)
    (count_append (first + 1) next xs ys (omega arith) (count_tail first x xs cx) cy)

-- The listed instructions have orders from `order` on in every table that agrees on them.
list_counts : (order : ℕ) (ids : List InstructionId) (table later : List Instruction) → AreDistinct (numbers ids)
    → ((n : ℕ) → IsIn (numbers ids) n → n < length table)
    → ((n : ℕ) → IsIn (numbers ids) n → order_in later n ≡ order_in (ordered_list order ids table) n)
    → CountFrom order (map (λ (id : InstructionId). order_at later id) ids)
list_counts order [] table later distinct below same = count_none order
list_counts order (id ∷ ids) table later distinct below same =
    let first : IsIn (numbers (id ∷ ids)) id.0 = in_head id.0 (numbers ids) in
    let one : List Instruction = ordered_at order id.0 table in
    count_cons order (order_at later id) (map (λ (other : InstructionId). order_at later other) ids)
    (same id.0 first ∙ list_other (order + 1) ids one id.0 (distinct_head id.0 (numbers ids) distinct)
    ∙ at_same order id.0 table (below id.0 first))
    (list_counts (order + 1) ids one later (distinct_tail id.0 (numbers ids) distinct)
    (λ n h.
    let within : n < length table = below n (in_tail id.0 (numbers ids) n h) in
    omega (arith, within, at_length order id.0 table))
    (λ n h. same n (in_tail id.0 (numbers ids) n h)))

-- Giving orders to blocks

table_other : (order : ℕ) (blocks : List Pair) (table : List Instruction) (other : ℕ)
    → (IsIn (listed_in blocks) other → ⊥) → order_in (ordered_table order blocks table) other ≡ order_in table other
table_other order [] table other apart = refl
table_other order (b ∷ blocks) table other apart =
    let ids : List InstructionId = b.1.instructions in
    table_other (order_after order b) blocks (ordered_list order ids table) other
    (λ h. apart (in_right (numbers ids) (listed_in blocks) other h))
    ∙ list_other order ids table other (λ h. apart (in_left (numbers ids) (listed_in blocks) other h))

blocks_count : (order : ℕ) (blocks : List Pair) (table : List Instruction) → AreDistinct (listed_in blocks)
    → ((n : ℕ) → IsIn (listed_in blocks) n → n < length table)
    → CountFrom order (orders_in (ordered_table order blocks table) (ordered_blocks order blocks))
blocks_count order [] table distinct below = count_none order
blocks_count order (b ∷ blocks) table distinct below =
    let ids : List InstructionId = b.1.instructions in
    let others : List ℕ = listed_in blocks in
    let last : ℕ = order + length ids in
    let next : ℕ = order_after order b in
    let listed : List Instruction = ordered_list order ids table in
    let all : List Instruction = ordered_table next blocks listed in
    let own : CountFrom order (map (λ (id : InstructionId). order_at all id) ids) =
    list_counts order ids table all (distinct_left (numbers ids) others distinct)
    (λ n h. below n (in_left (numbers ids) others n h))
    (λ n h. table_other next blocks listed n (λ after. distinct_apart (numbers ids) others distinct n h after)) in
    let rest : CountFrom next (orders_in all (ordered_blocks next blocks)) =
    blocks_count next blocks listed (distinct_right (numbers ids) others distinct)
    (λ n h.
    let within : n < length table = below n (in_right (numbers ids) others n h) in
    omega (arith, within, list_length order ids table)) in
    count_append order last (map (λ (id : InstructionId). order_at all id) ids)
    (Some (last) ∷ orders_in all (ordered_blocks next blocks))
    (omega (arith, length-map ids (λ (id : InstructionId). order_at all id))) own
    (count_cons last _ (orders_in all (ordered_blocks next blocks)) refl rest)

listed_ordered : (order : ℕ) (blocks : List Pair) → listed_in (ordered_blocks order blocks) ≡ listed_in blocks
listed_ordered order [] = refl
listed_ordered order (b ∷ blocks) =
    ap (λ (l : List ℕ). numbers b.1.instructions ++ l) (listed_ordered (order_after order b) blocks)

order_stays : (table : List Instruction) (index order : ℕ) → All (λ (i : Instruction). i.order.0 ≡ 0) table
    → order_in table index ≡ Some order → order ≡ 0
order_stays table index order unordered is = by_item (slice_get table index) refl is
  where
    by_item : (o : Option Instruction) → slice_get table index ≡ o → option_map (λ (i : Instruction). i.order.0) o ≡ Some order
        → order ≡ 0
    by_item None found ordered = absurd (cc)
    by_item (Some i) found ordered =
        let same : i.order.0 ≡ order = cc in
        sym same ∙ ap (λ (j : Instruction). j.order.0) (sym (get_or_from_slice_get table index i i found))
        ∙ unordered index i (slice_get_within table index i found)

-- If blocks list each instruction at most once, `mark_instruction_ids` makes orders that count from 1.
orders_counted : (blocks : List Pair) (table : List Instruction) → AreDistinct (listed_in blocks)
    → ((n : ℕ) → IsIn (listed_in blocks) n → n < length table) → IsCounted (ordered_table 1 blocks table) (ordered_blocks 1 blocks)
orders_counted blocks table distinct below = record { in_order = (blocks_count 1 blocks table distinct below).counted }

-- If no instruction has an order and blocks list each at most once, `mark_instruction_ids` makes orders that count from 1.
pub numbered_orders : (blocks : List Pair) (table : List Instruction) → AreDistinct (listed_in blocks)
    → ((n : ℕ) → IsIn (listed_in blocks) n → n < length table) → All (λ (i : Instruction). i.order.0 ≡ 0) table
    → IsNumbered (ordered_table 1 blocks table) (ordered_blocks 1 blocks)
numbered_orders blocks table distinct below unordered = record {
  counted = orders_counted blocks table distinct below;
  unlisted = λ index i found free.
      order_stays table index i.order.0 unordered
      (sym (table_other 1 blocks table index (λ h. free (ordered index h)))
      ∙ ap (λ (o : Option Instruction). option_map (λ (j : Instruction). j.order.0) o) found);
}
  where
    ordered : (index : ℕ) → IsIn (listed_in blocks) index → Contains (listed_in (ordered_blocks 1 blocks)) index
    ordered index h =
        subst (λ (l : List ℕ). Contains l index) (sym (listed_ordered 1 blocks)) (contains_in (listed_in blocks) index h)

-- The listed indices are below a bound where those of each block are.
pub listed_below : (bound : ℕ) (blocks : List Pair)
    → All (λ (b : Pair). All (λ (id : InstructionId). id.0 < bound) b.1.instructions) blocks
    → (n : ℕ) → IsIn (listed_in blocks) n → n < bound
listed_below bound [] below n h = absurd (in_none n h)
listed_below bound (b ∷ blocks) below n h = elim (in_either (numbers b.1.instructions) (listed_in blocks) n h) [
  | inl own ↦ numbers_below bound b.1.instructions (below 0 b (omega arith)) n own
  | inr rest ↦ listed_below bound blocks (λ index d within. below (suc index) d (omega arith)) n rest
]

-- The promises of `mark_instruction_ids` about orders, from the blocks and the table that it leaves.
pub counted_marked : (blocks blocks1 : List Pair) (table table1 : List Instruction) → blocks1 ≡ ordered_blocks 1 blocks
    → table1 ≡ ordered_table 1 blocks table
    → All (λ (b : Pair). All (λ (id : InstructionId). id.0 < length table) b.1.instructions) blocks
    → AreDistinct (listed_in blocks) → IsCounted table1 blocks1
counted_marked blocks blocks1 table table1 is_blocks is_table within distinct =
    subst (λ (t : List Instruction). IsCounted t blocks1) (sym is_table)
    (subst (λ (l : List Pair). IsCounted (ordered_table 1 blocks table) l) (sym is_blocks)
    (orders_counted blocks table distinct (listed_below (length table) blocks within)))

pub numbered_marked : (blocks blocks1 : List Pair) (table table1 : List Instruction) → blocks1 ≡ ordered_blocks 1 blocks
    → table1 ≡ ordered_table 1 blocks table
    → All (λ (b : Pair). All (λ (id : InstructionId). id.0 < length table) b.1.instructions) blocks
    → AreDistinct (listed_in blocks) → All (λ (i : Instruction). i.order.0 ≡ 0) table → IsNumbered table1 blocks1
numbered_marked blocks blocks1 table table1 is_blocks is_table within distinct unordered =
    subst (λ (t : List Instruction). IsNumbered t blocks1) (sym is_table)
    (subst (λ (l : List Pair). IsNumbered (ordered_table 1 blocks table) l) (sym is_blocks)
    (numbered_orders blocks table distinct (listed_below (length table) blocks within) unordered))
