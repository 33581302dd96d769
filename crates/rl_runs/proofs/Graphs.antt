-- The builder's blocks as a graph, and instructions without their orders.
use Rattle.std.proofs.Common.{◌≡◌, ℕ, zero, suc, ◌+◌, inl, inr, List, [], ◌∷◌, length, map, slice_get, slice_set, nat_eq, Bool, cond}
use Rattle.std.proofs.Common.{Option, Some, None, refl, sym, ap, ◌∙◌, arith, eq-eqb}
use Rattle.std.specs.Option.{option_map}
use Rattle.std.proofs.lemmas.Bool.Decides.{eqb_tells}
use Rattle.std.proofs.lemmas.Option.{slice_get-map, slice_get_past}
use Rattle.rl_base.proofs.DistinctLists.{distinct_head, distinct_tail}
use Rattle.rl_base.specs.declared.ids.InstructionId.{InstructionId}
use Rattle.rl_base.specs.Distinct.{AreDistinct}
use Rattle.rl_hir.specs.Blocks.{Pair as BlockPair, block_at}
use Rattle.rl_hir.specs.declared.function.BasicBlock.{BasicBlock}
use Rattle.rl_machine.specs.Machine.{Item, Runs, Ends, item_by, item_in}
use Rattle.rl_order.specs.Numbering.{ordered_at, ordered_list, order_after, ordered_table}
use Rattle.rl_runs.proofs.BlockIds.{ids_of}
use Rattle.rl_runs.proofs.Common.{BlockId, Instruction}
use Rattle.rl_runs.specs.Facts.{At, InBlock}

-- The numbers of blocks are distinct.
abbrev pub Apart : List BlockPair → Type 0
Apart blocks = AreDistinct (ids_of blocks)

-- A block is found by its id.
pub found_by : (blocks : List BlockPair) (place : ℕ) (b : BlockPair) → Apart blocks → slice_get blocks place ≡ Some b
    → block_at blocks b.0 ≡ Some b.1
found_by [] place b apart e = absurd (cc)
found_by (x ∷ blocks) zero b apart e =
    let same : x ≡ b = cc in
    ap (λ (t : Bool). cond t (Some x.1) (block_at blocks b.0)) (eq-eqb b.0.0 x.0.0 (ap (λ (z : BlockPair). z.0.0) (sym same)))
    ∙ ap (λ (z : BlockPair). Some z.1) same
found_by (x ∷ blocks) (suc place) b apart e = elim (eqb_tells b.0.0 x.0.0) [
  | inl t ↦ absurd (distinct_head x.0.0 (ids_of blocks) apart (record { index = place; found = again t.1 }))
  | inr t ↦ ap (λ (c : Bool). cond c (Some x.1) (block_at blocks b.0)) t.0
      ∙ found_by blocks place b (distinct_tail x.0.0 (ids_of blocks) apart) e
]
  where
    again : b.0.0 ≡ x.0.0 → slice_get (ids_of blocks) place ≡ Some x.0.0
    again same =
        slice_get-map (λ (z : BlockPair). z.0.0) blocks place
        ∙ ap (λ (o : Option BlockPair). option_map (λ z. z.0.0) o) e
        ∙ ap (λ (n : ℕ). Some n) same

-- A block that is found stands at an index.
pub record FoundAt (pairs : List BlockPair) (id : ℕ) (block : BasicBlock) : Type 0 where
  pub index : ℕ
  pub own : BlockId
  pub found : slice_get pairs index ≡ Some (own, block)
  pub named : own.0 ≡ id

pub found_at : (pairs : List BlockPair) (id : ℕ) (block : BasicBlock) → block_at pairs (record { 0 = id }) ≡ Some block
    → FoundAt pairs id block
found_at [] id block found = absurd (cc)
found_at (p ∷ pairs) id block found = elim (eqb_tells id p.0.0) [
  | inl t ↦ (let at : Some p.1 ≡ Some block = ap (λ (t : Bool). cond t (Some p.1) (block_at pairs (record { 0 = id }))) (sym t.0) ∙ found in
      let same : p.1 ≡ block = cc in
      record { index = 0; own = p.0; found = ap (λ (b : BasicBlock). Some (p.0, b)) same; named = sym t.1 })
  | inr t ↦ (let later : FoundAt pairs id block = found_at pairs id block (ap (λ (t : Bool). cond t (Some p.1) (block_at pairs (record { 0 = id }))) (sym t.0) ∙ found) in
      record { index = suc later.index; own = later.own; found = later.found; named = later.named })
]

-- The item at an index of a block.
pub item_met : (table : List Instruction) (b : BlockPair) (place : ℕ) (item : Item) → InBlock table b (At place item)
    → item_in table b.1 place ≡ Some item
item_met table b place (Runs i) h =
    ap (λ o. item_by table o (nat_eq place (length b.1.instructions)) b.1.terminal) h.at
    ∙ ap (λ (o : Option Instruction). option_map (λ i. Runs i) o) h.kept
item_met table b place (Ends t) h =
    ap (λ o. item_by table o (nat_eq place (length b.1.instructions)) b.1.terminal)
    (slice_get_past b.1.instructions place (omega (arith, h.0)))
    ∙ ap (λ e. item_by table None e b.1.terminal) (eq-eqb place (length b.1.instructions) (sym h.0))
    ∙ ap (λ t. Some (Ends t)) h.1

-- An instruction without its order.
abbrev pub without_order : Instruction → Instruction
without_order i = record i { order = record { 0 = 0 } }

-- Numbering changes orders alone.

set_plain : (xs : List Instruction) (k : ℕ) (x y : Instruction) → slice_get xs k ≡ Some x → without_order y ≡ without_order x
    → map without_order (slice_set xs k y) ≡ map without_order xs
set_plain [] k x y is e = absurd (cc)
set_plain (z ∷ xs) zero x y is e = let same : z ≡ x = cc in ap (λ t. t ∷ map without_order xs) (e ∙ ap without_order (sym same))
set_plain (z ∷ xs) (suc k) x y is e = ap (λ l. without_order z ∷ l) (set_plain xs k x y is e)

ordered_at_plain : (order place : ℕ) (table : List Instruction)
    → map without_order (ordered_at order place table) ≡ map without_order table
ordered_at_plain order place table = by_item (slice_get table place) refl
  where
    by_item : (o : Option Instruction) → slice_get table place ≡ o
        → map without_order (elim o [ Some i ↦ slice_set table place (record i { order = record { 0 = order } }) | None ↦ table ]) ≡ map without_order table
    by_item None is = refl
    by_item (Some i) is = set_plain table place i (record i { order = record { 0 = order } }) is refl

ordered_list_plain : (order : ℕ) (listed : List InstructionId) (table : List Instruction)
    → map without_order (ordered_list order listed table) ≡ map without_order table
ordered_list_plain order [] table = refl
ordered_list_plain order (id ∷ ids) table =
    ordered_list_plain (order + 1) ids (ordered_at order id.0 table) ∙ ordered_at_plain order id.0 table

pub ordered_table_plain : (order : ℕ) (blocks : List BlockPair) (table : List Instruction)
    → map without_order (ordered_table order blocks table) ≡ map without_order table
ordered_table_plain order [] table = refl
ordered_table_plain order (b ∷ blocks) table =
    ordered_table_plain (order_after order b) blocks (ordered_list order b.1.instructions table)
    ∙ ordered_list_plain order b.1.instructions table

pub get_map : {X Y : Type 0} (f : X → Y) (xs : List X) (k : ℕ) → slice_get (map f xs) k ≡ option_map f (slice_get xs k)
get_map f [] k = refl
get_map f (x ∷ xs) zero = refl
get_map f (x ∷ xs) (suc k) = get_map f xs k
