-- The numbering of an instruction table leaves what its instructions do.
use Rattle.std.proofs.Common.{◌≡◌, ℕ, zero, suc, ◌+◌, Option, Some, None, List, [], ◌∷◌, slice_get, slice_set, refl, sym, ap, ◌∙◌}
use Rattle.std.specs.Option.{option_map}
use Rattle.rl_base.specs.declared.ids.IdentifierId.{IdentifierId}
use Rattle.rl_base.specs.declared.ids.InstructionId.{InstructionId}
use Rattle.rl_hir.specs.Blocks.{Pair}
use Rattle.rl_hir.specs.declared.instruction.Instruction.{Instruction}
use Rattle.rl_hir.specs.declared.instruction.InstructionValue.{InstructionValue}
use Rattle.rl_order.specs.Numbering.{ordered_at, ordered_list, ordered_table, order_after}

-- An instruction without its order and its spans.
abbrev pub plain : Instruction → IdentifierId × InstructionValue
plain i = (i.lvalue.identifier, i.value)

abbrev pub plain_at : List Instruction → ℕ → Option (IdentifierId × InstructionValue)
plain_at table index = option_map plain (slice_get table index)

set_plain : (table : List Instruction) (index : ℕ) (old new : Instruction) → slice_get table index ≡ Some old → plain new ≡ plain old
    → (n : ℕ) → plain_at (slice_set table index new) n ≡ plain_at table n
set_plain [] index old new is same n = refl
set_plain (i ∷ table) zero old new is same zero = let here : i ≡ old = cc in ap (λ p. Some p) (same ∙ sym (ap (λ (j : Instruction). plain j) here))
set_plain (i ∷ table) zero old new is same (suc n) = refl
set_plain (i ∷ table) (suc index) old new is same zero = refl
set_plain (i ∷ table) (suc index) old new is same (suc n) = set_plain table index old new is same n

at_plain : (order index : ℕ) (table : List Instruction) (n : ℕ) → plain_at (ordered_at order index table) n ≡ plain_at table n
at_plain order index table n = by_entry (slice_get table index) refl
  where
    by_entry : (o : Option Instruction) → slice_get table index ≡ o
        → plain_at (elim o [ Some i ↦ slice_set table index (record i { order = record { 0 = order } }) | None ↦ table ]) n ≡ plain_at table n
    by_entry None is = refl
    by_entry (Some i) is = set_plain table index i (record i { order = record { 0 = order } }) is refl n

list_plain : (order : ℕ) (listed : List InstructionId) (table : List Instruction) (n : ℕ) → plain_at (ordered_list order listed table) n ≡ plain_at table n
list_plain order [] table n = refl
list_plain order (id ∷ ids) table n = list_plain (order + 1) ids (ordered_at order id.0 table) n ∙ at_plain order id.0 table n

pub table_plain : (order : ℕ) (pairs : List Pair) (table : List Instruction) (n : ℕ) → plain_at (ordered_table order pairs table) n ≡ plain_at table n
table_plain order [] table n = refl
table_plain order (p ∷ pairs) table n =
    table_plain (order_after order p) pairs (ordered_list order p.1.instructions table) n ∙ list_plain order p.1.instructions table n
