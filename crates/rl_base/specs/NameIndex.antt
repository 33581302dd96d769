-- The index of a table of names. `name_of` gives the name of an item.
use Rattle.std.specs.Prelude.{ℕ, List, length, map}
use Rattle.std.specs.BTreeMap.{BTreeMap, get_by_text}
use Rattle.std.specs.Str.{bytes_eq}
use Rattle.std.specs.declared.alloc.Global.{Global}
use Rattle.std.specs.declared.string.String.{String}
use Rattle.rl_base.specs.NameTables.{index_named}
use Rattle.rl_base.specs.Slots.{slot_index_of, IsSlotted}
use Rattle.rl_base.specs.declared.slots.Slot.{Slot}

-- The slots and the map are the index of `items`: they have for a name the index of the first item of that name, or nothing. The
-- map has the names that share their slot with others.
abbrev pub IsIndex : {X : Type 0} → (name_of : X → List ℕ) → (slots : List Slot) → (indices : BTreeMap (String Global) ℕ) → (items : List X) → Type 0
IsIndex name_of slots indices items = IsSlotted bytes_eq (slot_index_of (length slots)) slots (map name_of items) (get_by_text indices) (index_named name_of items)
