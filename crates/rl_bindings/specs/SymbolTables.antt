-- A list of symbols with an index by name and scope.
use Rattle.std.specs.Prelude.{◌≡◌, ℕ, ◌+◌, ◌*◌, ◌%◌, Bool, nat_eq, if◌then◌else◌, Option, Some, is_some, slice_get, List, length, map}
use Rattle.std.specs.BTreeMap.{BTreeMap, get}
use Rattle.std.specs.Ordering.{bool_cmp, is_eq, nat_cmp, ordering_then}
use Rattle.rl_base.specs.Slots.{IsSlotted}
use Rattle.rl_base.specs.declared.slots.Slot.{Slot}
use Rattle.std.specs.declared.cmp.Ordering.{Ordering}
use Rattle.rl_bindings.specs.Symbols.{is_own, number_at}
use Rattle.rl_bindings.specs.declared.event.Bound.{Bound}

-- The order of the index's keys: a name, a scope, and whether the symbol is an own name.
abbrev pub key_cmp : ℕ × ℕ × Bool → ℕ × ℕ × Bool → Ordering
key_cmp x y = ordering_then (ordering_then (nat_cmp x.0 y.0) (nat_cmp x.1 y.1)) (bool_cmp x.2 y.2)

-- The key of a declaration: its name, its scope, and whether it is an own name.
abbrev pub key_of : Bound → ℕ × ℕ × Bool
key_of b = (b.name, b.scope.0, is_own b.kind)

abbrev pub same_key : ℕ × ℕ × Bool → ℕ × ℕ × Bool → Bool
same_key x y = is_eq (key_cmp x y)

-- The slot of a key among `count` slots, 0 if there are none. Names in a row have slots in a row. The factor of the scope is a
-- prime: for one name, `count` scopes in a row have different slots, if `count` is smaller than the factor.
abbrev pub key_slot : (count : ℕ) → ℕ × ℕ × Bool → ℕ
key_slot count key = if nat_eq count 0 then 0 else (key.0 % 4294967296 + key.1 * 2654435761) % count

-- The number of the symbol with a key: its index among `symbols`.
abbrev pub number_by : (symbols : List Bound) → ℕ × ℕ × Bool → Option ℕ
number_by symbols key = number_at key.2 key.1 key.0 symbols

-- The slots and the map are the index of `symbols`, no two of which have one key. The map has the keys that share their slot
-- with others.
pub record IsTable (slots : List Slot) (numbers : BTreeMap (ℕ × ℕ × Bool) ℕ) (symbols : List Bound) : Type 0 where
  pub slotted : IsSlotted same_key (key_slot (length slots)) slots (map key_of symbols) (get key_cmp numbers) (number_by symbols)
  pub unique : (k : ℕ) (b : Bound) → slice_get symbols k ≡ Some b → number_at (is_own b.kind) b.scope.0 b.name symbols ≡ Some k

-- True if a scope has a symbol of the name, as an own name or otherwise.
abbrev pub knows : (symbols : List Bound) → (own : Bool) → (scope name : ℕ) → Bool
knows symbols own scope name = is_some (number_at own scope name symbols)
