-- Keys by slots. Each key has one of them; the slot says if no key, one or many have it.
use Rattle.std.specs.Prelude.{◌≡◌, ℕ, ◌+◌, ◌*◌, ◌%◌, ◌<◌, Bool, true, false, if◌then◌else◌, nat_eq, Option, Some, None, slice_get, List, [], ◌∷◌, length}
use Rattle.rl_base.specs.declared.slots.Slot.{Slot}
use Rattle.rl_base.specs.declared.slots.Slot.TheVariants as slot

-- The slot at an index. An index past the end gives a slot of many keys.
abbrev pub slot_or_many : Option Slot → Slot
slot_or_many None = slot.Many
slot_or_many (Some s) = s

abbrev pub slot_at : List Slot → (index : ℕ) → Slot
slot_at slots index = slot_or_many (slice_get slots index)

abbrev pub is_many : Slot → Bool
is_many slot.Many = true
is_many _ = false

-- `is_key eq key`: true of a key that `eq` says is `key`.
abbrev pub is_key : {K : Type 0} → (eq : K → K → Bool) → Option K → (key : K) → Bool
is_key eq None key = false
is_key eq (Some k) key = eq k key

-- The number of a key by its slot: none in an empty slot; that of the one key there, if it is this one; else the number by `many`,
-- which has the keys that share their slot with others.
abbrev pub numbered : {K : Type 0} → (eq : K → K → Bool) → (keys : List K) → (many : Option ℕ) → Slot → (key : K) → Option ℕ
numbered eq keys many slot.Empty key = None
numbered eq keys many (slot.One k) key = if is_key eq (slice_get keys k) key then Some k else None
numbered eq keys many slot.Many key = many

-- The slots and `many` say the number of every key, as `number` does.
pub record IsSlotted {K : Type 0} (eq : K → K → Bool) (slot_index : K → ℕ) (slots : List Slot) (keys : List K) (many number : K → Option ℕ) : Type 0 where
  pub found : (key : K) → number key ≡ numbered eq keys (many key) (slot_at slots (slot_index key)) key
  pub alone : (key : K) → is_many (slot_at slots (slot_index key)) ≡ false → many key ≡ None
  pub within : (p k : ℕ) → slot_at slots p ≡ slot.One k → k < length keys
  pub placed : (p k : ℕ) (key : K) → slot_at slots p ≡ slot.One k → slice_get keys k ≡ Some key → slot_index key ≡ p

-- A hash of a text, from `hash` on: the bytes are digits of a number to the base 16,777,619, which is kept below 2^32.
abbrev pub hash_from : (hash : ℕ) → List ℕ → ℕ
hash_from hash [] = hash
hash_from hash (byte ∷ bytes) = hash_from ((hash * 16777619 + byte) % 4294967296) bytes

-- The index of the slot that a text has among `count` slots. 0 if there are none.
abbrev pub slot_index_of : (count : ℕ) → List ℕ → ℕ
slot_index_of count text = if nat_eq count 0 then 0 else hash_from 0 text % count
