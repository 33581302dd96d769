-- The index of a table of names, as items are appended.
use Rattle.std.proofs.Common.{◌≡◌, ◌<◌, ◌≤◌, ℕ, zero, suc, ◌+◌, Bool, true, false, not, if◌then◌else◌, Option, Some, None, is_some, IfSome, true≢false, List, [], ◌∷◌, ◌++◌, length, map, replicate, slice_get, slice_set, option_map, length-set, get_or, cond, Result, Ok, Err, IfOk, OnErr, string_bytes, refl, sym, ap, subst, ◌∙◌, arith}
use Rattle.std.proofs.lemmas.Map.Text.{btree_map_updates_text}
use Rattle.std.proofs.lemmas.Slice.Eq.{bytes_eq-Decides}
use Rattle.std.specs.BTreeMap.{BTreeMap, IsEmpty, IsUnchanged, Updates, get_by_text, is_at}
use Rattle.std.specs.List.{AllZip}
use Rattle.std.specs.Map.{update, lookup}
use Rattle.std.specs.Str.{bytes_eq}
use Rattle.std.specs.Cmp.Lexicographic.{slice_cmp}
use Rattle.std.specs.Ordering.{nat_cmp}
use Rattle.std.specs.String.{string_cmp}
use Rattle.std.specs.declared.alloc.Global.{Global}
use Rattle.std.specs.declared.string.String.{String}
use Rattle.std.proofs.lemmas.Option.{slice_get-get_or, slice_get-map, slice_get_read}
use Rattle.rl_base.specs.declared.error.OutOfMemory.{OutOfMemory}
use Rattle.rl_base.specs.NameTables.{index_from, index_named, item_named}
use Rattle.rl_base.specs.NameIndex.{IsIndex}
use Rattle.rl_base.specs.Slots.{slot_at, is_key, numbered, slot_index_of, IsSlotted}
use Rattle.rl_base.specs.declared.slots.Slot.{Slot}
use Rattle.rl_base.specs.declared.slots.Slot.TheVariants as slot
use Rattle.rl_base.proofs.Slotted.{by_test, slot_set_same, push_empty, push_many, crowd, many_same, no_keys, no_slots, empty_slots}

same_name : (a b : List ℕ) → bytes_eq a b ≡ true → a ≡ b
same_name a b = (bytes_eq-Decides a b).0

none_known : (o : Option ℕ) → not (is_some o) ≡ true → o ≡ None
none_known None none = refl
none_known (Some n) none = absurd (true≢false (sym none))

module _ {X : Type 0} (name_of : X → List ℕ) where
  -- A look-up in a list whose first item is `x`, by the test of its name.
  here : (first : ℕ) (x : X) (items : List X) (name : List ℕ) → bytes_eq (name_of x) name ≡ true → index_from name_of first (x ∷ items) name ≡ Some first
  here first x items name is = ap (λ (b : Bool). if b then Some first else index_from name_of (first + 1) items name) is

  later : (first : ℕ) (x : X) (items : List X) (name : List ℕ) → bytes_eq (name_of x) name ≡ false → index_from name_of first (x ∷ items) name ≡ index_from name_of (first + 1) items name
  later first x items name is = ap (λ (b : Bool). if b then Some first else index_from name_of (first + 1) items name) is

  found_here : (first : ℕ) (x : X) (items : List X) (name : List ℕ) (o : Option ℕ) → bytes_eq (name_of x) name ≡ true → index_from name_of first (x ∷ items) name ≡ o → Some first ≡ o
  found_here first x items name o is found = sym (here first x items name is) ∙ found

  found_later : (first : ℕ) (x : X) (items : List X) (name : List ℕ) (o : Option ℕ) → bytes_eq (name_of x) name ≡ false → index_from name_of first (x ∷ items) name ≡ o → index_from name_of (first + 1) items name ≡ o
  found_later first x items name o is found = sym (later first x items name is) ∙ found

  -- The index that is found is not below the first, and below the end.
  index_from-above : (first : ℕ) (items : List X) (name : List ℕ) (index : ℕ) → index_from name_of first items name ≡ Some index → first ≤ index
  index_from-above first [] name index found = absurd (cc)
  index_from-above first (x ∷ items) name index found =
      by_test (bytes_eq (name_of x) name)
      (λ is. let same : first ≡ index = (let e : Some first ≡ Some index = found_here first x items name (Some index) is found in cc) in omega (arith, same))
      (λ is. let above : first + 1 ≤ index = index_from-above (first + 1) items name index (found_later first x items name (Some index) is found) in omega (arith, above))

  index_from-within : (first end : ℕ) (items : List X) (name : List ℕ) → first + length items ≡ end → IfSome (index_from name_of first items name) (λ index. index < end)
  index_from-within first end [] name same = tt
  index_from-within first end (x ∷ items) name same = inside (bytes_eq (name_of x) name) (index_from name_of (first + 1) items name) (index_from-within (first + 1) end items name (omega (arith, same)))
    where
      inside : (b : Bool) (rest : Option ℕ) → IfSome rest (λ index. index < end) → IfSome (if b then Some first else rest) (λ index. index < end)
      inside true rest within = omega (arith, same)
      inside false rest within = within

  pub found-within : (o : Option ℕ) (items : List X) (name : List ℕ) → o ≡ index_named name_of items name → IfSome o (λ index. index < length items)
  found-within o items name is = subst (λ (found : Option ℕ). IfSome found (λ index. index < length items)) (sym is) (index_from-within 0 (length items) items name (omega arith))

  -- The item at the index that is found.
  item-from : (first at count : ℕ) (items : List X) (name : List ℕ) → first + at ≡ count → index_from name_of first items name ≡ Some count → slice_get items at ≡ item_named name_of items name
  item-from first at count [] name same found = absurd (cc)
  item-from first zero count (x ∷ items) name same found =
      by_test (bytes_eq (name_of x) name)
      (λ is. sym (ap (λ (b : Bool). if b then Some x else item_named name_of items name) is))
      (λ is. absurd (let above : first + 1 ≤ count = index_from-above (first + 1) items name count (found_later first x items name (Some count) is found) in omega (arith, same, above)))
  item-from first (suc at) count (x ∷ items) name same found =
      by_test (bytes_eq (name_of x) name)
      (λ is. absurd (let e : Some first ≡ Some count = found_here first x items name (Some count) is found in let none : first ≡ count = cc in omega (arith, same, none)))
      (λ is. item-from (first + 1) at count items name (omega (arith, same)) (found_later first x items name (Some count) is found)
      ∙ sym (ap (λ (b : Bool). if b then Some x else item_named name_of items name) is))

  pub item-found : (at : ℕ) (items : List X) (name : List ℕ) → Some at ≡ index_named name_of items name → slice_get items at ≡ item_named name_of items name
  item-found at items name is = item-from 0 at at items name (omega arith) (sym is)

  item-none : (first : ℕ) (items : List X) (name : List ℕ) → index_from name_of first items name ≡ None → None ≡ item_named name_of items name
  item-none first [] name none = refl
  item-none first (x ∷ items) name none =
      by_test (bytes_eq (name_of x) name)
      (λ is. absurd (let e : Some first ≡ None = found_here first x items name None is none in cc))
      (λ is. item-none (first + 1) items name (found_later first x items name None is none)
      ∙ sym (ap (λ (b : Bool). if b then Some x else item_named name_of items name) is))

  pub item-absent : (items : List X) (name : List ℕ) → None ≡ index_named name_of items name → None ≡ item_named name_of items name
  item-absent items name none = item-none 0 items name (sym none)

  -- A look-up in a list with one more item, of a new name.
  index_from-push : (first last : ℕ) (items : List X) (item : X) (name : List ℕ) → first + length items ≡ last → index_from name_of first items (name_of item) ≡ None
      → index_from name_of first (items ++ item ∷ []) name ≡ (if bytes_eq (name_of item) name then Some last else index_from name_of first items name)
  index_from-push first last [] item name same new = let at : first ≡ last = omega (arith, same) in ap (λ (n : ℕ). if bytes_eq (name_of item) name then Some n else None) at
  index_from-push first last (x ∷ items) item name same new =
      by_test (bytes_eq (name_of x) (name_of item))
      (λ is. absurd (let e : Some first ≡ None = found_here first x items (name_of item) None is new in cc))
      (λ is. ap (λ (o : Option ℕ). if bytes_eq (name_of x) name then Some first else o)
      (index_from-push (first + 1) last items item name (omega (arith, same)) (found_later first x items (name_of item) None is new))
      ∙ swapped (bytes_eq (name_of x) name) (bytes_eq (name_of item) name) refl refl is)
    where
      swapped : (b c : Bool) → bytes_eq (name_of x) name ≡ b → bytes_eq (name_of item) name ≡ c → bytes_eq (name_of x) (name_of item) ≡ false
          → (if b then Some first else (if c then Some last else index_from name_of (first + 1) items name)) ≡ (if c then Some last else (if b then Some first else index_from name_of (first + 1) items name))
      swapped true true is item_is other =
          let equal : bytes_eq (name_of x) (name_of item) ≡ true = (bytes_eq-Decides (name_of x) (name_of item)).1 (same_name (name_of x) name is ∙ sym (same_name (name_of item) name item_is)) in
          absurd (true≢false (sym equal ∙ other))
      swapped true false is item_is other = refl
      swapped false true is item_is other = refl
      swapped false false is item_is other = refl

  map_push : (items : List X) (item : X) → map name_of (items ++ item ∷ []) ≡ map name_of items ++ name_of item ∷ []
  map_push [] item = refl
  map_push (x ∷ items) item = ap (λ l. name_of x ∷ l) (map_push items item)

  length_map : (items : List X) → length (map name_of items) ≡ length items
  length_map [] = refl
  length_map (x ∷ items) = ap suc (length_map items)

  slot_index_same : (count : ℕ) (a b : List ℕ) → bytes_eq a b ≡ true → slot_index_of count a ≡ slot_index_of count b
  slot_index_same count a b is = ap (slot_index_of count) (same_name a b is)

  -- The index of a name is that by its slot.
  pub by_slot : (slots : List Slot) (indices : BTreeMap (String Global) ℕ) (items : List X) (name : List ℕ) (s : Slot) → IsIndex name_of slots indices items → slot_at slots (slot_index_of (length slots) name) ≡ s
      → index_named name_of items name ≡ numbered bytes_eq (map name_of items) (get_by_text indices name) s name
  by_slot slots indices items name s index is = index.found name ∙ ap (λ t. numbered bytes_eq (map name_of items) (get_by_text indices name) t name) is

  pushed : (items : List X) (item : X) → index_named name_of items (name_of item) ≡ None → (name : List ℕ) → index_named name_of (items ++ item ∷ []) name ≡ (if bytes_eq (name_of item) name then Some (length items) else index_named name_of items name)
  pushed items item new name = index_from-push 0 (length items) items item name (omega arith) new

  -- A further item, whose name has an empty slot.
  pub pushed_empty : (slots after : List Slot) (indices : BTreeMap (String Global) ℕ) (items added : List X) (item : X) (slot_index last : ℕ) → IsIndex name_of slots indices items → slot_index ≡ slot_index_of (length slots) (name_of item) → slot_at slots slot_index ≡ slot.Empty
      → slot_index < length slots → last ≡ length items → after ≡ slice_set slots slot_index (slot.One last) → added ≡ items ++ item ∷ [] → IsIndex name_of after indices added
  pushed_empty slots after indices items added item slot_index last index at is within counted set grown =
      let empty : slot_at slots (slot_index_of (length slots) (name_of item)) ≡ slot.Empty = ap (slot_at slots) (sym at) ∙ is in
      let new : index_named name_of items (name_of item) ≡ None = by_slot slots indices items (name_of item) slot.Empty index empty in
      let count : length after ≡ length slots = ap length set ∙ length-set slots slot_index (slot.One last) in
      subst (λ (l : List X). IsIndex name_of after indices l) (sym grown)
      (subst (λ n. IsSlotted bytes_eq (slot_index_of n) after (map name_of (items ++ item ∷ [])) (get_by_text indices) (index_named name_of (items ++ item ∷ []))) (sym count)
      (subst (λ ks. IsSlotted bytes_eq (slot_index_of (length slots)) after ks (get_by_text indices) (index_named name_of (items ++ item ∷ []))) (sym (map_push items item))
      (push_empty bytes_eq (slot_index_of (length slots)) (slot_index_same (length slots)) slots after (map name_of items) (get_by_text indices) (index_named name_of items) (index_named name_of (items ++ item ∷ [])) (name_of item) last index empty
      (subst (λ p. p < length slots) at within)
      (counted ∙ sym (length_map items))
      (set ∙ ap (λ p. slice_set slots p (slot.One last)) at)
      (λ name. pushed items item new name ∙ ap (λ l. if bytes_eq (name_of item) name then Some l else index_named name_of items name) (sym counted)))))

  -- The slot of one name becomes one of many.
  pub crowded : (slots after : List Slot) (before more : BTreeMap (String Global) ℕ) (items : List X) (slot_index other : ℕ) → IsIndex name_of slots before items → slot_at slots slot_index ≡ slot.One other → slot_index < length slots → after ≡ slice_set slots slot_index slot.Many
      → ((name : List ℕ) → get_by_text more name ≡ (if is_key bytes_eq (slice_get (map name_of items) other) name then Some other else get_by_text before name)) → IsIndex name_of after more items
  crowded slots after before more items slot_index other index one within set added =
      let count : length after ≡ length slots = ap length set ∙ length-set slots slot_index slot.Many in
      let got : slice_get (map name_of items) other ≡ Some (get_or (map name_of items) other []) = slice_get-get_or (map name_of items) other [] (index.within slot_index other one) in
      subst (λ n. IsSlotted bytes_eq (slot_index_of n) after (map name_of items) (get_by_text more) (index_named name_of items)) (sym count)
      (crowd bytes_eq (slot_index_of (length slots)) (slot_index_same (length slots)) slots after (map name_of items) (get_by_text before) (get_by_text more) (index_named name_of items) slot_index other (get_or (map name_of items) other []) index one within got set
      (λ name. added name ∙ ap (λ o. if is_key bytes_eq o name then Some other else get_by_text before name) got))

  -- An item that is added among those that share a slot, or is not.
  pub among : (slots : List Slot) (before after : BTreeMap (String Global) ℕ) (items added : List X) (item : X) (r : Result (ℕ × Bool) OutOfMemory) → IsIndex name_of slots before items → slot_at slots (slot_index_of (length slots) (name_of item)) ≡ slot.Many
      → IfOk r (λ found. found.1 ≡ not (is_some (get_by_text before (name_of item))))
      → IfOk r (λ found. added ≡ (if found.1 then items ++ item ∷ [] else items))
      → IfOk r (λ found. found.1 ≡ true → (name : List ℕ) → get_by_text after name ≡ (if bytes_eq (name_of item) name then Some (length items) else get_by_text before name))
      → IfOk r (λ found. found.1 ≡ false → IsUnchanged before after)
      → OnErr r (added ≡ items) → OnErr r (IsUnchanged before after) → IsIndex name_of slots after added
  among slots before after items added item (Ok (n, true)) index many is_new grown more stays same unchanged =
      let new : index_named name_of items (name_of item) ≡ None = by_slot slots before items (name_of item) slot.Many index many ∙ none_known (get_by_text before (name_of item)) (sym is_new) in
      subst (λ (l : List X). IsIndex name_of slots after l) (sym grown)
      (subst (λ ks. IsSlotted bytes_eq (slot_index_of (length slots)) slots ks (get_by_text after) (index_named name_of (items ++ item ∷ []))) (sym (map_push items item))
      (push_many bytes_eq (slot_index_of (length slots)) (slot_index_same (length slots)) slots (map name_of items) (get_by_text before) (get_by_text after) (index_named name_of items) (index_named name_of (items ++ item ∷ [])) (name_of item) (length items) index many (more refl) (pushed items item new)))
  among slots before after items added item (Ok (n, false)) index many is_new grown more stays same unchanged =
      subst (λ (l : List X). IsIndex name_of slots after l) (sym grown)
      (many_same bytes_eq (slot_index_of (length slots)) slots (map name_of items) (get_by_text before) (get_by_text after) (index_named name_of items) index (λ name. ap (lookup _) (stays refl)))
  among slots before after items added item (Err e) index many is_new grown more stays same unchanged =
      subst (λ (l : List X). IsIndex name_of slots after l) (sym same)
      (many_same bytes_eq (slot_index_of (length slots)) slots (map name_of items) (get_by_text before) (get_by_text after) (index_named name_of items) index (λ name. ap (lookup _) unchanged))

  -- The index of an appended item is the last.
  pub pushed_last : (items : List X) (item : X) → index_named name_of items (name_of item) ≡ None → index_named name_of (items ++ item ∷ []) (name_of item) ≡ Some (length items)
  pushed_last items item new =
      pushed items item new (name_of item)
      ∙ ap (λ (b : Bool). if b then Some (length items) else index_named name_of items (name_of item)) ((bytes_eq-Decides (name_of item) (name_of item)).1 refl)

  -- The index of the item that was added among those that share a slot, or was there.
  pub found_among : (slots : List Slot) (before : BTreeMap (String Global) ℕ) (items added : List X) (item : X) (r : Result (ℕ × Bool) OutOfMemory) → IsIndex name_of slots before items → slot_at slots (slot_index_of (length slots) (name_of item)) ≡ slot.Many
      → IfOk r (λ found. Some found.0 ≡ (if found.1 then Some (length items) else get_by_text before (name_of item)))
      → IfOk r (λ found. found.1 ≡ not (is_some (get_by_text before (name_of item))))
      → IfOk r (λ found. added ≡ (if found.1 then items ++ item ∷ [] else items))
      → IfOk r (λ found. index_named name_of added (name_of item) ≡ Some found.0)
  found_among slots before items added item (Ok (n, true)) index many at is_new grown =
      let new : index_named name_of items (name_of item) ≡ None = by_slot slots before items (name_of item) slot.Many index many ∙ none_known (get_by_text before (name_of item)) (sym is_new) in
      ap (λ (l : List X). index_named name_of l (name_of item)) grown ∙ pushed_last items item new ∙ sym at
  found_among slots before items added item (Ok (n, false)) index many at is_new grown =
      ap (λ (l : List X). index_named name_of l (name_of item)) grown ∙ by_slot slots before items (name_of item) slot.Many index many ∙ sym at
  found_among slots before items added item (Err e) index many at is_new grown = tt

  pub found_inside : (items : List X) (name : List ℕ) (r : Result (ℕ × Bool) OutOfMemory) → IfOk r (λ found. index_named name_of items name ≡ Some found.0) → IfOk r (λ found. found.0 < length items)
  found_inside items name (Ok found) at = found-within (Some found.0) items name (sym at)
  found_inside items name (Err e) at = tt

  -- The slot that is read is that of the name.
  pub slot_known : (count slot_index : ℕ) (slots seen : List Slot) (name : List ℕ) (s : Slot) → s ≡ slot_at seen slot_index → seen ≡ slots → slot_index ≡ slot_index_of count name → count ≡ length slots → slot_at slots (slot_index_of (length slots) name) ≡ s
  slot_known count slot_index slots seen name s is same at counted = sym (is ∙ ap (λ (ss : List Slot). slot_at ss slot_index) same ∙ ap (slot_at slots) (at ∙ ap (λ n. slot_index_of n name) counted))

  pub slot_crowded : (slots : List Slot) (name : List ℕ) (slot_index : ℕ) → slot_index ≡ slot_index_of (length slots) name → slot_index < length slots → slot_at (slice_set slots slot_index slot.Many) (slot_index_of (length (slice_set slots slot_index slot.Many)) name) ≡ slot.Many
  slot_crowded slots name slot_index at within =
      ap (slot_at (slice_set slots slot_index slot.Many)) (ap (λ n. slot_index_of n name) (length-set slots slot_index slot.Many) ∙ sym at)
      ∙ slot_set_same slots slot_index slot.Many within

  -- An entry of the map by the item's name.
  pub added_item : (before after : BTreeMap (String Global) ℕ) (key : String Global) (k last : ℕ) (item : X) → string_bytes key ≡ name_of item → Updates string_cmp before after key (Some k) → k ≡ last
      → (name : List ℕ) → get_by_text after name ≡ (if bytes_eq (name_of item) name then Some last else get_by_text before name)
  added_item before after key k last item named updated same name =
      btree_map_updates_text (string_bytes key) before after (Some k) updated name
      ∙ ap (λ (b : List ℕ). update bytes_eq (get_by_text before) b (Some k) name) named
      ∙ ap (λ (l : ℕ). if bytes_eq (name_of item) name then Some l else get_by_text before name) same

  pub added_other : (before after : BTreeMap (String Global) ℕ) (key : String Global) (k : ℕ) (items : List X) (item : X) → k < length items → item ≡ get_or items k item → string_bytes key ≡ name_of item → Updates string_cmp before after key (Some k)
      → (name : List ℕ) → get_by_text after name ≡ (if is_key bytes_eq (slice_get (map name_of items) k) name then Some k else get_by_text before name)
  added_other before after key k items item within at named updated name =
      added_item before after key k k item named updated refl name
      ∙ sym (ap (λ (o : Option (List ℕ)). if is_key bytes_eq o name then Some k else get_by_text before name) (slice_get-map name_of items k ∙ ap (option_map name_of) (slice_get_read items (length items) k item refl within at)))

  -- Without items.
  empty_by : (slots : List Slot) (indices : BTreeMap (String Global) ℕ) (items : List X) → ((p k : ℕ) → slot_at slots p ≡ slot.One k → false ≡ true) → IsEmpty indices → items ≡ [] → IsIndex name_of slots indices items
  empty_by slots indices items none unknown no_items =
      subst (λ (l : List X). IsIndex name_of slots indices l) (sym no_items)
      (no_keys bytes_eq (slot_index_of (length slots)) slots (get_by_text indices) (index_named name_of []) none (λ name. ap (lookup _) unknown) (λ name. refl))

  pub none_slotted : (slots : List Slot) (indices : BTreeMap (String Global) ℕ) (items : List X) → slots ≡ [] → IsEmpty indices → items ≡ [] → IsIndex name_of slots indices items
  none_slotted slots indices items is = empty_by slots indices items (subst (λ ss. (p k : ℕ) → slot_at ss p ≡ slot.One k → false ≡ true) (sym is) no_slots)

  pub empty_slotted : (count : ℕ) (slots : List Slot) (indices : BTreeMap (String Global) ℕ) (items : List X) → slots ≡ replicate count slot.Empty → IsEmpty indices → items ≡ [] → IsIndex name_of slots indices items
  empty_slotted count slots indices items is = empty_by slots indices items (subst (λ ss. (p k : ℕ) → slot_at ss p ≡ slot.One k → false ≡ true) (sym is) (empty_slots count))

-- A look-up in a clone of a map, by a test that tells no key from its clone.
lookup-cloned : {K X : Type 0} (C : K → K → Type 0) (test : K → Bool) → ((x y : K) → C x y → test y ≡ test x) → (es fs : List (K × X)) → AllZip (λ p q. C p.0 q.0 × (q.1 ≡ p.1)) es fs → lookup test fs ≡ lookup test es
lookup-cloned C test same [] [] zip = refl
lookup-cloned C test same [] (f ∷ fs) zip = absurd zip
lookup-cloned C test same (e ∷ es) [] zip = absurd zip
lookup-cloned C test same (e ∷ es) (f ∷ fs) zip =
    ap (λ b. cond b (Some f.1) (lookup test fs)) (same e.0 f.0 zip.0.0)
    ∙ ap (λ v. cond (test e.0) (Some v) (lookup test fs)) zip.0.1
    ∙ ap (λ o. cond (test e.0) (Some e.1) o) (lookup-cloned C test same es fs zip.1)

-- The index of a name among names.
abbrev index_in : ℕ → List (List ℕ) → List ℕ → Option ℕ
index_in first [] name = None
index_in first (n ∷ names) name = if bytes_eq n name then Some first else index_in (first + 1) names name

index_in-names : {X : Type 0} (name_of : X → List ℕ) (first : ℕ) (items : List X) (name : List ℕ) → index_from name_of first items name ≡ index_in first (map name_of items) name
index_in-names name_of first [] name = refl
index_in-names name_of first (x ∷ items) name = ap (λ (o : Option ℕ). if bytes_eq (name_of x) name then Some first else o) (index_in-names name_of (first + 1) items name)

abbrev IsCopied : BTreeMap (String Global) ℕ → BTreeMap (String Global) ℕ → Type 0
IsCopied indices copies = AllZip (λ p q. (string_bytes q.0 ≡ string_bytes p.0) × (q.1 ≡ p.1)) indices.entries copies.entries

text-cloned : (indices copies : BTreeMap (String Global) ℕ) → IsCopied indices copies → (name : List ℕ) → get_by_text copies name ≡ get_by_text indices name
text-cloned indices copies zip name =
    lookup-cloned (λ (x y : String Global). string_bytes y ≡ string_bytes x) (is_at (λ (k : String Global). slice_cmp nat_cmp name (string_bytes k)))
    (λ x y e. ap (λ (bytes : List ℕ). is_at (λ (b : List ℕ). slice_cmp nat_cmp name b) bytes) e)
    indices.entries copies.entries zip

-- Copies of the slots and of the map are the index of items of the same names.
pub copied_index : {X : Type 0} (name_of : X → List ℕ) (slots copied : List Slot) (indices copies : BTreeMap (String Global) ℕ) (items others : List X) → copied ≡ slots → IsCopied indices copies → map name_of others ≡ map name_of items
    → IsIndex name_of slots indices items → IsIndex name_of copied copies others
copied_index name_of slots copied indices copies items others same zip names is =
    subst (λ (ss : List Slot). IsSlotted bytes_eq (slot_index_of (length ss)) ss (map name_of others) (get_by_text copies) (index_named name_of others)) (sym same)
    (subst (λ (ns : List (List ℕ)). IsSlotted bytes_eq (slot_index_of (length slots)) slots ns (get_by_text copies) (index_named name_of others)) (sym names) (
    record {
      found = λ name.
          index_in-names name_of 0 others name ∙ ap (λ ns. index_in 0 ns name) names ∙ sym (index_in-names name_of 0 items name)
          ∙ is.found name
          ∙ ap (λ m. numbered bytes_eq (map name_of items) m (slot_at slots (slot_index_of (length slots) name)) name) (sym (text-cloned indices copies zip name));
      alone = λ name none. text-cloned indices copies zip name ∙ is.alone name none;
      within = is.within;
      placed = is.placed;
    }))
