-- Slots of keys, as keys are added.
use Rattle.std.proofs.Common.{◌≡◌, ◌≢◌, ◌<◌, ℕ, zero, suc, ◌+◌, Bool, true, false, if◌then◌else◌, true≢false, nat_eq, eqb-true, Option, Some, None, List, [], ◌∷◌, ◌++◌, length, length-set, get_or-set_same, slice_get, slice_set, replicate, refl, sym, ap, subst, ◌∙◌, arith}
use Rattle.std.proofs.lemmas.Bool.{eqb-false}
use Rattle.std.proofs.lemmas.Option.{slice_get-get_or}
use Rattle.rl_base.specs.Slots.{slot_or_many, slot_at, is_many, is_key, numbered, IsSlotted}
use Rattle.rl_base.specs.declared.slots.Slot.{Slot}
use Rattle.rl_base.specs.declared.slots.Slot.TheVariants as slot

pub by_test : {P : Type 0} → (b : Bool) → (b ≡ true → P) → (b ≡ false → P) → P
by_test true on_true on_false = on_true refl
by_test false on_true on_false = on_false refl

pub get_set_same : {X : Type 0} (xs : List X) (i : ℕ) (x : X) → i < length xs → slice_get (slice_set xs i x) i ≡ Some x
get_set_same xs i x within = slice_get-get_or (slice_set xs i x) i x (subst (λ n. i < n) (sym (length-set xs i x)) within) ∙ ap Some (get_or-set_same xs i x x within)

pub get_set_other : {X : Type 0} (xs : List X) (i j : ℕ) (x : X) → (i ≢ j) → slice_get (slice_set xs i x) j ≡ slice_get xs j
get_set_other [] i j x other = refl
get_set_other (y ∷ ys) zero zero x other = absurd (other refl)
get_set_other (y ∷ ys) zero (suc j) x other = refl
get_set_other (y ∷ ys) (suc i) zero x other = refl
get_set_other (y ∷ ys) (suc i) (suc j) x other = get_set_other ys i j x (λ is. other (ap suc is))

get_push_old : {X : Type 0} (xs : List X) (x : X) (k : ℕ) → k < length xs → slice_get (xs ++ x ∷ []) k ≡ slice_get xs k
get_push_old [] x k within = absurd (omega (arith, within))
get_push_old (y ∷ ys) x zero within = refl
get_push_old (y ∷ ys) x (suc k) within = get_push_old ys x k (omega (arith, within))

pub get_push_new : {X : Type 0} (xs : List X) (x : X) → slice_get (xs ++ x ∷ []) (length xs) ≡ Some x
get_push_new [] x = refl
get_push_new (y ∷ ys) x = get_push_new ys x

length_push : {X : Type 0} (xs : List X) (x : X) → length (xs ++ x ∷ []) ≡ length xs + 1
length_push [] x = refl
length_push (y ∷ ys) x = let more : length (ys ++ x ∷ []) ≡ length ys + 1 = length_push ys x in omega (arith, more)

pub slot_set_same : (slots : List Slot) (p : ℕ) (s : Slot) → p < length slots → slot_at (slice_set slots p s) p ≡ s
slot_set_same slots p s within = ap slot_or_many (get_set_same slots p s within)

slot_set_other : (slots : List Slot) (p q : ℕ) (s : Slot) → (p ≢ q) → slot_at (slice_set slots p s) q ≡ slot_at slots q
slot_set_other slots p q s other = ap slot_or_many (get_set_other slots p q s other)

by_index : {P : Type 0} (p q : ℕ) → (p ≡ q → P) → ((p ≢ q) → P) → P
by_index p q same other = by_test (nat_eq p q) (λ is. same (eqb-true p q is)) (λ is. other (eqb-false p q is))

one_inj : (a b : ℕ) → slot.One a ≡ slot.One b → a ≡ b
one_inj a b is = cc

module _ {K : Type 0} (eq : K → K → Bool) (slot_index : K → ℕ) (slot_index_same : (a b : K) → eq a b ≡ true → slot_index a ≡ slot_index b) where
  -- A key of another slot is another key.
  apart : (x key : K) → (slot_index x ≢ slot_index key) → eq x key ≡ false
  apart x key other = by_test (eq x key) (λ is. absurd (other (slot_index_same x key is))) (λ is. is)

  numbered_push : (keys : List K) (x : K) (many : Option ℕ) (s : Slot) (key : K) → ((k : ℕ) → s ≡ slot.One k → k < length keys) → numbered eq (keys ++ x ∷ []) many s key ≡ numbered eq keys many s key
  numbered_push keys x many slot.Empty key within = refl
  numbered_push keys x many (slot.One k) key within = ap (λ o. if is_key eq o key then Some k else None) (get_push_old keys x k (within k refl))
  numbered_push keys x many slot.Many key within = refl

  -- A further key at an empty slot.
  pub push_empty : (slots after : List Slot) (keys : List K) (many number more : K → Option ℕ) (x : K) (last : ℕ) → IsSlotted eq slot_index slots keys many number → slot_at slots (slot_index x) ≡ slot.Empty → slot_index x < length slots → last ≡ length keys
      → after ≡ slice_set slots (slot_index x) (slot.One last) → ((key : K) → more key ≡ (if eq x key then Some last else number key)) → IsSlotted eq slot_index after (keys ++ x ∷ []) many more
  push_empty slots after keys many number more x last is empty inside counted set grown = record {
    found = λ key. by_index (slot_index x) (slot_index key)
        (λ same. grown key
        ∙ ap (λ o. if eq x key then Some last else o) (is.found key ∙ ap (λ s. numbered eq keys (many key) s key) (ap (slot_at slots) (sym same) ∙ empty))
        ∙ sym (ap (λ o. if is_key eq o key then Some last else None) (ap (slice_get (keys ++ x ∷ [])) counted ∙ get_push_new keys x))
        ∙ sym (ap (λ s. numbered eq (keys ++ x ∷ []) (many key) s key) (here key same)))
        (λ other. grown key
        ∙ ap (λ (b : Bool). if b then Some last else number key) (apart x key other)
        ∙ is.found key
        ∙ sym (numbered_push keys x (many key) (slot_at slots (slot_index key)) key (λ k one. is.within (slot_index key) k one))
        ∙ sym (ap (λ s. numbered eq (keys ++ x ∷ []) (many key) s key) (there (slot_index key) other)));
    alone = λ key none. by_index (slot_index x) (slot_index key)
        (λ same. is.alone key (ap is_many (ap (slot_at slots) (sym same) ∙ empty)))
        (λ other. is.alone key (sym (ap is_many (there (slot_index key) other)) ∙ none));
    within = λ p k one. by_index (slot_index x) p
        (λ same. let at : last ≡ k = one_inj last k (sym (at_index p same) ∙ one) in let grew : length (keys ++ x ∷ []) ≡ length keys + 1 = length_push keys x in omega (arith, at, counted, grew))
        (λ other. let before : k < length keys = is.within p k (sym (there p other) ∙ one) in let grew : length (keys ++ x ∷ []) ≡ length keys + 1 = length_push keys x in omega (arith, before, grew));
    placed = λ p k key one got. by_index (slot_index x) p
        (λ same. let at : k ≡ length keys = sym (one_inj last k (sym (at_index p same) ∙ one)) ∙ counted in
        let e : Some x ≡ Some key = sym (ap (slice_get (keys ++ x ∷ [])) at ∙ get_push_new keys x) ∙ got in
        let named : x ≡ key = cc in sym (ap slot_index named) ∙ same)
        (λ other. is.placed p k key (sym (there p other) ∙ one) (sym (get_push_old keys x k (is.within p k (sym (there p other) ∙ one))) ∙ got));
  }
    where
      at_index : (p : ℕ) → slot_index x ≡ p → slot_at after p ≡ slot.One last
      at_index p same = ap (slot_at after) (sym same) ∙ ap (λ ss. slot_at ss (slot_index x)) set ∙ slot_set_same slots (slot_index x) (slot.One last) inside

      here : (key : K) → slot_index x ≡ slot_index key → slot_at after (slot_index key) ≡ slot.One last
      here key same = at_index (slot_index key) same

      there : (p : ℕ) → (slot_index x ≢ p) → slot_at after p ≡ slot_at slots p
      there p other = ap (λ ss. slot_at ss p) set ∙ slot_set_other slots (slot_index x) p (slot.One last) other

  -- A further key at a slot of many.
  pub push_many : (slots : List Slot) (keys : List K) (many many_more number more : K → Option ℕ) (x : K) (last : ℕ) → IsSlotted eq slot_index slots keys many number → slot_at slots (slot_index x) ≡ slot.Many
      → ((key : K) → many_more key ≡ (if eq x key then Some last else many key)) → ((key : K) → more key ≡ (if eq x key then Some last else number key)) → IsSlotted eq slot_index slots (keys ++ x ∷ []) many_more more
  push_many slots keys many many_more number more x last is full added grown = record {
    found = λ key. by_test (eq x key)
        (λ one. grown key
        ∙ ap (λ (b : Bool). if b then Some last else number key) one
        ∙ sym (ap (λ (b : Bool). if b then Some last else many key) one)
        ∙ sym (added key)
        ∙ sym (ap (λ s. numbered eq (keys ++ x ∷ []) (many_more key) s key) (ap (slot_at slots) (sym (slot_index_same x key one)) ∙ full)))
        (λ other. grown key
        ∙ ap (λ (b : Bool). if b then Some last else number key) other
        ∙ is.found key
        ∙ sym (numbered_push keys x (many key) (slot_at slots (slot_index key)) key (λ k one. is.within (slot_index key) k one))
        ∙ sym (ap (λ m. numbered eq (keys ++ x ∷ []) m (slot_at slots (slot_index key)) key) (added key ∙ ap (λ (b : Bool). if b then Some last else many key) other)));
    alone = λ key none. by_test (eq x key)
        (λ one. absurd (true≢false (sym (ap is_many (ap (slot_at slots) (sym (slot_index_same x key one)) ∙ full)) ∙ none)))
        (λ other. added key ∙ ap (λ (b : Bool). if b then Some last else many key) other ∙ is.alone key none);
    within = λ p k one. let before : k < length keys = is.within p k one in let grew : length (keys ++ x ∷ []) ≡ length keys + 1 = length_push keys x in omega (arith, before, grew);
    placed = λ p k key one got. is.placed p k key one (sym (get_push_old keys x k (is.within p k one)) ∙ got);
  }

  -- The slot of one key becomes one of many.
  pub crowd : (slots after : List Slot) (keys : List K) (many many_more number : K → Option ℕ) (p k : ℕ) (y : K) → IsSlotted eq slot_index slots keys many number → slot_at slots p ≡ slot.One k → p < length slots → slice_get keys k ≡ Some y
      → after ≡ slice_set slots p slot.Many → ((key : K) → many_more key ≡ (if eq y key then Some k else many key)) → IsSlotted eq slot_index after keys many_more number
  crowd slots after keys many many_more number p k y is one inside got set added = record {
    found = λ key. by_index p (slot_index key)
        (λ same. is.found key
        ∙ ap (λ s. numbered eq keys (many key) s key) (ap (slot_at slots) (sym same) ∙ one)
        ∙ ap (λ o. if is_key eq o key then Some k else None) got
        ∙ sym (ap (λ o. if eq y key then Some k else o) (is.alone key (ap is_many (ap (slot_at slots) (sym same) ∙ one))))
        ∙ sym (added key)
        ∙ sym (ap (λ s. numbered eq keys (many_more key) s key) (at_index (slot_index key) same)))
        (λ other. is.found key
        ∙ sym (ap (λ m. numbered eq keys m (slot_at slots (slot_index key)) key) (unnamed key other))
        ∙ sym (ap (λ s. numbered eq keys (many_more key) s key) (there (slot_index key) other)));
    alone = λ key none. by_index p (slot_index key)
        (λ same. absurd (true≢false (sym (ap is_many (at_index (slot_index key) same)) ∙ none)))
        (λ other. unnamed key other ∙ is.alone key (sym (ap is_many (there (slot_index key) other)) ∙ none));
    within = λ q j at. by_index p q
        (λ same. absurd (let e : slot.Many ≡ slot.One j = sym (at_index q same) ∙ at in cc))
        (λ other. is.within q j (sym (there q other) ∙ at));
    placed = λ q j key at has. by_index p q
        (λ same. absurd (let e : slot.Many ≡ slot.One j = sym (at_index q same) ∙ at in cc))
        (λ other. is.placed q j key (sym (there q other) ∙ at) has);
  }
    where
      at_index : (q : ℕ) → p ≡ q → slot_at after q ≡ slot.Many
      at_index q same = ap (slot_at after) (sym same) ∙ ap (λ ss. slot_at ss p) set ∙ slot_set_same slots p slot.Many inside

      there : (q : ℕ) → (p ≢ q) → slot_at after q ≡ slot_at slots q
      there q other = ap (λ ss. slot_at ss q) set ∙ slot_set_other slots p q slot.Many other

      unnamed : (key : K) → (p ≢ slot_index key) → many_more key ≡ many key
      unnamed key other = added key ∙ ap (λ (b : Bool). if b then Some k else many key) (apart y key (λ same. other (sym (is.placed p k y one got) ∙ same)))

-- A map that says as much of the keys that share a slot may stand for the other.
pub many_same : {K : Type 0} (eq : K → K → Bool) (slot_index : K → ℕ) (slots : List Slot) (keys : List K) (many other number : K → Option ℕ) → IsSlotted eq slot_index slots keys many number → ((key : K) → other key ≡ many key) → IsSlotted eq slot_index slots keys other number
many_same eq slot_index slots keys many other number is same = record {
  found = λ key. is.found key ∙ sym (ap (λ m. numbered eq keys m (slot_at slots (slot_index key)) key) (same key));
  alone = λ key none. same key ∙ is.alone key none;
  within = is.within;
  placed = is.placed;
}

-- Without keys, if no slot has one.
pub no_keys : {K : Type 0} (eq : K → K → Bool) (slot_index : K → ℕ) (slots : List Slot) (many number : K → Option ℕ) → ((p k : ℕ) → slot_at slots p ≡ slot.One k → false ≡ true) → ((key : K) → many key ≡ None) → ((key : K) → number key ≡ None)
    → IsSlotted eq slot_index slots [] many number
no_keys eq slot_index slots many number none unknown numberless = record {
  found = λ key. numberless key ∙ sym (nothing (slot_at slots (slot_index key)) (many key) key (none (slot_index key)) (unknown key));
  alone = λ key one. unknown key;
  within = λ p k one. absurd (let e : false ≡ true = none p k one in true≢false (sym e));
  placed = λ p k key one got. absurd (let e : false ≡ true = none p k one in true≢false (sym e));
}
  where
    nothing : (s : Slot) (m : Option ℕ) (key : _) → ((k : ℕ) → s ≡ slot.One k → false ≡ true) → m ≡ None → numbered eq [] m s key ≡ None
    nothing slot.Empty m key none is = refl
    nothing (slot.One k) m key none is = refl
    nothing slot.Many m key none is = is

pub no_slots : (p k : ℕ) → slot_at [] p ≡ slot.One k → false ≡ true
no_slots p k one = absurd (let e : slot.Many ≡ slot.One k = one in cc)

pub empty_slots : (count p k : ℕ) → slot_at (replicate count slot.Empty) p ≡ slot.One k → false ≡ true
empty_slots zero p k one = absurd (let e : slot.Many ≡ slot.One k = one in cc)
empty_slots (suc count) zero k one = absurd (let e : slot.Empty ≡ slot.One k = one in cc)
empty_slots (suc count) (suc p) k one = empty_slots count p k one
