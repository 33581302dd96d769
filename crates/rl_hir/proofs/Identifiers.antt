-- A change of one entry of a list: its effect, and the entries that stay.
use Rattle.std.proofs.Common.{◌≡◌, ◌≢◌, ◌⊎◌, ℕ, ◌<◌, ◌≤◌, Option, Some, None, List, length, slice_get, slice_set, inl, inr, refl, sym, ap, ◌∙◌, subst, length-set}
use Rattle.std.proofs.lemmas.Bool.{cases_lt}
use Rattle.std.proofs.lemmas.List.{get_or-set_same, get_or-set_other}
use Rattle.std.proofs.lemmas.Option.{slice_get-get_or, slice_get_past, slice_get_within}
use Rattle.rl_hir.specs.Identifiers.{changed_at}

pub changed_at-set : {X : Type 0} (change : X → X) (index : ℕ) (items : List X) (item : X) → slice_get items index ≡ Some item → changed_at change index items ≡ slice_set items index (change item)
changed_at-set change index items item at = rw (at, changed_at) refl

pub changed_at-past : {X : Type 0} (change : X → X) (index : ℕ) (items : List X) → slice_get items index ≡ None → changed_at change index items ≡ items
changed_at-past change index items none = rw (none, changed_at) refl

item-or-none : {X : Type 0} (o : Option X) → ((x : X) × (o ≡ Some x)) ⊎ (o ≡ None)
item-or-none None = inr refl
item-or-none (Some x) = inl (x, refl)

pub length-changed_at : {X : Type 0} (change : X → X) (index : ℕ) (items : List X) → length (changed_at change index items) ≡ length items
length-changed_at change index items = elim (item-or-none (slice_get items index)) [
  | inl here ↦ ap length (changed_at-set change index items here.0 here.1) ∙ length-set items index (change here.0)
  | inr none ↦ ap length (changed_at-past change index items none)
]

set_same : {X : Type 0} (items : List X) (index : ℕ) (item : X) → index < length items → slice_get (slice_set items index item) index ≡ Some item
set_same items index item below =
    slice_get-get_or (slice_set items index item) index item (subst (λ n. index < n) (sym (length-set items index item)) below)
    ∙ ap Some (get_or-set_same items index item item below)

set_other : {X : Type 0} (items : List X) (index i : ℕ) (item : X) → i ≢ index → slice_get (slice_set items index item) i ≡ slice_get items i
set_other items index i item apart =
    let long : length (slice_set items index item) ≡ length items = length-set items index item in
    elim (cases_lt i (length items)) [
      | inl below ↦
          slice_get-get_or (slice_set items index item) i item (subst (λ n. i < n) (sym long) below)
          ∙ ap Some (get_or-set_other items index i item item apart)
          ∙ sym (slice_get-get_or items i item below)
      | inr past ↦ slice_get_past (slice_set items index item) i (subst (λ n. n ≤ i) (sym long) past) ∙ sym (slice_get_past items i past)
    ]

-- The entry that is changed.
pub slice_get-changed_at_same : {X : Type 0} (change : X → X) (index : ℕ) (items : List X) (item : X) → slice_get items index ≡ Some item → slice_get (changed_at change index items) index ≡ Some (change item)
slice_get-changed_at_same change index items item at =
    ap (λ xs. slice_get xs index) (changed_at-set change index items item at)
    ∙ set_same items index (change item) (slice_get_within items index item at)

-- All other entries.
pub slice_get-changed_at_other : {X : Type 0} (change : X → X) (index i : ℕ) (items : List X) → i ≢ index → slice_get (changed_at change index items) i ≡ slice_get items i
slice_get-changed_at_other change index i items apart = elim (item-or-none (slice_get items index)) [
  | inl here ↦ ap (λ xs. slice_get xs i) (changed_at-set change index items here.0 here.1) ∙ set_other items index i (change here.0) apart
  | inr none ↦ ap (λ xs. slice_get xs i) (changed_at-past change index items none)
]
