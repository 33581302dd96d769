-- Lists of numbers without repetition, put together and taken apart.
use Rattle.std.proofs.Common.{◌≡◌, ℕ, zero, suc, ◌⊎◌, inl, inr, ◌++◌, List, [], ◌∷◌, slice_get, Some, Contains}
use Rattle.std.proofs.Common.{refl, sym, ap, ◌∙◌, subst, arith}
use Rattle.std.proofs.lemmas.Option.{get_or_from_slice_get, slice_get_within}
use Rattle.rl_base.specs.Distinct.{AreDistinct}

-- `item` stands in the list, at `index`.
pub record IsIn (items : List ℕ) (item : ℕ) : Type 0 where
  pub index : ℕ
  pub found : slice_get items index ≡ Some item

pub in_none : (item : ℕ) → IsIn [] item → ⊥
in_none item h = let never : slice_get {X = ℕ} [] h.index ≡ Some item = h.found in absurd (cc)

pub in_head : (x : ℕ) (xs : List ℕ) → IsIn (x ∷ xs) x
in_head x xs = record { index = 0; found = refl }

pub in_tail : (x : ℕ) (xs : List ℕ) (item : ℕ) → IsIn xs item → IsIn (x ∷ xs) item
in_tail x xs item h = record { index = suc h.index; found = h.found }

pub in_left : (xs ys : List ℕ) (item : ℕ) → IsIn xs item → IsIn (xs ++ ys) item
in_left xs ys item h = at xs h.index h.found
  where
    at : (zs : List ℕ) (index : ℕ) → slice_get zs index ≡ Some item → IsIn (zs ++ ys) item
    at [] index e = absurd (cc)
    at (z ∷ zs) zero e = record { index = 0; found = e }
    at (z ∷ zs) (suc index) e = in_tail z (zs ++ ys) item (at zs index e)

pub in_right : (xs ys : List ℕ) (item : ℕ) → IsIn ys item → IsIn (xs ++ ys) item
in_right [] ys item h = h
in_right (x ∷ xs) ys item h = in_tail x (xs ++ ys) item (in_right xs ys item h)

-- An item of two lists put together stands in one of them.
pub in_either : (xs ys : List ℕ) (item : ℕ) → IsIn (xs ++ ys) item → IsIn xs item ⊎ IsIn ys item
in_either [] ys item h = inr h
in_either (x ∷ xs) ys item h = by_index h.index h.found (in_either xs ys item)
  where
    tails : IsIn xs item ⊎ IsIn ys item → IsIn (x ∷ xs) item ⊎ IsIn ys item
    tails e = elim e [ inl l ↦ inl (in_tail x xs item l) | inr r ↦ inr r ]

    by_index : (index : ℕ) → slice_get (x ∷ xs ++ ys) index ≡ Some item → (IsIn (xs ++ ys) item → IsIn xs item ⊎ IsIn ys item)
        → IsIn (x ∷ xs) item ⊎ IsIn ys item
    by_index zero e rest = inl (record { index = 0; found = e })
    by_index (suc index) e rest = tails (rest (record { index = index; found = e }))

pub contains_in : (items : List ℕ) (item : ℕ) → IsIn items item → Contains items item
contains_in items item h =
    (h.index, slice_get_within items h.index item h.found, get_or_from_slice_get items h.index item item h.found)

pub distinct_none : AreDistinct {X = ℕ} []
distinct_none i j item a b = absurd (cc)

pub distinct_cons : (x : ℕ) (xs : List ℕ) → (IsIn xs x → ⊥) → AreDistinct xs → AreDistinct (x ∷ xs)
distinct_cons x xs fresh d zero zero item a b = refl
distinct_cons x xs fresh d zero (suc j) item a b = absurd (fresh (record { index = j; found = b ∙ sym a }))
distinct_cons x xs fresh d (suc i) zero item a b = absurd (fresh (record { index = i; found = a ∙ sym b }))
distinct_cons x xs fresh d (suc i) (suc j) item a b = ap (λ n. suc n) (d i j item a b)

pub distinct_tail : (x : ℕ) (xs : List ℕ) → AreDistinct (x ∷ xs) → AreDistinct xs
distinct_tail x xs d i j item a b = let same : suc i ≡ suc j = d (suc i) (suc j) item a b in omega arith

-- The first item does not stand in the rest.
pub distinct_head : (x : ℕ) (xs : List ℕ) → AreDistinct (x ∷ xs) → IsIn xs x → ⊥
distinct_head x xs d h = let same : 0 ≡ suc h.index = d 0 (suc h.index) x refl h.found in absurd (omega arith)

pub distinct_append : (xs ys : List ℕ) → AreDistinct xs → AreDistinct ys → ((item : ℕ) → IsIn xs item → IsIn ys item → ⊥)
    → AreDistinct (xs ++ ys)
distinct_append [] ys dx dy apart = dy
distinct_append (x ∷ xs) ys dx dy apart =
    distinct_cons x (xs ++ ys) fresh
    (distinct_append xs ys (distinct_tail x xs dx) dy (λ item left right. apart item (in_tail x xs item left) right))
  where
    fresh : IsIn (xs ++ ys) x → ⊥
    fresh h = elim (in_either xs ys x h) [ inl l ↦ distinct_head x xs dx l | inr r ↦ apart x (in_head x xs) r ]

pub distinct_left : (xs ys : List ℕ) → AreDistinct (xs ++ ys) → AreDistinct xs
distinct_left [] ys d = distinct_none
distinct_left (x ∷ xs) ys d =
    distinct_cons x xs (λ h. distinct_head x (xs ++ ys) d (in_left xs ys x h))
    (distinct_left xs ys (distinct_tail x (xs ++ ys) d))

pub distinct_right : (xs ys : List ℕ) → AreDistinct (xs ++ ys) → AreDistinct ys
distinct_right [] ys d = d
distinct_right (x ∷ xs) ys d = distinct_right xs ys (distinct_tail x (xs ++ ys) d)

-- No item stands in both.
pub distinct_apart : (xs ys : List ℕ) → AreDistinct (xs ++ ys) → (item : ℕ) → IsIn xs item → IsIn ys item → ⊥
distinct_apart [] ys d item left right = in_none item left
distinct_apart (x ∷ xs) ys d item left right =
    by_index left.index left.found (λ rest. distinct_apart xs ys (distinct_tail x (xs ++ ys) d) item rest right)
  where
    by_index : (index : ℕ) → slice_get (x ∷ xs) index ≡ Some item → (IsIn xs item → ⊥) → ⊥
    by_index zero e rest =
        let same : x ≡ item = cc in
        distinct_head x (xs ++ ys) d (in_right xs ys x (subst (λ n. IsIn ys n) (sym same) right))
    by_index (suc index) e rest = rest (record { index = index; found = e })

-- An item that stands nowhere goes last.
pub distinct_push : (xs : List ℕ) (x : ℕ) → AreDistinct xs → (IsIn xs x → ⊥) → AreDistinct (xs ++ x ∷ [])
distinct_push xs x d fresh =
    distinct_append xs (x ∷ []) d (distinct_cons x [] (in_none x) distinct_none)
    (λ item left right. fresh (alone item left right))
  where
    alone : (item : ℕ) → IsIn xs item → IsIn (x ∷ []) item → IsIn xs x
    alone item left right = by_index right.index right.found
      where
        by_index : (index : ℕ) → slice_get (x ∷ []) index ≡ Some item → IsIn xs x
        by_index zero e = (let same : x ≡ item = cc in subst (λ n. IsIn xs n) (sym same) left)
        by_index (suc index) e = absurd (in_none item (record { index = index; found = e }))
