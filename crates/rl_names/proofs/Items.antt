-- Lists by recursion: what is true of each item, and an item that is one of them.
use Rattle.std.proofs.Common.{◌≡◌, ℕ, zero, suc, ◌⊎◌, inl, inr, Some, List, [], ◌∷◌, ◌++◌, map, slice_get, Contains, sym, ap, subst, arith}
use Rattle.std.specs.List.{AllByRecursion}

pub each-append : {X : Type 0} (P : X → Type 0) (xs ys : List X) → AllByRecursion P xs → AllByRecursion P ys → AllByRecursion P (xs ++ ys)
each-append P [] ys first second = second
each-append P (x ∷ xs) ys first second = (first.0, each-append P xs ys first.1 second)

pub each_left : {X : Type 0} (P : X → Type 0) (xs ys : List X) → AllByRecursion P (xs ++ ys) → AllByRecursion P xs
each_left P [] ys all = tt
each_left P (x ∷ xs) ys all = (all.0, each_left P xs ys all.1)

pub each_right : {X : Type 0} (P : X → Type 0) (xs ys : List X) → AllByRecursion P (xs ++ ys) → AllByRecursion P ys
each_right P [] ys all = all
each_right P (x ∷ xs) ys all = each_right P xs ys all.1

pub each_weaker : {X : Type 0} (P Q : X → Type 0) (xs : List X) → ((x : X) → P x → Q x) → AllByRecursion P xs → AllByRecursion Q xs
each_weaker P Q [] weak all = tt
each_weaker P Q (x ∷ xs) weak all = (weak x all.0, each_weaker P Q xs weak all.1)

-- `x` is one of a list's items.
abbrev pub Has : {X : Type 0} → List X → X → Type 0
Has [] x = ⊥
Has (y ∷ ys) x = (x ≡ y) ⊎ Has ys x

pub has_left : {X : Type 0} (xs ys : List X) (x : X) → Has xs x → Has (xs ++ ys) x
has_left [] ys x has = absurd has
has_left (y ∷ xs) ys x (inl is) = inl is
has_left (y ∷ xs) ys x (inr more) = inr (has_left xs ys x more)

pub has_right : {X : Type 0} (xs ys : List X) (x : X) → Has ys x → Has (xs ++ ys) x
has_right [] ys x has = has
has_right (y ∷ xs) ys x has = inr (has_right xs ys x has)

pub has_cases : {X : Type 0} (xs ys : List X) (x : X) → Has (xs ++ ys) x → Has xs x ⊎ Has ys x
has_cases [] ys x has = inr has
has_cases (y ∷ xs) ys x (inl is) = inl (inl is)
has_cases (y ∷ xs) ys x (inr more) = elim (has_cases xs ys x more) [ inl left ↦ inl (inr left) | inr right ↦ inr right ]

pub has_item : {X : Type 0} (xs : List X) (k : ℕ) (x : X) → slice_get xs k ≡ Some x → Has xs x
has_item [] k x is = absurd (cc)
has_item (y ∷ xs) zero x is = inl (let e : x ≡ y = cc in e)
has_item (y ∷ xs) (suc k) x is = inr (has_item xs k x is)

pub each_has : {X : Type 0} (P : X → Type 0) (xs : List X) (x : X) → AllByRecursion P xs → Has xs x → P x
each_has P [] x all has = absurd has
each_has P (y ∷ xs) x all (inl is) = subst P (sym is) all.0
each_has P (y ∷ xs) x all (inr more) = each_has P xs x all.1 more

pub has_map : {X Y : Type 0} (f : X → Y) (xs : List X) (x : X) → Has xs x → Has (map f xs) (f x)
has_map f [] x has = absurd has
has_map f (y ∷ xs) x (inl is) = inl (ap f is)
has_map f (y ∷ xs) x (inr more) = inr (has_map f xs x more)

pub contains : {X : Type 0} (xs : List X) (x : X) → Has xs x → Contains xs x
contains [] x has = absurd has
contains (y ∷ xs) x (inl is) = (zero, omega arith, sym is)
contains (y ∷ xs) x (inr more) = let c = contains xs x more in (suc c.0, (let less = c.1 in omega (arith, less)), c.2)
