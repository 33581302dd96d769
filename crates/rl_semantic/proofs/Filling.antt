-- A table that is made step by step has the items of each key.
use Rattle.std.proofs.Common.{◌≡◌, ◌+◌, ◌<◌, ◌≤◌, arith, ℕ, zero, suc, Bool, true, false, if◌then◌else◌, nat_eq, nat_lt, eqb-true, ltb-true, ltb-false, Option, Some, None, List, [], ◌∷◌, ◌++◌, length, length-set, slice_get, replicate, append-nil, append_assoc, refl, sym, ap, subst, ◌∙◌}
use Rattle.std.proofs.lemmas.Bool.{eqb-false, lt-ltb}
use Rattle.rl_ast.specs.Marked.{first}
use Rattle.rl_bindings.proofs.LookUps.{get_set_same, get_set_other, by_test}
use Rattle.rl_semantic.specs.Items.{of_item}
use Rattle.rl_semantic.specs.Buckets.{further, those, those_below, keys_used, itself, bucket, put, put_all, tabled, AreBuckets, same, first_at, put_at, put_first, put_firsts, firsts_tabled, AreFirsts}

length_blank : {X : Type 0} (count : ℕ) (x : X) → length (replicate count x) ≡ count
length_blank zero x = refl
length_blank (suc count) x = ap suc (length_blank count x)

-- A step towards the number above all keys.
module _ (most count key : ℕ) where
  further_most : most ≤ further most count key
  further_most = by_test (nat_lt key count)
      (λ below. by_test (nat_lt most (key + 1))
      (λ more. let less : most < key + 1 = ltb-true most (key + 1) more in
      let is : further most count key ≡ key + 1 = λ i. if below i then (if more i then key + 1 else most) else most in omega (arith, less, is))
      (λ not. let is : further most count key ≡ most = λ i. if below i then (if not i then key + 1 else most) else most in omega (arith, is)))
      (λ beyond. let is : further most count key ≡ most = λ i. if beyond i then (if nat_lt most (key + 1) then key + 1 else most) else most in omega (arith, is))

  further_key : key < count → key < further most count key
  further_key within = by_test (nat_lt key count)
      (λ below. by_test (nat_lt most (key + 1))
      (λ more. let is : further most count key ≡ key + 1 = λ i. if below i then (if more i then key + 1 else most) else most in omega (arith, is))
      (λ not. let least : key + 1 ≤ most = ltb-false most (key + 1) not in
      let is : further most count key ≡ most = λ i. if below i then (if not i then key + 1 else most) else most in omega (arith, is, least)))
      (λ beyond. let other : count ≤ key = ltb-false key count beyond in absurd (omega (arith, other, within)))

  further_within : most ≤ count → further most count key ≤ count
  further_within fits = by_test (nat_lt key count)
      (λ below. let less : key < count = ltb-true key count below in by_test (nat_lt most (key + 1))
      (λ more. let is : further most count key ≡ key + 1 = λ i. if below i then (if more i then key + 1 else most) else most in omega (arith, is, less))
      (λ not. let is : further most count key ≡ most = λ i. if below i then (if not i then key + 1 else most) else most in omega (arith, is, fits)))
      (λ beyond. let is : further most count key ≡ most = λ i. if beyond i then (if nat_lt most (key + 1) then key + 1 else most) else most in omega (arith, is, fits))

module _ {T : Type 0} where
  -- The item of a pair, if the pair has the key.
  abbrev one : (key : ℕ) → ℕ × T → List T
  one key pair = if nat_eq pair.0 key then pair.1 ∷ [] else []

  at_put : (table : List (List T)) (key : ℕ) (pair : ℕ × T) → key < length table → bucket (put table pair) key ≡ bucket table key ++ one key pair
  at_put table key pair within = by_test (nat_eq pair.0 key)
      (λ is. let same : pair.0 ≡ key = eqb-true pair.0 key is in
      ap (of_item [] itself) (ap (slice_get (put table pair)) (sym same) ∙ get_set_same table pair.0 (bucket table pair.0 ++ pair.1 ∷ []) (subst (λ n. n < length table) (sym same) within))
      ∙ ap (λ n. bucket table n ++ pair.1 ∷ []) same
      ∙ ap (λ (b : Bool). bucket table key ++ (if b then pair.1 ∷ [] else [])) (sym is))
      (λ not. ap (of_item [] itself) (get_set_other table pair.0 key (bucket table pair.0 ++ pair.1 ∷ []) (eqb-false pair.0 key not))
      ∙ sym (append-nil (bucket table key))
      ∙ ap (λ (b : Bool). bucket table key ++ (if b then pair.1 ∷ [] else [])) (sym not))

  those_one : (key : ℕ) (pair : ℕ × T) (pairs : List (ℕ × T)) → one key pair ++ those key pairs ≡ those key (pair ∷ pairs)
  those_one key pair pairs = by_case (nat_eq pair.0 key)
    where
      by_case : (b : Bool) → (if b then pair.1 ∷ [] else []) ++ those key pairs ≡ (if b then pair.1 ∷ those key pairs else those key pairs)
      by_case true = refl
      by_case false = refl

  at_put_all : (table : List (List T)) (key : ℕ) (pairs : List (ℕ × T)) → key < length table → bucket (put_all table pairs) key ≡ bucket table key ++ those key pairs
  at_put_all table key [] within = sym (append-nil (bucket table key))
  at_put_all table key (pair ∷ pairs) within =
      at_put_all (put table pair) key pairs (subst (λ n. key < n) (sym (length-set table pair.0 (bucket table pair.0 ++ pair.1 ∷ []))) within)
      ∙ ap (λ items. items ++ those key pairs) (at_put table key pair within)
      ∙ append_assoc (bucket table key) (one key pair) (those key pairs)
      ∙ ap (λ items. bucket table key ++ items) (those_one key pair pairs)

  length_put_all : (table : List (List T)) (pairs : List (ℕ × T)) → length (put_all table pairs) ≡ length table
  length_put_all table [] = refl
  length_put_all table (pair ∷ pairs) = length_put_all (put table pair) pairs ∙ length-set table pair.0 (bucket table pair.0 ++ pair.1 ∷ [])

  at_blank : (count key : ℕ) → bucket (replicate {A = List T} count []) key ≡ []
  at_blank zero key = refl
  at_blank (suc count) zero = refl
  at_blank (suc count) (suc key) = at_blank count key

  past : (table : List (List T)) (key : ℕ) → length table ≤ key → bucket table key ≡ []
  past [] key beyond = refl
  past (items ∷ table) zero beyond = absurd (omega (arith, beyond))
  past (items ∷ table) (suc key) beyond = past table key (omega (arith, beyond))

  at_tabled : (count : ℕ) (pairs : List (ℕ × T)) (key : ℕ) → bucket (tabled count pairs) key ≡ those_below count key pairs
  at_tabled count pairs key = by_test (nat_lt key count)
      (λ below. let less : key < count = ltb-true key count below in
      at_put_all (replicate count []) key pairs (subst (λ n. key < n) (sym (length_blank count [])) less)
      ∙ ap (λ items. items ++ those key pairs) (at_blank count key)
      ∙ ap (λ (b : Bool). if b then those key pairs else []) (sym below))
      (λ not. let more : count ≤ key = ltb-false key count not in
      past (tabled count pairs) key (subst (λ n. n ≤ key) (sym (length_put_all (replicate count []) pairs ∙ length_blank count [])) more)
      ∙ ap (λ (b : Bool). if b then those key pairs else []) (sym not))

  -- A table for the keys up to the largest has what one for all keys has.
  used_above : (most count : ℕ) (pairs : List (ℕ × T)) → most ≤ keys_used most count pairs
  used_above most count [] = omega arith
  used_above most count (pair ∷ pairs) = let first = further_most most count pair.0 in let rest = used_above (further most count pair.0) count pairs in omega (arith, first, rest)

  used_within : (most count : ℕ) (pairs : List (ℕ × T)) → most ≤ count → keys_used most count pairs ≤ count
  used_within most count [] fits = fits
  used_within most count (pair ∷ pairs) fits = used_within (further most count pair.0) count pairs (further_within most count pair.0 fits)

  none_past : (most count key : ℕ) (pairs : List (ℕ × T)) → keys_used most count pairs ≤ key → key < count → those key pairs ≡ []
  none_past most count key [] over within = refl
  none_past most count key (pair ∷ pairs) over within = by_test (nat_eq pair.0 key)
      (λ is. let same : pair.0 ≡ key = eqb-true pair.0 key is in
      let above = further_key most count pair.0 (subst (λ k. k < count) (sym same) within) in
      let rest = used_above (further most count pair.0) count pairs in
      absurd (omega (arith, same, above, rest, over)))
      (λ not. ap (λ (b : Bool). if b then pair.1 ∷ those key pairs else those key pairs) not
      ∙ none_past (further most count pair.0) count key pairs over within)

  those_same : (count used key : ℕ) (pairs : List (ℕ × T)) → used ≡ keys_used 0 count pairs → those_below used key pairs ≡ those_below count key pairs
  those_same count used key pairs is =
      let fits : used ≤ count = subst (λ n. n ≤ count) (sym is) (used_within 0 count pairs (omega arith)) in
      by_test (nat_lt key used)
      (λ below. let less : key < used = ltb-true key used below in
      (λ i. if below i then those key pairs else [])
      ∙ sym (λ i. if lt-ltb key count (omega (arith, less, fits)) i then those key pairs else []))
      (λ not. let over : used ≤ key = ltb-false key used not in
      (λ i. if not i then those key pairs else [])
      ∙ by_test (nat_lt key count)
      (λ below. let less : key < count = ltb-true key count below in
      sym (none_past 0 count key pairs (subst (λ n. n ≤ key) is over) less) ∙ sym (λ i. if below i then those key pairs else []))
      (λ beyond. sym (λ i. if beyond i then those key pairs else [])))

  pub are_buckets : (count used : ℕ) (pairs : List (ℕ × T)) (table : List (List T)) → used ≡ keys_used 0 count pairs → table ≡ tabled used pairs → AreBuckets table count pairs
  are_buckets count used pairs table uses is = record { at = λ key. ap (λ t. bucket t key) is ∙ at_tabled used pairs key ∙ those_same count used key pairs uses }

  -- A table of the first items. The first of an item that may be there and of others behind it:
  abbrev first_or : Option T → List T → Option T
  first_or None items = first items
  first_or (Some item) items = Some item

  first_alone : (item : Option T) → item ≡ first_or item []
  first_alone None = refl
  first_alone (Some item) = refl

  length_put_at : (there : Option T) (table : List (Option T)) (pair : ℕ × T) → length (put_at there table pair) ≡ length table
  length_put_at None table pair = length-set table pair.0 (Some pair.1)
  length_put_at (Some item) table pair = refl

  length_put_firsts : (table : List (Option T)) (pairs : List (ℕ × T)) → length (put_firsts table pairs) ≡ length table
  length_put_firsts table [] = refl
  length_put_firsts table (pair ∷ pairs) = length_put_firsts (put_first table pair) pairs ∙ length_put_at (first_at table pair.0) table pair

  at_key : (there : Option T) (table : List (Option T)) (pair : ℕ × T) (items : List T) → first_at table pair.0 ≡ there → pair.0 < length table
      → first_or (first_at (put_first table pair) pair.0) items ≡ first_or (first_at table pair.0) (pair.1 ∷ items)
  at_key None table pair items is within =
      ap (λ x. first_or (first_at (put_at x table pair) pair.0) items) is
      ∙ ap (λ x. first_or (of_item None same x) items) (get_set_same table pair.0 (Some pair.1) within)
      ∙ sym (ap (λ x. first_or x (pair.1 ∷ items)) is)
  at_key (Some item) table pair items is within =
      ap (λ x. first_or (first_at (put_at x table pair) pair.0) items) is
      ∙ ap (λ x. first_or x items) is
      ∙ sym (ap (λ x. first_or x (pair.1 ∷ items)) is)

  at_other : (there : Option T) (table : List (Option T)) (key : ℕ) (pair : ℕ × T) → first_at table pair.0 ≡ there → nat_eq pair.0 key ≡ false → first_at (put_first table pair) key ≡ first_at table key
  at_other None table key pair is not = ap (λ x. first_at (put_at x table pair) key) is ∙ ap (of_item None same) (get_set_other table pair.0 key (Some pair.1) (eqb-false pair.0 key not))
  at_other (Some item) table key pair is not = ap (λ x. first_at (put_at x table pair) key) is

  at_put_firsts : (table : List (Option T)) (key : ℕ) (pairs : List (ℕ × T)) → key < length table → first_at (put_firsts table pairs) key ≡ first_or (first_at table key) (those key pairs)
  at_put_firsts table key [] within = first_alone (first_at table key)
  at_put_firsts table key (pair ∷ pairs) within =
      at_put_firsts (put_first table pair) key pairs (subst (λ n. key < n) (sym (length_put_at (first_at table pair.0) table pair)) within)
      ∙ by_test (nat_eq pair.0 key)
      (λ is. let k : pair.0 ≡ key = eqb-true pair.0 key is in
      subst (λ n. first_or (first_at (put_first table pair) n) (those key pairs) ≡ first_or (first_at table n) (pair.1 ∷ those key pairs)) k
      (at_key (first_at table pair.0) table pair (those key pairs) refl (subst (λ n. n < length table) (sym k) within))
      ∙ ap (λ (b : Bool). first_or (first_at table key) (if b then pair.1 ∷ those key pairs else those key pairs)) (sym is))
      (λ not. ap (λ x. first_or x (those key pairs)) (at_other (first_at table pair.0) table key pair refl not)
      ∙ ap (λ (b : Bool). first_or (first_at table key) (if b then pair.1 ∷ those key pairs else those key pairs)) (sym not))

  none_blank : (count key : ℕ) → first_at (replicate {A = Option T} count None) key ≡ None
  none_blank zero key = refl
  none_blank (suc count) zero = refl
  none_blank (suc count) (suc key) = none_blank count key

  none_beyond : (table : List (Option T)) (key : ℕ) → length table ≤ key → first_at table key ≡ None
  none_beyond [] key beyond = refl
  none_beyond (item ∷ table) zero beyond = absurd (omega (arith, beyond))
  none_beyond (item ∷ table) (suc key) beyond = none_beyond table key (omega (arith, beyond))

  at_firsts : (count : ℕ) (pairs : List (ℕ × T)) (key : ℕ) → first_at (firsts_tabled count pairs) key ≡ first (those_below count key pairs)
  at_firsts count pairs key = by_test (nat_lt key count)
      (λ below. let less : key < count = ltb-true key count below in
      at_put_firsts (replicate count None) key pairs (subst (λ n. key < n) (sym (length_blank {X = Option T} count None)) less)
      ∙ ap (λ x. first_or x (those key pairs)) (none_blank count key)
      ∙ ap (λ (b : Bool). first (if b then those key pairs else [])) (sym below))
      (λ not. let more : count ≤ key = ltb-false key count not in
      none_beyond (firsts_tabled count pairs) key (subst (λ n. n ≤ key) (sym (length_put_firsts (replicate count None) pairs ∙ length_blank {X = Option T} count None)) more)
      ∙ ap (λ (b : Bool). first (if b then those key pairs else [])) (sym not))

  pub are_firsts : (count used : ℕ) (pairs : List (ℕ × T)) (table : List (Option T)) → used ≡ keys_used 0 count pairs → table ≡ firsts_tabled used pairs → AreFirsts table count pairs
  are_firsts count used pairs table uses is = record { at = λ key. ap (λ t. first_at t key) is ∙ at_firsts used pairs key ∙ ap first (those_same count used key pairs uses) }
