-- Numbers that stand in a list more than once, and patterns that store none of them.
use Rattle.std.proofs.Common.{◌≡◌, ◌&&◌, ◌||◌, ℕ, nat_eq, nat_le, eqb-true, Bool, true, false, not, if◌then◌else◌, filter}
use Rattle.std.proofs.Common.{length, List, [], ◌∷◌, ap, sym, refl, ◌∙◌, arith}
use Rattle.std.proofs.lemmas.Bool.{lt-leb}
use Rattle.std.specs.BTreeSet.{BTreeSet, contains_by}
use Rattle.std.specs.List.{list_all}
use Rattle.std.specs.Ordering.{nat_cmp}
use Rattle.rl_bindings.proofs.LookUps.{by_test}
use Rattle.rl_code.proofs.Flagging.{eq_swapped}
use Rattle.rl_model.specs.Code.{contains, flat}
use Rattle.rl_model.specs.Orderly.{defaults_in, is_orderly_pattern, items_of, right_of, symbols_in, used_in}
use Rattle.rl_names.specs.Names.{Names}
use Rattle.rl_orderly.specs.Repeats.{is_alone, is_none, repeats}
use Rattle.rl_syntax.specs.Syntax.{Syntax}

abbrev step_of : (once twice : Bool) → (n : ℕ) → (xs : List ℕ) → Bool → Bool
step_of once twice n xs b = if b then repeats true (twice || once) n xs else repeats once twice n xs

or_false : (b : Bool) → b || false ≡ b
or_false true = refl
or_false false = refl

or_true : (b : Bool) → b || true ≡ true
or_true true = refl
or_true false = refl

-- A number that stands before a list, and again at its head.
pub again : (once twice more : ℕ → Bool) (n x : ℕ) (xs : List ℕ) → once x ≡ true → ((m : ℕ) → more m ≡ (twice m || nat_eq x m))
    → repeats (once n) (more n) n xs ≡ repeats (once n) (twice n) n (x ∷ xs)
again once twice more n x xs seen added = by_test (nat_eq n x)
    (λ holds. let one : once n ≡ true = ap once (eqb-true n x holds) ∙ seen in
    ap (λ b. repeats b (more n) n xs) one
    ∙ ap (λ b. repeats true b n xs) (added n ∙ ap (λ b. twice n || b) (eq_swapped x n ∙ holds) ∙ ap (λ b. twice n || b) (sym one))
    ∙ ap (step_of (once n) (twice n) n xs) (sym holds))
    (λ fails. ap (λ b. repeats (once n) b n xs) (added n ∙ ap (λ b. twice n || b) (eq_swapped x n ∙ fails) ∙ or_false (twice n))
    ∙ ap (step_of (once n) (twice n) n xs) (sym fails))

-- A number that does not stand before a list.
pub at_first : (once twice more : ℕ → Bool) (n x : ℕ) (xs : List ℕ) → once x ≡ false → ((m : ℕ) → more m ≡ (once m || nat_eq x m))
    → repeats (more n) (twice n) n xs ≡ repeats (once n) (twice n) n (x ∷ xs)
at_first once twice more n x xs unseen added = by_test (nat_eq n x)
    (λ holds. let none : once n ≡ false = ap once (eqb-true n x holds) ∙ unseen in
    ap (λ b. repeats b (twice n) n xs) (added n ∙ ap (λ b. once n || b) (eq_swapped x n ∙ holds) ∙ or_true (once n))
    ∙ ap (λ b. repeats true b n xs) (sym (or_false (twice n)) ∙ ap (λ b. twice n || b) (sym none))
    ∙ ap (step_of (once n) (twice n) n xs) (sym holds))
    (λ fails. ap (λ b. repeats b (twice n) n xs) (added n ∙ ap (λ b. once n || b) (eq_swapped x n ∙ fails) ∙ or_false (once n))
    ∙ ap (step_of (once n) (twice n) n xs) (sym fails))

abbrev has_one : List ℕ → Bool
has_one [] = false
has_one (x ∷ xs) = true

abbrev has_two : List ℕ → Bool
has_two [] = false
has_two (x ∷ xs) = has_one xs

either_way : (b c : Bool) → c ≡ true → (if b then c else c) ≡ true
either_way true c is = is
either_way false c is = is

twice_stays : (n : ℕ) (xs : List ℕ) → repeats true true n xs ≡ true
twice_stays n [] = refl
twice_stays n (x ∷ xs) = either_way (nat_eq n x) (repeats true true n xs) (twice_stays n xs)

more_step : (n x : ℕ) (xs : List ℕ) → repeats true false n xs ≡ has_one (filter (nat_eq n) xs) → (b : Bool)
    → (if b then repeats true true n xs else repeats true false n xs) ≡ has_one
    (if b then x ∷ filter (nat_eq n) xs else filter (nat_eq n) xs)
more_step n x xs rest true = twice_stays n xs
more_step n x xs rest false = rest

once_more : (n : ℕ) (xs : List ℕ) → repeats true false n xs ≡ has_one (filter (nat_eq n) xs)
once_more n [] = refl
once_more n (x ∷ xs) = more_step n x xs (once_more n xs) (nat_eq n x)

first_step : (n x : ℕ) (xs : List ℕ) → repeats false false n xs ≡ has_two (filter (nat_eq n) xs) → (b : Bool)
    → (if b then repeats true false n xs else repeats false false n xs) ≡ has_two
    (if b then x ∷ filter (nat_eq n) xs else filter (nat_eq n) xs)
first_step n x xs rest true = once_more n xs
first_step n x xs rest false = rest

stands_twice : (n : ℕ) (xs : List ℕ) → repeats false false n xs ≡ has_two (filter (nat_eq n) xs)
stands_twice n [] = refl
stands_twice n (x ∷ xs) = first_step n x xs (stands_twice n xs) (nat_eq n x)

by_length : (xs : List ℕ) → not (has_two xs) ≡ nat_le (length xs) 1
by_length [] = refl
by_length (x ∷ []) = refl
by_length (x ∷ y ∷ xs) = sym (lt-leb (length (x ∷ y ∷ xs)) 1 (omega arith))

-- With no `try` around it, a pattern is orderly whose names are alone.
pub alone : (n : Names) (opens : List ℕ) (pattern : Syntax) (twice : BTreeSet ℕ)
    → ((s : ℕ) → contains_by (nat_cmp s) twice ≡ repeats false false s (symbols_in (items_of n pattern)))
    → list_all (is_alone opens (flat (used_in n) (defaults_in pattern)) twice) (right_of (items_of n pattern)) ≡ is_orderly_pattern n
    (contains opens) false pattern
alone n opens pattern twice stands =
    let symbols = symbols_in (items_of n pattern) in
    let used = flat (used_in n) (defaults_in pattern) in
    let once : (s : ℕ) → not (contains_by (nat_cmp s) twice) ≡ nat_le (length (filter (nat_eq s) symbols)) 1 = (λ s.
    ap not (stands s ∙ stands_twice s symbols) ∙ by_length (filter (nat_eq s) symbols)) in
    (λ i. list_all (λ s. not (contains opens s) && not (contains used s) && once s i) (right_of (items_of n pattern)))

-- In a `try` block, a pattern is orderly that has no name right of a default or a nested part.
tried_names : (n : Names) (opens : ℕ → Bool) (pattern : Syntax) (xs : List ℕ)
    → is_none xs ≡ list_all (λ symbol. not true && not (opens symbol) && not (contains (flat (used_in n) (defaults_in pattern)) symbol)
    && nat_le (length (filter (nat_eq symbol) (symbols_in (items_of n pattern)))) 1) xs
tried_names n opens pattern [] = refl
tried_names n opens pattern (x ∷ xs) = refl

pub tried : (n : Names) (opens : ℕ → Bool) (pattern : Syntax) → is_none (right_of (items_of n pattern)) ≡ is_orderly_pattern n opens true pattern
tried n opens pattern = tried_names n opens pattern (right_of (items_of n pattern))
