-- Items of orderly patterns, by their parts: a name right of a default or a nested part stands once, and no default there names it.
use Rattle.std.proofs.Common.{◌≡◌, ℕ, Bool, true, false, true≢false, ◌&&◌, ◌||◌, not, nat_eq, nat_le, if◌then◌else◌, ◌≤◌, ◌+◌, List, []}
use Rattle.std.proofs.Common.{◌∷◌, ◌++◌, length, filter, append_assoc, eqb-true, leb-true, refl, sym, ap, subst, ◌∙◌, arith}
use Rattle.std.proofs.lemmas.Bool.{and_parts, not-true}
use Rattle.std.specs.List.{list_all}
use Rattle.rl_model.specs.Code.{contains, flat}
use Rattle.rl_model.specs.Orderly.{Item, Binds, Passes, defaults_in, is_orderly_pattern, items_of, right_of, symbols_in, used_in}
use Rattle.rl_names.specs.Names.{Names}
use Rattle.rl_promises.proofs.OrderlyCalls.{contains_left, contains_right}
use Rattle.rl_promises.proofs.ReadNames.{flat_left, flat_right}
use Rattle.rl_syntax.specs.Syntax.{Syntax}

-- The number of occurrences of a variable in a row.
abbrev pub times : ℕ → List ℕ → ℕ
times symbol symbols = length (filter (nat_eq symbol) symbols)

-- Items of a pattern in which the names right of a default or a nested part are so, and the defaults there.
pub record AreFine (names : Names) (tried : Bool) (items : List Item) (defaults : List Syntax) : Type 0 where
  pub untried : (symbol : ℕ) → contains (right_of items) symbol ≡ true → tried ≡ false
  pub unused : (symbol : ℕ) → contains (right_of items) symbol ≡ true → contains (flat (used_in names) defaults) symbol ≡ false
  pub once : (symbol : ℕ) → contains (right_of items) symbol ≡ true → times symbol (symbols_in items) ≤ 1

-- Rows of variables.

pub absent : (xs ys : List ℕ) (symbol : ℕ) → (contains xs symbol ≡ true → contains ys symbol ≡ true) → contains ys symbol ≡ false
    → contains xs symbol ≡ false
absent xs ys symbol within gone = by_test (contains xs symbol) refl
  where
    by_test : (b : Bool) → contains xs symbol ≡ b → b ≡ false
    by_test false is = refl
    by_test true is = absurd (true≢false (sym (within is) ∙ gone))

-- Variables of one row are none of the other one.
pub apart_from : (xs ys : List ℕ) → ((symbol : ℕ) → contains ys symbol ≡ true → contains xs symbol ≡ false)
    → (symbol : ℕ) → contains xs symbol ≡ true → contains ys symbol ≡ false
apart_from xs ys apart symbol there = by_test (contains ys symbol) refl
  where
    by_test : (b : Bool) → contains ys symbol ≡ b → b ≡ false
    by_test false is = refl
    by_test true is = absurd (true≢false (sym there ∙ apart symbol is))

times-append : (symbol : ℕ) (xs ys : List ℕ) → times symbol (xs ++ ys) ≡ times symbol xs + times symbol ys
times-append symbol [] ys = omega arith
times-append symbol (x ∷ xs) ys = by_test (times-append symbol xs ys) (nat_eq symbol x)
  where
    by_test : times symbol (xs ++ ys) ≡ times symbol xs + times symbol ys → (b : Bool)
        → length (if b then x ∷ filter (nat_eq symbol) (xs ++ ys) else filter (nat_eq symbol) (xs ++ ys))
        ≡ length (if b then x ∷ filter (nat_eq symbol) xs else filter (nat_eq symbol) xs) + times symbol ys
    by_test more true = omega arith
    by_test more false = more

times_there : (symbol : ℕ) (xs : List ℕ) → contains xs symbol ≡ true → 1 ≤ times symbol xs
times_there symbol [] there = absurd (true≢false (sym there))
times_there symbol (x ∷ xs) there = by_test (times_there symbol xs) (nat_eq symbol x) there
  where
    by_test : (contains xs symbol ≡ true → 1 ≤ times symbol xs) → (b : Bool) → b || contains xs symbol ≡ true
        → 1 ≤ length (if b then x ∷ filter (nat_eq symbol) xs else filter (nat_eq symbol) xs)
    by_test later true there = omega arith
    by_test later false there = later there

-- Items by their parts.

symbols_in-append : (xs ys : List Item) → symbols_in (xs ++ ys) ≡ symbols_in xs ++ symbols_in ys
symbols_in-append [] ys = refl
symbols_in-append (Binds symbol ∷ xs) ys = ap (λ (l : List ℕ). symbol ∷ l) (symbols_in-append xs ys)
symbols_in-append (Passes ∷ xs) ys = symbols_in-append xs ys

pub symbols_left : (xs ys : List Item) (symbol : ℕ) → contains (symbols_in xs) symbol ≡ true
    → contains (symbols_in (xs ++ ys)) symbol ≡ true
symbols_left xs ys symbol there =
    subst (λ (l : List ℕ). contains l symbol ≡ true) (sym (symbols_in-append xs ys))
    (contains_left (symbols_in xs) (symbols_in ys) symbol there)

pub symbols_right : (xs ys : List Item) (symbol : ℕ) → contains (symbols_in ys) symbol ≡ true
    → contains (symbols_in (xs ++ ys)) symbol ≡ true
symbols_right xs ys symbol there =
    subst (λ (l : List ℕ). contains l symbol ≡ true) (sym (symbols_in-append xs ys))
    (contains_right (symbols_in xs) (symbols_in ys) symbol there)

right_of_some : (xs : List Item) (symbol : ℕ) → contains (right_of xs) symbol ≡ true → contains (symbols_in xs) symbol ≡ true
right_of_some [] symbol there = there
right_of_some (Binds other ∷ xs) symbol there = contains_right (other ∷ []) (symbols_in xs) symbol (right_of_some xs symbol there)
right_of_some (Passes ∷ xs) symbol there = there

right_left : (xs ys : List Item) (symbol : ℕ) → contains (right_of xs) symbol ≡ true → contains (right_of (xs ++ ys)) symbol ≡ true
right_left [] ys symbol there = absurd (true≢false (sym there))
right_left (Binds other ∷ xs) ys symbol there = right_left xs ys symbol there
right_left (Passes ∷ xs) ys symbol there = symbols_left xs ys symbol there

right_right : (xs ys : List Item) (symbol : ℕ) → contains (right_of ys) symbol ≡ true → contains (right_of (xs ++ ys)) symbol ≡ true
right_right [] ys symbol there = there
right_right (Binds other ∷ xs) ys symbol there = right_right xs ys symbol there
right_right (Passes ∷ xs) ys symbol there = symbols_right xs ys symbol (right_of_some ys symbol there)

-- A default or a nested part is among these items.
abbrev pub has_passed : List Item → Bool
has_passed [] = false
has_passed (Binds symbol ∷ xs) = has_passed xs
has_passed (Passes ∷ xs) = true

pub passed_last : (xs : List Item) → has_passed (xs ++ Passes ∷ []) ≡ true
passed_last [] = refl
passed_last (Binds symbol ∷ xs) = passed_last xs
passed_last (Passes ∷ xs) = refl

right_passed : (xs ys : List Item) (symbol : ℕ) → has_passed xs ≡ true → contains (symbols_in ys) symbol ≡ true
    → contains (right_of (xs ++ ys)) symbol ≡ true
right_passed [] ys symbol passed there = absurd (true≢false (sym passed))
right_passed (Binds other ∷ xs) ys symbol passed there = right_passed xs ys symbol passed there
right_passed (Passes ∷ xs) ys symbol passed there = symbols_right xs ys symbol there

-- Orderly items by their parts.
module _ (names : Names) (tried : Bool) where
  pub fine_front : (xs ys : List Item) (defaults : List Syntax) → AreFine names tried (xs ++ ys) defaults → AreFine names tried xs defaults
  fine_front xs ys defaults fine = record {
    untried = λ symbol there. fine.untried symbol (right_left xs ys symbol there);
    unused = λ symbol there. fine.unused symbol (right_left xs ys symbol there);
    once = λ symbol there.
        let whole = fine.once symbol (right_left xs ys symbol there) in
        let parted = ap (times symbol) (symbols_in-append xs ys) ∙ times-append symbol (symbols_in xs) (symbols_in ys) in omega arith;
  }

  pub fine_defaults : (items : List Item) (defaults some : List Syntax)
      → ((symbol : ℕ) → contains (flat (used_in names) some) symbol ≡ true → contains (flat (used_in names) defaults) symbol ≡ true)
      → AreFine names tried items defaults → AreFine names tried items some
  fine_defaults items defaults some within fine = record {
    untried = fine.untried;
    unused = λ symbol there.
        absent (flat (used_in names) some) (flat (used_in names) defaults) symbol (within symbol) (fine.unused symbol there);
    once = fine.once;
  }

  pub fine_left : (xs ys : List Item) (some others : List Syntax) → AreFine names tried (xs ++ ys) (some ++ others)
      → AreFine names tried xs some
  fine_left xs ys some others fine =
      fine_defaults xs (some ++ others) some (flat_left (used_in names) some others) (fine_front xs ys (some ++ others) fine)

  pub fine_right : (xs ys : List Item) (some others : List Syntax) → AreFine names tried (xs ++ ys) (some ++ others)
      → AreFine names tried ys others
  fine_right xs ys some others fine = record {
    untried = λ symbol there. fine.untried symbol (right_right xs ys symbol there);
    unused = λ symbol there.
        absent (flat (used_in names) others) (flat (used_in names) (some ++ others)) symbol
        (flat_right (used_in names) some others symbol) (fine.unused symbol (right_right xs ys symbol there));
    once = λ symbol there.
        let whole = fine.once symbol (right_right xs ys symbol there) in
        let parted = ap (times symbol) (symbols_in-append xs ys) ∙ times-append symbol (symbols_in xs) (symbols_in ys) in omega arith;
  }

  -- The first of some parts, and then the others.
  pub fine_parted : (xs ys zs : List Item) (first second third : List Syntax)
      → AreFine names tried (xs ++ ys ++ zs) (first ++ second ++ third)
      → AreFine names tried (xs ++ (ys ++ zs)) (first ++ (second ++ third))
  fine_parted xs ys zs first second third fine =
      subst (λ (items : List Item). AreFine names tried items (first ++ (second ++ third))) (append_assoc xs ys zs)
      (subst (AreFine names tried (xs ++ ys ++ zs)) (append_assoc first second third) fine)

  -- A name behind a part that has passed.
  pub record IsPast (xs : List Item) (some : List Syntax) (symbol : ℕ) : Type 0 where
    pub untried : tried ≡ false
    pub unused : contains (flat (used_in names) some) symbol ≡ false
    pub unbound : contains (symbols_in xs) symbol ≡ false

  pub past : (xs ys : List Item) (some others : List Syntax) → AreFine names tried (xs ++ ys) (some ++ others) → has_passed xs ≡ true
      → (symbol : ℕ) → contains (symbols_in ys) symbol ≡ true → IsPast xs some symbol
  past xs ys some others fine passed symbol there =
      let right = right_passed xs ys symbol passed there in record {
        untried = fine.untried symbol right;
        unused =
            absent (flat (used_in names) some) (flat (used_in names) (some ++ others)) symbol (flat_left (used_in names) some others symbol)
            (fine.unused symbol right);
        unbound = by_test (contains (symbols_in xs) symbol) refl;
      }
    where
      by_test : (b : Bool) → contains (symbols_in xs) symbol ≡ b → b ≡ false
      by_test false is = refl
      by_test true is =
          let whole = fine.once symbol (right_passed xs ys symbol passed there) in
          let parted = ap (times symbol) (symbols_in-append xs ys) ∙ times-append symbol (symbols_in xs) (symbols_in ys) in
          let first = times_there symbol (symbols_in xs) is in
          let second = times_there symbol (symbols_in ys) there in absurd (omega arith)

-- An orderly pattern has such items.
module _ (names : Names) (opens : ℕ → Bool) (tried : Bool) (pattern : Syntax) where
  abbrev holds : ℕ → Bool
  holds symbol =
      not tried && not (opens symbol) && not (contains (flat (used_in names) (defaults_in pattern)) symbol)
      && nat_le (times symbol (symbols_in (items_of names pattern))) 1

  one_of : (f : ℕ → Bool) (xs : List ℕ) (symbol : ℕ) → list_all f xs ≡ true → contains xs symbol ≡ true → f symbol ≡ true
  one_of f [] symbol all there = absurd (true≢false (sym there))
  one_of f (x ∷ xs) symbol all there =
      let both = and_parts (f x) (list_all f xs) all in by_test (one_of f xs symbol both.1) (nat_eq symbol x) refl both.0 there
    where
      by_test : (contains xs symbol ≡ true → f symbol ≡ true) → (b : Bool) → nat_eq symbol x ≡ b → f x ≡ true
          → b || contains xs symbol ≡ true → f symbol ≡ true
      by_test later true is own there = ap f (eqb-true symbol x is) ∙ own
      by_test later false is own there = later there

  pub fine_of : is_orderly_pattern names opens tried pattern ≡ true → AreFine names tried (items_of names pattern) (defaults_in pattern)
  fine_of orderly = record {
    untried = λ symbol there. not-true tried (parts symbol there).0;
    unused = λ symbol there. not-true _ (parts symbol there).1;
    once = λ symbol there. leb-true _ _ (parts symbol there).2;
  }
    where
      parts : (symbol : ℕ) → contains (right_of (items_of names pattern)) symbol ≡ true
          → (not tried ≡ true) × (not (contains (flat (used_in names) (defaults_in pattern)) symbol) ≡ true)
          × (nat_le (times symbol (symbols_in (items_of names pattern))) 1 ≡ true)
      parts symbol there =
          let all = one_of holds (right_of (items_of names pattern)) symbol orderly there in
          let last = and_parts (not tried && not (opens symbol) && not (contains (flat (used_in names) (defaults_in pattern)) symbol)) _
          all in
          let third = and_parts (not tried && not (opens symbol)) _ last.0 in
          ((and_parts (not tried) _ third.0).0, third.1, last.1)
