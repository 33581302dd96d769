-- The entries of each scope, and what a scope binds.
use Rattle.std.proofs.Common.{◌≡◌, ◌<◌, ◌≤◌, ℕ, zero, suc, ◌+◌, Bool, true, false, ◌&&◌, ◌||◌, if◌then◌else◌, cond, true≢false, nat_eq, nat_lt, eqb-true, ltb-true, ltb-false, Option, Some, None, is_some, List, [], ◌∷◌, length, slice_get, replicate, refl, sym, ap, subst, ◌∙◌, arith}
use Rattle.std.proofs.lemmas.Bool.{and_parts}
use Rattle.std.specs.List.{list_any, position_from}
use Rattle.rl_bindings.specs.Machines.{entries_at, entries_before, entry_before, entry_of, larger, count_names, count_scopes}
use Rattle.rl_bindings.specs.Symbols.{same, is_own, is_at, number_at, option_or, binding}
use Rattle.rl_bindings.specs.declared.event.Bound.{Bound}
use Rattle.rl_bindings.specs.declared.resolve.Entry.{Entry}
use Rattle.rl_bindings.proofs.LookUps.{by_test, has, Says}

-- Each symbol has a name below `most`.
abbrev pub AreNamed : (most : ℕ) → List Bound → Type 0
AreNamed most [] = Unit {0}
AreNamed most (b ∷ bs) = (b.name < most) × AreNamed most bs

-- Each symbol is one of a scope below `most`.
abbrev pub AreScoped : (most : ℕ) → List Bound → Type 0
AreScoped most [] = Unit {0}
AreScoped most (b ∷ bs) = (b.scope.0 < most) × AreScoped most bs

larger-left : (m n : ℕ) → m ≤ larger m n
larger-left m n = by_test (nat_lt m n)
    (λ lt. let is : larger m n ≡ n = ap (λ (b : Bool). if b then n else m) lt in let less : m < n = ltb-true m n lt in omega (arith, is, less))
    (λ ge. let is : larger m n ≡ m = ap (λ (b : Bool). if b then n else m) ge in omega (arith, is))

larger-right : (m n : ℕ) → n ≤ larger m n
larger-right m n = by_test (nat_lt m n)
    (λ lt. let is : larger m n ≡ n = ap (λ (b : Bool). if b then n else m) lt in omega (arith, is))
    (λ ge. let is : larger m n ≡ m = ap (λ (b : Bool). if b then n else m) ge in let more : n ≤ m = ltb-false m n ge in omega (arith, is, more))

names-above : (most : ℕ) (bs : List Bound) → most ≤ count_names most bs
names-above most [] = omega arith
names-above most (b ∷ bs) = let one = larger-left most (b.name + 1) in let more = names-above (larger most (b.name + 1)) bs in omega (arith, one, more)

pub named : (most : ℕ) (bs : List Bound) → AreNamed (count_names most bs) bs
named most [] = tt
named most (b ∷ bs) = ((let one = larger-right most (b.name + 1) in let more = names-above (larger most (b.name + 1)) bs in omega (arith, one, more)), named (larger most (b.name + 1)) bs)

scopes-above : (most : ℕ) (bs : List Bound) → most ≤ count_scopes most bs
scopes-above most [] = omega arith
scopes-above most (b ∷ bs) = let one = larger-left most (b.scope.0 + 1) in let more = scopes-above (larger most (b.scope.0 + 1)) bs in omega (arith, one, more)

pub scoped : (most : ℕ) (bs : List Bound) → AreScoped (count_scopes most bs) bs
scoped most [] = tt
scoped most (b ∷ bs) = ((let one = larger-right most (b.scope.0 + 1) in let more = scopes-above (larger most (b.scope.0 + 1)) bs in omega (arith, one, more)), scoped (larger most (b.scope.0 + 1)) bs)

pub length-blank : {X : Type 0} (x : X) (n : ℕ) → length (replicate n x) ≡ n
length-blank x zero = refl
length-blank x (suc n) = ap suc (length-blank x n)

says_if : (symbols : List Bound) (s : ℕ) (rest : List Entry) (o : Option Bound) → Says (binding symbols s) rest → Says (binding symbols s) (entry_before symbols s rest o)
says_if symbols s rest None says = says
says_if symbols s rest (Some b) says = by (nat_eq b.scope.0 s) refl
  where
    by : (c : Bool) → nat_eq b.scope.0 s ≡ c → Says (binding symbols s) (if c then entry_of symbols b ∷ rest else rest)
    by true is = (ap (λ t. binding symbols t b.name) (eqb-true b.scope.0 s is), says)
    by false is = says

says-before : (symbols : List Bound) (s n : ℕ) → Says (binding symbols s) (entries_before symbols s n)
says-before symbols s zero = tt
says-before symbols s (suc n) = says_if symbols s (entries_before symbols s n) (slice_get symbols n) (says-before symbols s n)

-- The entries of a scope say what the scope binds their names to.
pub says-at : (symbols : List Bound) (s : ℕ) → Says (binding symbols s) (entries_at symbols s)
says-at symbols s = says-before symbols s (length symbols)

-- True of a declaration of the name `n` in the scope `s`.
abbrev is_here : (s n : ℕ) → Bound → Bool
is_here s n b = nat_eq b.scope.0 s && nat_eq b.name n

abbrev holds : (Bound → Bool) → Option Bound → Bool
holds p None = false
holds p (Some b) = p b

-- `any_before p bs n`: as `list_any p`, of the first `n` of `bs`, from the last on.
abbrev any_before : (Bound → Bool) → List Bound → ℕ → Bool
any_before p bs zero = false
any_before p bs (suc n) = holds p (slice_get bs n) || any_before p bs n

or_swap : (a b c : Bool) → (a || (b || c)) ≡ (b || (a || c))
or_swap true true c = refl
or_swap true false c = refl
or_swap false b c = refl

any_cons : (p : Bound → Bool) (b : Bound) (bs : List Bound) (n : ℕ) → any_before p (b ∷ bs) (suc n) ≡ (p b || any_before p bs n)
any_cons p b bs zero = refl
any_cons p b bs (suc n) = ap (λ c. holds p (slice_get bs n) || c) (any_cons p b bs n) ∙ or_swap (holds p (slice_get bs n)) (p b) (any_before p bs n)

any_all : (p : Bound → Bool) (bs : List Bound) → any_before p bs (length bs) ≡ list_any p bs
any_all p [] = refl
any_all p (b ∷ bs) = any_cons p b bs (length bs) ∙ ap (λ c. p b || c) (any_all p bs)

has_if : (symbols : List Bound) (s n : ℕ) (rest : List Entry) (o : Option Bound) → has (entry_before symbols s rest o) n ≡ (holds (is_here s n) o || has rest n)
has_if symbols s n rest None = refl
has_if symbols s n rest (Some b) = by (nat_eq b.scope.0 s)
  where
    by : (c : Bool) → has (if c then entry_of symbols b ∷ rest else rest) n ≡ ((c && nat_eq b.name n) || has rest n)
    by true = refl
    by false = refl

has_before : (symbols : List Bound) (s n k : ℕ) → has (entries_before symbols s k) n ≡ any_before (is_here s n) symbols k
has_before symbols s n zero = refl
has_before symbols s n (suc k) =
    has_if symbols s n (entries_before symbols s k) (slice_get symbols k)
    ∙ ap (λ c. holds (is_here s n) (slice_get symbols k) || c) (has_before symbols s n k)

has_here : (symbols : List Bound) (s n : ℕ) → has (entries_at symbols s) n ≡ list_any (is_here s n) symbols
has_here symbols s n = has_before symbols s n (length symbols) ∙ any_all (is_here s n) symbols

one_of : (a b : Bool) → (a || b) ≡ true → a ≡ false → b ≡ true
one_of true b is none = absurd (true≢false none)
one_of false b is none = is

here-below : (most s n : ℕ) (bs : List Bound) → AreNamed most bs → list_any (is_here s n) bs ≡ true → n < most
here-below most s n [] within some = absurd (true≢false (sym some))
here-below most s n (b ∷ bs) within some =
    by_test (is_here s n b)
    (λ here. subst (λ m. m < most) (eqb-true b.name n (and_parts (nat_eq b.scope.0 s) (nat_eq b.name n) here).1) within.0)
    (λ none. here-below most s n bs within.1 (one_of (is_here s n b) (list_any (is_here s n) bs) some none))

-- A name that a scope has an entry of is below `most`.
pub has-below : (most : ℕ) (symbols : List Bound) (s n : ℕ) → AreNamed most symbols → has (entries_at symbols s) n ≡ true → n < most
has-below most symbols s n within some = here-below most s n symbols within (sym (has_here symbols s n) ∙ some)

some_or : (a b : Option ℕ) → is_some (option_or a b) ≡ (is_some a || is_some b)
some_or None b = refl
some_or (Some x) b = refl

pub some_at : (p : Bound → Bool) (i : ℕ) (bs : List Bound) → is_some (position_from p i bs) ≡ list_any p bs
some_at p i [] = refl
some_at p i (b ∷ bs) = at (p b) (position_from p (i + 1) bs) (list_any p bs) (some_at p (i + 1) bs)
  where
    at : (c : Bool) (o : Option ℕ) (more : Bool) → is_some o ≡ more → is_some (cond c (Some i) o) ≡ (c || more)
    at true o more is = refl
    at false o more is = is

either_own : (own here before other_before : Bool) → ((here || (before || other_before)) ≡ (((same false own && here) || before) || ((same true own && here) || other_before)))
either_own true true true o = refl
either_own true true false o = refl
either_own true false b o = refl
either_own false true b o = refl
either_own false false b o = refl

any-either : (s n : ℕ) (bs : List Bound) → list_any (is_here s n) bs ≡ (list_any (is_at false s n) bs || list_any (is_at true s n) bs)
any-either s n [] = refl
any-either s n (b ∷ bs) =
    ap (λ more. is_here s n b || more) (any-either s n bs)
    ∙ either_own (is_own b.kind) (is_here s n b) (list_any (is_at false s n) bs) (list_any (is_at true s n) bs)

-- A scope has an entry of the names that it binds.
pub has-binding : (symbols : List Bound) (s n : ℕ) → has (entries_at symbols s) n ≡ is_some (binding symbols s n)
has-binding symbols s n =
    has_here symbols s n
    ∙ any-either s n symbols
    ∙ sym (some_or (number_at false s n symbols) (number_at true s n symbols) ∙ (λ i. some_at (is_at false s n) 0 symbols i || some_at (is_at true s n) 0 symbols i))
