-- Variables that functions share.
use Rattle.std.proofs.Common.{◌≡◌, ◌||◌, ℕ, ◌+◌, nat_eq, Bool, true, false, if◌then◌else◌, filter, List, [], ◌∷◌, ◌++◌, add-one}
use Rattle.std.proofs.Common.{ap, sym, refl, ◌∙◌}
use Rattle.std.proofs.lemmas.List.Elements.{filter-append}
use Rattle.std.specs.List.{list_any}
use Rattle.rl_worlds.specs.Worlds.{named_here}
use Rattle.rl_model.specs.Code.{below, contains, flat, named_in}
use Rattle.rl_names.specs.Names.{Names}
use Rattle.rl_syntax.specs.Syntax.{Syntax}

or_again : (a b c : Bool) → (a || b) || c ≡ a || (b || c)
or_again true b c = refl
or_again false b c = refl

pub contains_append : (xs ys : List ℕ) (n : ℕ) → contains (xs ++ ys) n ≡ contains xs n || contains ys n
contains_append [] ys n = refl
contains_append (x ∷ xs) ys n =
    ap (λ b. nat_eq n x || b) (contains_append xs ys n) ∙ sym (or_again (nat_eq n x) (contains xs n) (contains ys n))

pub contains_flat : (f : Syntax → List ℕ) (fs : List Syntax) (n : ℕ) → contains (flat f fs) n ≡ list_any (λ other. contains (f other) n) fs
contains_flat f [] n = refl
contains_flat f (x ∷ xs) n = contains_append (f x) (flat f xs) n ∙ ap (λ b. contains (f x) n || b) (contains_flat f xs n)

-- One more number is taken, if it passes the test.
pub further : (p : ℕ → Bool) (n : ℕ) (found new : List ℕ) → found ≡ filter p (below n) → new ≡ found ++ (if p n then n ∷ [] else [])
    → new ≡ filter p (below (n + 1))
further p n found new e step = rw add-one (step ∙ ap (λ l. l ++ (if p n then n ∷ [] else [])) e ∙ sym (filter-append p (below n) (n ∷ [])))

-- Names in functions, by their opaque word.
pub flat_named : (n : Names) (fs : List Syntax) → flat (named_here n) fs ≡ flat (named_in n) fs
unfolding named_here
flat_named n fs = refl

pub named_own : (n : Names) (f : Syntax) → named_here n f ≡ named_in n f
unfolding named_here
named_own n f = refl
