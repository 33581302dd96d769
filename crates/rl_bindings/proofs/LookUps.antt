-- Look-ups of names after entries are written.
use Rattle.std.proofs.Common.{◌≡◌, ◌<◌, ℕ, zero, suc, Bool, true, false, ◌||◌, true≢false, nat_eq, eqb-true, Option, None, List, [], ◌∷◌, length, length-set, slice_set, replicate, refl, sym, ap, subst, ◌∙◌}
use Rattle.std.proofs.lemmas.Bool.{eqb-false, or_parts}
pub use Rattle.rl_base.proofs.Slotted.{get_set_same, get_set_other, by_test}
use Rattle.rl_bindings.specs.Machines.{joined, look, write_all, overwritten, undo}
use Rattle.rl_bindings.specs.declared.resolve.Entry.{Entry}

-- True if an entry has the name.
abbrev pub has : List Entry → (name : ℕ) → Bool
has [] name = false
has (e ∷ es) name = nat_eq e.name name || has es name

-- Each entry has the symbol that `f` gives to its name.
abbrev pub Says : (f : ℕ → Option ℕ) → List Entry → Type 0
Says f [] = Unit {0}
Says f (e ∷ es) = (e.symbol ≡ f e.name) × Says f es

pub length-write : (es : List Entry) (env : List (Option ℕ)) → length (write_all es env) ≡ length env
length-write [] env = refl
length-write (e ∷ es) env = length-write es (slice_set env e.name e.symbol) ∙ length-set env e.name e.symbol

left_of : (a b : Bool) → (a || b) ≡ true → b ≡ false → a ≡ true
left_of true b one none = refl
left_of false b one none = absurd (true≢false (sym one ∙ none))

pub look-write_not : (es : List Entry) (env : List (Option ℕ)) (n : ℕ) → has es n ≡ false → look (write_all es env) n ≡ look env n
look-write_not [] env n none = refl
look-write_not (e ∷ es) env n none =
    look-write_not es (slice_set env e.name e.symbol) n (or_parts (nat_eq e.name n) (has es n) none).1
    ∙ ap joined (get_set_other env e.name n e.symbol (eqb-false e.name n (or_parts (nat_eq e.name n) (has es n) none).0))

pub look-write_has : (f : ℕ → Option ℕ) (es : List Entry) (env : List (Option ℕ)) (n : ℕ) → n < length env → Says f es → has es n ≡ true → look (write_all es env) n ≡ f n
look-write_has f [] env n within says some = absurd (true≢false (sym some))
look-write_has f (e ∷ es) env n within says some =
    by_test (has es n)
    (λ one. look-write_has f es (slice_set env e.name e.symbol) n (subst (λ m. n < m) (sym (length-set env e.name e.symbol)) within) says.1 one)
    (λ none.
    let here : e.name ≡ n = eqb-true e.name n (left_of (nat_eq e.name n) (has es n) some none) in
    look-write_not es (slice_set env e.name e.symbol) n none
    ∙ ap (λ m. look (slice_set env m e.symbol) n) here
    ∙ ap joined (get_set_same env n e.symbol within)
    ∙ says.0
    ∙ ap f here)

set_set : (env : List (Option ℕ)) (n : ℕ) (o : Option ℕ) → slice_set (slice_set env n o) n (look env n) ≡ env
set_set [] n o = refl
set_set (x ∷ env) zero o = refl
set_set (x ∷ env) (suc n) o = ap (λ l. x ∷ l) (set_set env n o)

-- Entries that were overwritten, written back, give the list of before.
pub undone : (es : List Entry) (env : List (Option ℕ)) → undo (overwritten es env) (write_all es env) ≡ env
undone [] env = refl
undone (e ∷ es) env = ap (λ l. slice_set l e.name (look env e.name)) (undone es (slice_set env e.name e.symbol)) ∙ set_set env e.name e.symbol

pub look-blank : (n k : ℕ) → look (replicate n None) k ≡ None
look-blank zero k = refl
look-blank (suc n) zero = refl
look-blank (suc n) (suc k) = look-blank n k
