-- Tables of entries by number.
use Rattle.std.proofs.Common.{◌≡◌, ◌<◌, ℕ, zero, suc, Bool, if◌then◌else◌, nat_eq, eqb-true, length, slice_get, slice_set, Option, Some, None, List, [], ◌∷◌, ◌++◌, refl, sym, ap, ◌∙◌}
use Rattle.std.proofs.lemmas.Bool.{eqb-false}
use Rattle.rl_bindings.specs.Symbols.{option_or}
use Rattle.rl_bindings.proofs.LookUps.{by_test, get_set_same, get_set_other}
use Rattle.rl_context.specs.declared.site.IdentEntry.{IdentEntry}
use Rattle.rl_semantic.specs.Buckets.{same, first_at}
use Rattle.rl_semantic.specs.Items.{of_item}

-- Another place without an entry.
pub place_added : (entries : List (Option IdentEntry)) (n : ℕ) → first_at (entries ++ None ∷ []) n ≡ first_at entries n
place_added [] zero = refl
place_added [] (suc n) = refl
place_added (entry ∷ entries) zero = refl
place_added (entry ∷ entries) (suc n) = place_added entries n

or_none : (found : Option IdentEntry) → found ≡ option_or found None
or_none None = refl
or_none (Some entry) = refl

abbrev given_at : (r n : ℕ) → IdentEntry → Option IdentEntry
given_at r n entry = if nat_eq r n then Some entry else None

-- An entry where there was none.
pub entry_placed : (entries before : List (Option IdentEntry)) (r n : ℕ) (entry : IdentEntry) → r < length entries → slice_get entries r ≡ Some None → first_at entries n ≡ first_at before n
    → first_at (slice_set entries r (Some entry)) n ≡ option_or (first_at before n) (given_at r n entry)
entry_placed entries before r n entry within is same_entries = by_test (nat_eq r n)
    (λ yes. let here : r ≡ n = eqb-true r n yes in
    ap (of_item None same) (ap (slice_get (slice_set entries r (Some entry))) (sym here) ∙ get_set_same entries r (Some entry) within)
    ∙ sym ((λ i. option_or ((sym same_entries ∙ ap (first_at entries) (sym here) ∙ ap (of_item None same) is) i) (if yes i then Some entry else None))))
    (λ not. ap (of_item None same) (get_set_other entries r n (Some entry) (eqb-false r n not))
    ∙ same_entries ∙ or_none (first_at before n)
    ∙ ap (λ (b : Bool). option_or (first_at before n) (if b then Some entry else None)) (sym not))

-- An entry stays where there is one.
pub entry_kept : (entries before : List (Option IdentEntry)) (r n : ℕ) (entry found : IdentEntry) → slice_get entries r ≡ Some (Some found) → first_at entries n ≡ first_at before n
    → first_at entries n ≡ option_or (first_at before n) (given_at r n entry)
entry_kept entries before r n entry found is same_entries = same_entries ∙ by_test (nat_eq r n)
    (λ yes. let there : first_at before n ≡ Some found = sym same_entries ∙ ap (first_at entries) (sym (eqb-true r n yes)) ∙ ap (of_item None same) is in
    there ∙ sym (ap (λ f. option_or f (given_at r n entry)) there))
    (λ not. or_none (first_at before n) ∙ ap (λ (b : Bool). option_or (first_at before n) (if b then Some entry else None)) (sym not))
