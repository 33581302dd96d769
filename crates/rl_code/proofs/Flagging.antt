-- Flags that are added and set.
use Rattle.std.proofs.Common.{◌≡◌, ◌<◌, ℕ, zero, suc, Bool, true, false, ◌||◌, nat_eq, eqb-true, length, slice_get, slice_set}
use Rattle.std.proofs.Common.{List, [], ◌∷◌, ◌++◌, refl, sym, ap, ◌∙◌}
use Rattle.std.proofs.lemmas.Bool.{eqb-false}
use Rattle.rl_base.proofs.Bools.{or_false, or_true}
use Rattle.rl_bindings.proofs.LookUps.{by_test, get_set_same, get_set_other}
use Rattle.rl_code.specs.Flags.{flag_at}
use Rattle.rl_semantic.specs.Items.{of_item}

pub flag_added : (flags : List Bool) (n : ℕ) → flag_at (flags ++ false ∷ []) n ≡ flag_at flags n
flag_added [] zero = refl
flag_added [] (suc n) = refl
flag_added (flag ∷ flags) zero = refl
flag_added (flag ∷ flags) (suc n) = flag_added flags n

pub eq_swapped : (m n : ℕ) → nat_eq m n ≡ nat_eq n m
eq_swapped m n = by_test (nat_eq m n)
    (λ equal. let same = eqb-true m n equal in (λ i. nat_eq (same i) (sym same i)))
    (λ differ. by_test (nat_eq n m)
    (λ equal. let same = eqb-true n m equal in (λ i. nat_eq (sym same i) (same i)))
    (λ apart. differ ∙ sym apart))

pub flag_set : (flags before : List Bool) (r n : ℕ) → r < length flags → flag_at flags n ≡ flag_at before n
    → flag_at (slice_set flags r true) n ≡ (flag_at before n || nat_eq n r)
flag_set flags before r n within same = by_test (nat_eq r n)
    (λ holds. let here : r ≡ n = eqb-true r n holds in
    ap (of_item false (λ flag. flag)) (ap (slice_get (slice_set flags r true)) (sym here) ∙ get_set_same flags r true within)
    ∙ sym (or_true (flag_at before n)) ∙ ap (λ b. flag_at before n || b) (sym (eq_swapped n r ∙ holds)))
    (λ fails. ap (of_item false (λ flag. flag)) (get_set_other flags r n true (eqb-false r n fails)) ∙ same
    ∙ sym (or_false (flag_at before n)) ∙ ap (λ b. flag_at before n || b) (sym (eq_swapped n r ∙ fails)))
