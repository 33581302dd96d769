-- The functions but one.
use Rattle.std.proofs.Common.{◌≡◌, ◌-◌, ℕ, zero, suc, List, [], ◌∷◌, length, refl, ap, arith}
use Rattle.rl_model.specs.Worlds.{without}

pub without_next : {X : Type 0} → (index : ℕ) (x : X) (xs : List X) → (index ≡ 0 → ⊥) → without index (x ∷ xs) ≡ x ∷ without (index - 1) xs
without_next zero x xs some = absurd (some refl)
without_next (suc index) x xs some =
    let less : index ≡ suc index - 1 = omega arith in
    ap (λ n. x ∷ without n xs) less

pub without_none : {X : Type 0} → (index : ℕ) (xs : List X) → length xs ≡ 0 → without index xs ≡ []
without_none index [] none = refl
without_none index (x ∷ xs) none = absurd (omega (arith, none))
