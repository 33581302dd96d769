-- The answers of the reader of numbers.
use Rattle.std.proofs.Common.{◌≡◌, ℕ, List, Bool, true, false, if◌then◌else◌, Option, Some, None, ap, ◌∙◌}
use Rattle.rl_text.specs.Numeral.{is_numeral, number_of}

abbrev pub Parsed : List ℕ → Option ℕ
Parsed bytes = if is_numeral bytes then Some (number_of bytes) else None

pub parsed_some : (text bytes : List ℕ) (number : ℕ) → bytes ≡ text → Some number ≡ Parsed bytes
    → (is_numeral text ≡ true) × (number ≡ number_of text)
parsed_some text bytes number same is = by_test (is_numeral text) Rattle.std.proofs.Common.refl
  where
    by_test : (b : Bool) → is_numeral text ≡ b → (is_numeral text ≡ true) × (number ≡ number_of text)
    by_test true e = (
      e,
      (let told : Some number ≡ Some (number_of text) =
          is ∙ ap Parsed same ∙ ap (λ (b : Bool). if b then Some (number_of text) else None) e in cc),
    )
    by_test false e =
        absurd ((let told : Some number ≡ None =
        is ∙ ap Parsed same ∙ ap (λ (b : Bool). if b then Some (number_of text) else None) e in cc))

pub parsed_none : (text bytes : List ℕ) → bytes ≡ text → None ≡ Parsed bytes → is_numeral text ≡ false
parsed_none text bytes same is = by_test (is_numeral text) Rattle.std.proofs.Common.refl
  where
    by_test : (b : Bool) → is_numeral text ≡ b → is_numeral text ≡ false
    by_test false e = e
    by_test true e =
        absurd ((let told : None ≡ Some (number_of text) =
        is ∙ ap Parsed same ∙ ap (λ (b : Bool). if b then Some (number_of text) else None) e in cc))
