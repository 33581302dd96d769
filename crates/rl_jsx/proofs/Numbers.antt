-- Numbers behind `#`, as they are parsed.
use Rattle.std.proofs.Common.{◌≡◌, ◌∙◌, ◌<◌, ◌^◌, ℕ, Option, Some, None, true, false, List, [], ◌∷◌, refl, sym, ap, arith, true≢false}
use Rattle.std.specs.Option.{MatchOption, SomeIff}
use Rattle.std.specs.Char.{is_digit, IsScalar, InScalarRange, OutOfScalarRange}
use Rattle.std.specs.List.{list_all}
use Rattle.std.specs.Str.Parse.{AllDigits, IsNumeral, digits_value, without_leading_plus}
use Rattle.std.proofs.lemmas.Bool.{and_parts, and_from, and_right, cond-true, cond-false, false_from_ne_true, ltb-true, lt-ltb, leb-true, eqb-true, or_from}
use Rattle.std.proofs.lemmas.Bool.Decides.{nat_tests}
use Rattle.rl_base.specs.Scalars.{is_scalar_value}
use Rattle.rl_jsx.specs.JsxTexts.{is_numeral, scalar_of, numbered, word_value}

digits-to : (base : ℕ) (ds : List ℕ) → list_all (λ digit. is_digit digit base) ds ≡ true → AllDigits base ds
digits-to base [] h = tt
digits-to base (c ∷ cs) h = let p = and_parts _ _ h in (ltb-true _ _ p.0, digits-to base cs p.1)

digits-from : (base : ℕ) (ds : List ℕ) → AllDigits base ds → list_all (λ digit. is_digit digit base) ds ≡ true
digits-from base [] h = refl
digits-from base (c ∷ cs) h = and_from _ _ (lt-ltb _ _ h.0) (digits-from base cs h.1)

numeral-to : (base : ℕ) (ds : List ℕ) → is_numeral base ds ≡ true → IsNumeral base ds
numeral-to base [] h = absurd (true≢false (sym h))
numeral-to base (c ∷ cs) h = (omega arith, digits-to base (c ∷ cs) h)

numeral-from : (base : ℕ) (ds : List ℕ) → IsNumeral base ds → is_numeral base ds ≡ true
numeral-from base [] h = absurd (omega (arith, h.0))
numeral-from base (c ∷ cs) h = digits-from base (c ∷ cs) h.1

scalar-in : (value : ℕ) → InScalarRange value → is_scalar_value value ≡ true
scalar-in value h = grind (arith, nat_tests)

scalar-out : (value : ℕ) → OutOfScalarRange value → is_scalar_value value ≡ false
scalar-out value h = grind (arith, nat_tests)

scalar-small : (value : ℕ) → is_scalar_value value ≡ true → value < 2 ^ 32
scalar-small value h = let low = leb-true value 1114111 (and_parts _ _ h).0 in omega arith

pub scalar-some : (base value : ℕ) (ds : List ℕ) → IsNumeral base ds → value ≡ digits_value base ds → InScalarRange value → scalar_of base ds ≡ Some value
scalar-some base value ds n e in_range =
    cond-true _ _ _ (and_from _ _ (numeral-from base ds n) (ap is_scalar_value (sym e) ∙ scalar-in value in_range)) ∙ ap Some (sym e)

pub scalar-none : (base value : ℕ) (ds : List ℕ) → value ≡ digits_value base ds → OutOfScalarRange value → scalar_of base ds ≡ None
scalar-none base value ds e out = cond-false _ _ _ (and_right _ _ (ap is_scalar_value (sym e) ∙ scalar-out value out))

pub scalar-unread : (base : ℕ) (ds : List ℕ) → (IsNumeral base ds × (digits_value base ds < 2 ^ 32) → ⊥) → scalar_of base ds ≡ None
scalar-unread base ds lacks =
    cond-false _ _ _ (false_from_ne_true _ (λ t. let p = and_parts _ _ t in lacks (numeral-to base ds p.0, scalar-small (digits_value base ds) p.1)))

pub number-decimal : (text : List ℕ) → ((rest : List ℕ) → text ≡ 120 ∷ rest → ⊥) → ((rest : List ℕ) → text ≡ 88 ∷ rest → ⊥) → numbered text ≡ scalar_of 10 (without_leading_plus text)
number-decimal [] small large = refl
number-decimal (byte ∷ bytes) small large =
    cond-false _ _ _ (or_from _ _ (false_from_ne_true _ (λ t. small bytes (ap (λ b. b ∷ bytes) (eqb-true byte 120 t)))) (false_from_ne_true _ (λ t. large bytes (ap (λ b. b ∷ bytes) (eqb-true byte 88 t)))))

pub word-named : (entity : (name : List ℕ) → Option ℕ) (word : List ℕ) → ((rest : List ℕ) → word ≡ 35 ∷ rest → ⊥) → word_value entity word ≡ entity word
word-named entity [] lacks = refl
word-named entity (byte ∷ bytes) lacks = cond-false _ _ _ (false_from_ne_true _ (λ t. lacks bytes (ap (λ b. b ∷ bytes) (eqb-true byte 35 t))))

-- The character of a number that was read.
pub scalar-read : (base value : ℕ) (ds : List ℕ) (r : Option ℕ) → IsNumeral base ds → value ≡ digits_value base ds → SomeIff r (IsScalar value) value
    → MatchOption r (OutOfScalarRange value) (λ _. InScalarRange value) → r ≡ scalar_of base ds
scalar-read base value ds None n e h in_range = sym (scalar-none base value ds e in_range)
scalar-read base value ds (Some x) n e h in_range = ap Some h.1 ∙ sym (scalar-some base value ds n e in_range)
