-- Numerals by their value: the test and the relation say the same.
use Rattle.std.proofs.Common.{◌≡◌, ℕ, ◌+◌, ◌-◌, ◌*◌, Bool, true, false, ◌&&◌, nat_le, if◌then◌else◌, Option, Some, None, List, [], ◌∷◌, IfSome, IfNone, ap, sym, ◌∙◌, refl, subst, arith, true≢false}
use Rattle.std.specs.Str.{bytes_eq}
use Rattle.std.specs.Fmt.{decimal}
use Rattle.std.proofs.lemmas.Slice.Eq.{bytes_eq-Decides}
use Rattle.std.proofs.lemmas.Bool.Decides.{nat_tests}
use Rattle.std.proofs.lemmas.Bool.{and_parts}
use Rattle.rl_text.specs.Number.{largest}
use Rattle.rl_text.specs.WrittenNumbers.{IsNumeral}
use Rattle.rl_text.specs.Numeral.{number_on, number_of, is_numeral}
use Rattle.rl_text.proofs.Numbers.{read_on, numeral-value}

same : (n : ℕ) (digits : List ℕ) → number_on n digits ≡ read_on n digits
same n [] = refl
same n (c ∷ cs) = same (10 * n + (c - 48)) cs

-- A numeral's number is what its digits write.
pub numeral-number : (text : List ℕ) (n : ℕ) → IsNumeral text n → number_of text ≡ n
numeral-number text n h = same 0 text ∙ numeral-value text n h

pub numeral-passes : (text : List ℕ) (n : ℕ) → IsNumeral text n → is_numeral text ≡ true
numeral-passes text n h =
    let value : number_of text ≡ n = numeral-number text n h in
    let small : nat_le (number_of text) largest ≡ true = ap (λ m. nat_le m largest) value ∙ grind (arith, nat_tests, h.bounded) in
    let text_same : bytes_eq text (decimal (number_of text)) ≡ true = (bytes_eq-Decides text (decimal (number_of text))).1 (h.written ∙ ap decimal (sym value)) in
    ap (λ b. b && bytes_eq text (decimal (number_of text))) small ∙ text_same

pub numeral-from_test : (text : List ℕ) → is_numeral text ≡ true → IsNumeral text (number_of text)
numeral-from_test text h =
    let parts = and_parts (nat_le (number_of text) largest) _ h in
    record { bounded = grind (arith, nat_tests, parts.0); written = (bytes_eq-Decides text (decimal (number_of text))).0 parts.1 }

cases : (b : Bool) (x : ℕ) (r : Option ℕ) → (b ≡ true → r ≡ Some x) → (b ≡ false → r ≡ None) → r ≡ (if b then Some x else None)
cases true x r on off = on refl
cases false x r on off = off refl

-- Result of a reader of numerals.
pub parse-exact : (text : List ℕ) (r : Option ℕ) → IfSome r (λ n. IsNumeral text n) → IfNone r ((n : ℕ) → IsNumeral text n → ⊥) → r ≡ (if is_numeral text then Some (number_of text) else None)
parse-exact text None some none = cases (is_numeral text) (number_of text) None (λ h. absurd (none (number_of text) (numeral-from_test text h))) (λ _. refl)
parse-exact text (Some n) some none = cases (is_numeral text) (number_of text) (Some n) (λ _. ap (λ m. Some m) (sym (numeral-number text n some)))
    (λ h. absurd (true≢false (sym (numeral-passes text n some) ∙ h)))

-- Facts that such a result tells.
found : (b : Bool) (x n : ℕ) → Some n ≡ (if b then Some x else None) → (b ≡ true) × (x ≡ n)
found true x n e = (refl, cc)
found false x n e = absurd (cc)

pub numeral-found : (text : List ℕ) (n : ℕ) → Some n ≡ (if is_numeral text then Some (number_of text) else None) → IsNumeral text n
numeral-found text n e =
    let r = found (is_numeral text) (number_of text) n e in
    subst (λ m. IsNumeral text m) r.1 (numeral-from_test text r.0)

pub numeral-none : (text : List ℕ) (n : ℕ) → None ≡ (if is_numeral text then Some (number_of text) else None) → IsNumeral text n → ⊥
numeral-none text n e h =
    let wrong : ◌≡◌ {A = Option ℕ} None (Some (number_of text)) = e ∙ ap (λ (b : Bool). if b then Some (number_of text) else None) (numeral-passes text n h) in
    cc
