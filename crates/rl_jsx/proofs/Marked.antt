-- Statements of the cuts of a text, by its bytes.
use Rattle.std.proofs.Common.{◌≡◌, ◌≢◌, ◌∙◌, inl, inr, ◌++◌, ◌∷◌, [], ◌<◌, ℕ, Option, Some, None, MatchOption, List, length, take, drop, get_or, suc, sym, ap, subst, arith, true≢false}
use denote.Ref.{Bor}
use Rattle.std.specs.Str.Pattern.{RFindsChar, SplitsAroundMatch}
use Rattle.std.proofs.lemmas.Bool.{or_cases, eqb-true}
use Rattle.std.proofs.lemmas.List.{take-append-drop}
use Rattle.std.proofs.lemmas.Str.Pattern.{NoCharPasses-char, drop_at_char}
use Rattle.rl_jsx.specs.Marks.{Holds}

holds-none : (mark : ℕ) (text : List ℕ) → ((i : ℕ) → i < length text → get_or text i 0 ≢ mark) → Holds mark text → ⊥
holds-none mark [] lacks e = true≢false (sym e)
holds-none mark (byte ∷ bytes) lacks e = elim (or_cases _ _ e) [
  | inl one ↦ lacks 0 (omega arith) (eqb-true byte mark one)
  | inr more ↦ holds-none mark bytes (λ i lt. lacks (suc i) (omega arith)) more
]

pub first-cut : (mark : ℕ) (text : List ℕ) (r : Option (Bor (List ℕ) × Bor (List ℕ)))
    → MatchOption r ((i : ℕ) → i < length text → get_or text i 0 ≢ mark) (λ x. (text ≡ x.0.now ++ mark ∷ x.1.now) × ((i : ℕ) → i < length x.0.now → get_or x.0.now i 0 ≢ mark))
    → MatchOption r (Holds mark text → ⊥) (λ x. (text ≡ x.0.now ++ mark ∷ x.1.now) × (Holds mark x.0.now → ⊥))
first-cut mark text None h = holds-none mark text h
first-cut mark text (Some x) h = (h.0, holds-none mark x.0.now h.1)

pub last-cut : (mark : ℕ) (text : List ℕ) (r : Option (Bor (List ℕ) × Bor (List ℕ))) → mark < 128
    → MatchOption r (RFindsChar mark text None) (λ x. SplitsAroundMatch (RFindsChar mark) text x.0.now x.1.now)
    → MatchOption r (Holds mark text → ⊥) (λ x. (text ≡ x.0.now ++ mark ∷ x.1.now) × (Holds mark x.1.now → ⊥))
last-cut mark text None small h = holds-none mark text (λ i lt. NoCharPasses-char mark text i h small lt)
last-cut mark text (Some x) small h = (
  sym (take-append-drop h.0 text) ∙ ap (λ l. take h.0 text ++ l) (drop_at_char mark text h.0 h.1 h.2.1 small)
      ∙ (λ i. sym h.3 i ++ mark ∷ sym h.4 i),
  λ held. holds-none mark (drop h.1 text) (λ k lt. NoCharPasses-char mark (drop h.1 text) k h.2.0 small lt) (subst (Holds mark) h.4 held),
)
