-- Keys of object literals that are known before the literal is evaluated.
use Rattle.std.proofs.Common.{◌≡◌, ℕ, Bool, true, false, if◌then◌else◌, List, ◌∷◌, Some, None, subst, refl}
use Rattle.std.proofs.lemmas.Option.{none-some, same_Some}
use Rattle.rl_lowered.proofs.Common.{At, End, Node, Said, Syntax, Then}
use Rattle.rl_model.specs.Shapes.{key_text}
use Rattle.rl_syntax.specs.declared.word.Word.TheVariants as word
use Rattle.rl_text.specs.Numeral.{is_numeral}

-- A key, in brackets if it is `computed`, and its text.
pub data HasText : (computed : Bool) → Syntax → (text : List ℕ) → Type 0 where
  Name : (at : At) (text : List ℕ) → HasText false (Node at word.Name (Then (Said text) End)) (46 ∷ text)
  Word : (at : At) (text : List ℕ) → HasText false (Node at word.Str (Then (Said text) End)) (46 ∷ text)
  Bracketed : (at : At) (text : List ℕ) → HasText true (Node at word.Str (Then (Said text) End)) (46 ∷ text)
  Number : (at : At) (text : List ℕ) → is_numeral text ≡ true → HasText false (Node at word.Num (Then (Said text) End)) (46 ∷ text)

pub has_text : (computed : Bool) (key : Syntax) (text : List ℕ) → key_text computed key ≡ Some text → HasText computed key text
has_text true (Node at word.Str (Then (Said said) End)) text is =
    subst (HasText true (Node at word.Str (Then (Said said) End))) (same_Some (46 ∷ said) text is) (Bracketed at said)
has_text true _ text is = absurd (none-some text is)
has_text false (Node at word.Name (Then (Said said) End)) text is =
    subst (HasText false (Node at word.Name (Then (Said said) End))) (same_Some (46 ∷ said) text is) (Name at said)
has_text false (Node at word.Str (Then (Said said) End)) text is =
    subst (HasText false (Node at word.Str (Then (Said said) End))) (same_Some (46 ∷ said) text is) (Word at said)
has_text false (Node at word.Num (Then (Said said) End)) text is = by_numeral (is_numeral said) refl is
  where
    by_numeral : (b : Bool) → is_numeral said ≡ b → (if b then Some (46 ∷ said) else None) ≡ Some text
        → HasText false (Node at word.Num (Then (Said said) End)) text
    by_numeral true numeral e =
        subst (HasText false (Node at word.Num (Then (Said said) End))) (same_Some (46 ∷ said) text e) (Number at said numeral)
    by_numeral false numeral e = absurd (none-some text e)
has_text false _ text is = absurd (none-some text is)
