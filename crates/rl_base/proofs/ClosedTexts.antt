-- Values are found by their texts. `text_of` gives the text of a value, and `values` lists every value.
use Rattle.std.proofs.Common.{◌≡◌, ℕ, Bool, true, false, cond, ◌||◌, List, [], ◌∷◌, Option, Some, None, IfSome, IfNone, is_some, refl, sym, ap, ◌∙◌, subst, inl, inr, true≢false, ◌<◌, arith}
use Rattle.std.specs.Char.{is_ascii}
use Rattle.std.specs.List.{find, list_all}
use Rattle.std.specs.Str.{bytes_eq, IsUtf8, IsAscii}
use Rattle.std.proofs.lemmas.Bool.{cases_Bool, and_parts}
use Rattle.std.proofs.lemmas.Bool.Decides.{nat_tests}
use Rattle.std.proofs.lemmas.Str.{IsUtf8-from_ascii}
use Rattle.std.proofs.lemmas.Str.Ascii.{IsAscii-nil, IsAscii-cons}
use Rattle.std.proofs.lemmas.Slice.Eq.{bytes_eq-Decides}
use Rattle.rl_base.specs.ClosedTexts.{is_written}
use Rattle.rl_base.specs.FoundTexts.{written_in, AreFound}

-- The value that the search ends at is written by the text.
pub written_is : {X : Type 0} (text_of : X → List ℕ) (values : List X) (text : List ℕ) (value : X)
    → written_in text_of values text ≡ Some value → text_of value ≡ text
written_is text_of [] text value e = absurd (cc)
written_is text_of (first ∷ rest) text value e = elim (cases_Bool (bytes_eq (text_of first) text)) [
  | inl passes ↦
      let at : Some first ≡ Some value = ap (λ b. cond b (Some first) (written_in text_of rest text)) (sym passes) ∙ e in
      let same : first ≡ value = cc in
      ap text_of (sym same) ∙ (bytes_eq-Decides (text_of first) text).0 passes
  | inr fails ↦ written_is text_of rest text value (ap (λ b. cond b (Some first) (written_in text_of rest text)) (sym fails) ∙ e)
]

pub written_found : {X : Type 0} (text_of : X → List ℕ) (values : List X) (text : List ℕ) (r : Option X)
    → r ≡ written_in text_of values text → IfSome r (λ value. text_of value ≡ text)
written_found text_of values text None e = tt
written_found text_of values text (Some value) e = written_is text_of values text value (sym e)

pub written_none : {X : Type 0} (text_of : X → List ℕ) (values : List X) (text : List ℕ) (r : Option X)
    → r ≡ written_in text_of values text → AreFound text_of values → IfNone r ((value : X) → text_of value ≡ text → ⊥)
written_none text_of values text (Some value) e all = tt
written_none text_of values text None e all = λ value same.
    let at : written_in text_of values text ≡ Some value = subst (λ t. written_in text_of values t ≡ Some value) same (all value) in
    cc

-- No two values have one text.
pub one_text : {X : Type 0} (text_of : X → List ℕ) (values : List X) → AreFound text_of values
    → (a b : X) → text_of a ≡ text_of b → a ≡ b
one_text text_of values all a b same =
    let at : Some a ≡ Some b = sym (all a) ∙ ap (written_in text_of values) same ∙ all b in
    cc

-- The test answers whether the search ends at a value.
pub is_written_some : {X : Type 0} (text_of : X → List ℕ) (values : List X) (text : List ℕ)
    → is_some (written_in text_of values text) ≡ is_written text_of values text
is_written_some text_of [] text = refl
is_written_some text_of (first ∷ rest) text = elim (cases_Bool (bytes_eq (text_of first) text)) [
  | inl passes ↦
      ap (λ b. is_some (cond b (Some first) (written_in text_of rest text))) passes
      ∙ ap (λ b. b || is_written text_of rest text) (sym passes)
  | inr fails ↦
      ap (λ b. is_some (cond b (Some first) (written_in text_of rest text))) fails
      ∙ is_written_some text_of rest text
      ∙ ap (λ b. b || is_written text_of rest text) (sym fails)
]

-- The text of each value passes the test.
pub is_written_text : {X : Type 0} (text_of : X → List ℕ) (values : List X) → AreFound text_of values
    → (value : X) → is_written text_of values (text_of value) ≡ true
is_written_text text_of values all value = sym (is_written_some text_of values (text_of value)) ∙ ap is_some (all value)

-- A text that passes the test is that of a value.
pub is_written_found : {X : Type 0} (text_of : X → List ℕ) (values : List X) (text : List ℕ)
    → is_written text_of values text ≡ true → (value : X) × (text_of value ≡ text)
is_written_found {X} text_of values text e = from_some (written_in text_of values text) refl
  where
    from_some : (r : Option X) → r ≡ written_in text_of values text → (value : X) × (text_of value ≡ text)
    from_some None at = absurd (true≢false (sym e ∙ sym (is_written_some text_of values text) ∙ ap is_some (sym at)))
    from_some (Some value) at = (value, written_is text_of values text value (sym at))

not_true : (b : Bool) → (b ≡ true → ⊥) → b ≡ false
not_true true h = absurd (h refl)
not_true false h = refl

-- The text of no value fails the test.
pub is_written_none : {X : Type 0} (text_of : X → List ℕ) (values : List X) (text : List ℕ)
    → ((value : X) → text_of value ≡ text → ⊥) → is_written text_of values text ≡ false
is_written_none text_of values text differ = not_true _ (λ e. let at = is_written_found text_of values text e in differ at.0 at.1)

-- The text fails the test of a type that the search does not end in.
pub unwritten : {X : Type 0} (text_of : X → List ℕ) (values : List X) (text : List ℕ)
    → is_written text_of values text ≡ true → ((value : X) → text_of value ≡ text → ⊥) → ⊥
unwritten text_of values text e differ = let at = is_written_found text_of values text e in differ at.0 at.1

some_or : {X : Type 0} → X → Option X → X
some_or default None = default
some_or default (Some x) = x

-- The value that `text` writes; `default` if it writes none.
pub value_of : {X : Type 0} → (default : X) → (text_of : X → List ℕ) → (values : List X) → (text : List ℕ) → X
value_of default text_of values text = some_or default (written_in text_of values text)

-- A value is read back from its text.
pub value_back : {X : Type 0} (default : X) (text_of : X → List ℕ) (values : List X) → AreFound text_of values
    → (value : X) → value_of default text_of values (text_of value) ≡ value
unfolding value_of some_or
value_back default text_of values all value = ap (some_or default) (all value)

-- An item that a search ends at passes a test that all pass.
find_all : {X : Type 0} (wanted test : X → Bool) (items : List X) (item : X) → list_all test items ≡ true → find wanted items ≡ Some item → test item ≡ true
find_all wanted test [] item all e = absurd (cc)
find_all wanted test (first ∷ rest) item all e = elim (cases_Bool (wanted first)) [
  | inl passes ↦
      let at : Some first ≡ Some item = ap (λ b. cond b (Some first) (find wanted rest)) (sym passes) ∙ e in
      let same : first ≡ item = cc in
      ap test (sym same) ∙ (and_parts _ _ all).0
  | inr fails ↦ find_all wanted test rest item (and_parts _ _ all).1 (ap (λ b. cond b (Some first) (find wanted rest)) (sym fails) ∙ e)
]

ascii_small : (byte : ℕ) → is_ascii byte ≡ true → byte < 128
ascii_small byte h = grind (arith, nat_tests)

ascii_text : (text : List ℕ) → list_all is_ascii text ≡ true → IsAscii text
ascii_text [] h = IsAscii-nil
ascii_text (byte ∷ text) h = let b = and_parts _ _ h in IsAscii-cons byte text (ascii_small byte b.0) (ascii_text text b.1)

-- The text of each value is UTF-8, where all of them are ASCII.
pub text_utf8 : {X : Type 0} (text_of : X → List ℕ) (values : List X) → AreFound text_of values
    → list_all (λ value. list_all is_ascii (text_of value)) values ≡ true → (value : X) → IsUtf8 (text_of value)
text_utf8 text_of values found all value =
    IsUtf8-from_ascii (text_of value) (ascii_text (text_of value) (find_all _ (λ v. list_all is_ascii (text_of v)) values value all (found value)))
