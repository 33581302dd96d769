-- Trees whose node words are words: different ones are spelled differently, and no spelling is a prefix of another's with the
-- bytes behind it. Texts may be any bytes, and numbers of any size.
use Rattle.std.proofs.Common.{◌≡◌, ℕ, ◌<◌, true, false, if◌then◌else◌, ◌==◌, ◌||◌, List, [], ◌∷◌, ◌++◌, ap, sym, ◌∙◌, refl, arith, append_assoc}
use Rattle.std.proofs.lemmas.Bool.Decides.{nat_tests}
use Rattle.std.proofs.lemmas.List.{append-nil}
use Rattle.std.specs.Char.{is_ascii_digit}
use Rattle.rl_text.specs.Notation.{Tree, Node, Listed, Said, Count, Flag, Absent, Parts, End, Then, spelling, spelled_on, IsWord, IsWritable, AreWritable}
use Rattle.rl_text.specs.Quoted.{quoted_rest}
use Rattle.rl_text.specs.Places.{is_letter, StopsAt, NoDigit, Ends, IsBracket}
use Rattle.rl_text.proofs.Digits.{numerals-apart, numeral-first}
use Rattle.rl_text.proofs.Runs.{heads, runs-apart}
use Rattle.rl_text.proofs.Quotes.{quotes-apart}

abbrev mutual
  -- Each node's word is one or more letters a to z.
  pub IsWorded : Tree → Type 0
  IsWorded (Node word parts) = IsWord word × AreWorded parts
  IsWorded (Listed parts) = AreWorded parts
  IsWorded (Said text) = Unit {0}
  IsWorded (Count number) = Unit {0}
  IsWorded (Flag flag) = Unit {0}
  IsWorded Absent = Unit {0}

  -- As `IsWorded`, for a list.
  pub AreWorded : Parts → Type 0
  AreWorded End = Unit {0}
  AreWorded (Then part parts) = IsWorded part × AreWorded parts

mutual
  -- Every tree of the notation is worded.
  pub worded : (t : Tree) → IsWritable t → IsWorded t
  worded (Node word parts) h = (h.0, are_worded parts h.1)
  worded (Listed parts) h = are_worded parts h
  worded (Said text) h = tt
  worded (Count number) h = tt
  worded (Flag flag) h = tt
  worded Absent h = tt

  pub are_worded : (parts : Parts) → AreWritable parts → AreWorded parts
  are_worded End h = tt
  are_worded (Then part parts) h = (worded part h.0, are_worded parts h.1)

-- The form of the trees that begin with a byte: an index that stands for a variant, or 6 for none.
abbrev pub form_of_byte : ℕ → ℕ
form_of_byte byte = if byte == 40 then 0 else if byte == 91 then 1 else if byte == 34 then 2 else if is_ascii_digit byte then 3 else if byte == 121 || byte == 110 then 4 else if byte == 45 then 5 else 6

abbrev pub form : Tree → ℕ
form (Node word parts) = 0
form (Listed parts) = 1
form (Said text) = 2
form (Count number) = 3
form (Flag flag) = 4
form Absent = 5

pub form-of_digit : (byte : ℕ) → is_ascii_digit byte ≡ true → form_of_byte byte ≡ 3
form-of_digit byte h = grind (arith, nat_tests)

-- The first byte tells the form.
pub begun : (t : Tree) (u : List ℕ) → (byte : ℕ) × (rest : List ℕ) × (spelling t ++ u ≡ byte ∷ rest) × (form_of_byte byte ≡ form t)
begun (Node word parts) u = (40, (word ++ spelled_on 41 parts) ++ u, refl, refl)
begun (Listed End) u = (91, 93 ∷ u, refl, refl)
begun (Listed (Then part parts)) u = (91, (spelling part ++ spelled_on 93 parts) ++ u, refl, refl)
begun (Said text) u = (34, quoted_rest text ++ u, refl, refl)
begun (Count number) u = let d = numeral-first number in (d.0, d.1 ++ u, ap (λ l. l ++ u) d.2, form-of_digit d.0 d.3)
begun (Flag true) u = (121, u, refl, refl)
begun (Flag false) u = (110, u, refl, refl)
begun Absent u = (45, u, refl, refl)

pub form_at_byte : (t : Tree) (byte : ℕ) (rest u : List ℕ) → byte ∷ rest ≡ spelling t ++ u → form_of_byte byte ≡ form t
form_at_byte t byte rest u h =
    let f = begun t u in ap form_of_byte (heads byte f.0 rest f.1 (h ∙ f.2)).0 ∙ f.3

one_form : (s t : Tree) (u v : List ℕ) → spelling s ++ u ≡ spelling t ++ v → form s ≡ form t
one_form s t u v h =
    let f = begun s u in
    sym f.3 ∙ form_at_byte t f.0 f.1 v (sym f.2 ∙ h)

form-small : (t : Tree) → form t < 6
form-small (Node word parts) = omega arith
form-small (Listed parts) = omega arith
form-small (Said text) = omega arith
form-small (Count number) = omega arith
form-small (Flag flag) = omega arith
form-small Absent = omega arith

-- No tree begins with a byte of no form.
pub formless : (t : Tree) (byte : ℕ) (rest u : List ℕ) → form_of_byte byte ≡ 6 → byte ∷ rest ≡ spelling t ++ u → ⊥
formless t byte rest u six h = omega (arith, form-small t, form_at_byte t byte rest u h)

pub bracket-no_space : (close : ℕ) → IsBracket close → close ≡ 32 → ⊥
bracket-no_space close h e = grind (arith, nat_tests)

bracket-no_digit : (close : ℕ) → IsBracket close → is_ascii_digit close ≡ false
bracket-no_digit close h = grind (arith, nat_tests)

bracket-no_letter : (close : ℕ) → IsBracket close → is_letter close ≡ false
bracket-no_letter close h = grind (arith, nat_tests)

pub no_digit-on : (close : ℕ) (parts : Parts) (u : List ℕ) → IsBracket close → NoDigit (spelled_on close parts ++ u)
no_digit-on close End u h = bracket-no_digit close h
no_digit-on close (Then part parts) u h = refl

pub no_letter-on : (close : ℕ) (parts : Parts) (u : List ℕ) → IsBracket close → StopsAt is_letter (spelled_on close parts ++ u)
no_letter-on close End u h = bracket-no_letter close h
no_letter-on close (Then part parts) u h = refl

pub ends-from_no_digit : (t : Tree) (u : List ℕ) → NoDigit u → Ends t u
ends-from_no_digit (Node word parts) u h = tt
ends-from_no_digit (Listed parts) u h = tt
ends-from_no_digit (Said text) u h = tt
ends-from_no_digit (Count number) u h = h
ends-from_no_digit (Flag flag) u h = tt
ends-from_no_digit Absent u h = tt

mutual
  pub worded-apart : (s t : Tree) (u v : List ℕ) → IsWorded s → IsWorded t → Ends s u → Ends t v → spelling s ++ u ≡ spelling t ++ v → (s ≡ t) × (u ≡ v)
  worded-apart (Node w ps) (Node x qs) u v p q m n h =
      let tails = (heads 40 40 _ _ h).1 in
      let e = runs-apart is_letter w x (spelled_on 41 ps ++ u) (spelled_on 41 qs ++ v) p.0.1 q.0.1 (no_letter-on 41 ps u refl) (no_letter-on 41 qs v refl) (sym (append_assoc w (spelled_on 41 ps) u) ∙ tails ∙ append_assoc x (spelled_on 41 qs) v) in
      let r = on-apart 41 ps qs u v refl p.1 q.1 e.1 in
      ((λ i. Node (e.0 i) (r.0 i)), r.1)
  worded-apart (Listed ps) (Listed qs) u v p q m n h = let r = lists-apart ps qs u v p q h in (ap Listed r.0, r.1)
  worded-apart (Said s) (Said t) u v p q m n h = let r = quotes-apart s t u v (heads 34 34 _ _ h).1 in (ap Said r.0, r.1)
  worded-apart (Count a) (Count b) u v p q m n h = let r = numerals-apart a b u v m n h in (ap Count r.0, r.1)
  worded-apart (Flag true) (Flag true) u v p q m n h = (refl, (heads 121 121 u v h).1)
  worded-apart (Flag false) (Flag false) u v p q m n h = (refl, (heads 110 110 u v h).1)
  worded-apart (Flag true) (Flag false) u v p q m n h = let wrong : ◌≡◌ {A = ℕ} 121 110 = (heads 121 110 u v h).0 in absurd (omega arith)
  worded-apart (Flag false) (Flag true) u v p q m n h = let wrong : ◌≡◌ {A = ℕ} 110 121 = (heads 110 121 u v h).0 in absurd (omega arith)
  worded-apart Absent Absent u v p q m n h = (refl, (heads 45 45 u v h).1)
  worded-apart s t u v p q m n h = let wrong = one_form s t u v h in absurd (omega arith)

  lists-apart : (ps qs : Parts) (u v : List ℕ) → AreWorded ps → AreWorded qs → spelling (Listed ps) ++ u ≡ spelling (Listed qs) ++ v → (ps ≡ qs) × (u ≡ v)
  lists-apart End End u v p q h = (refl, (heads 93 93 _ _ (heads 91 91 _ _ h).1).1)
  lists-apart End (Then b qs) u v p q h =
      absurd (formless b 93 u (spelled_on 93 qs ++ v) refl ((heads 91 91 _ _ h).1 ∙ append_assoc (spelling b) (spelled_on 93 qs) v))
  lists-apart (Then a ps) End u v p q h =
      absurd (formless a 93 v (spelled_on 93 ps ++ u) refl (sym (heads 91 91 _ _ h).1 ∙ append_assoc (spelling a) (spelled_on 93 ps) u))
  lists-apart (Then a ps) (Then b qs) u v p q h =
      let e = worded-apart a b (spelled_on 93 ps ++ u) (spelled_on 93 qs ++ v) p.0 q.0 (ends-from_no_digit a _ (no_digit-on 93 ps u refl)) (ends-from_no_digit b _ (no_digit-on 93 qs v refl)) (sym (append_assoc (spelling a) (spelled_on 93 ps) u) ∙ (heads 91 91 _ _ h).1 ∙ append_assoc (spelling b) (spelled_on 93 qs) v) in
      let r = on-apart 93 ps qs u v refl p.1 q.1 e.1 in
      ((λ i. Then (e.0 i) (r.0 i)), r.1)

  on-apart : (close : ℕ) (ps qs : Parts) (u v : List ℕ) → IsBracket close → AreWorded ps → AreWorded qs → spelled_on close ps ++ u ≡ spelled_on close qs ++ v → (ps ≡ qs) × (u ≡ v)
  on-apart close End End u v c p q h = (refl, (heads close close u v h).1)
  on-apart close End (Then b qs) u v c p q h = absurd (bracket-no_space close c (heads close 32 _ _ h).0)
  on-apart close (Then a ps) End u v c p q h = absurd (bracket-no_space close c (sym (heads 32 close _ _ h).0))
  on-apart close (Then a ps) (Then b qs) u v c p q h =
      let e = worded-apart a b (spelled_on close ps ++ u) (spelled_on close qs ++ v) p.0 q.0 (ends-from_no_digit a _ (no_digit-on close ps u c)) (ends-from_no_digit b _ (no_digit-on close qs v c)) (sym (append_assoc (spelling a) (spelled_on close ps) u) ∙ (heads 32 32 _ _ h).1 ∙ append_assoc (spelling b) (spelled_on close qs) v) in
      let r = on-apart close ps qs u v c p.1 q.1 e.1 in
      ((λ i. Then (e.0 i) (r.0 i)), r.1)

-- Worded trees of one spelling are equal.
pub Worded-one : (s t : Tree) → IsWorded s → IsWorded t → spelling s ≡ spelling t → s ≡ t
Worded-one s t p q h =
    (worded-apart s t [] [] p q (ends-from_no_digit s [] tt) (ends-from_no_digit t [] tt) (append-nil (spelling s) ∙ h ∙ sym (append-nil (spelling t)))).0
