-- Laws of values that are spelled by bytes.
use Rattle.std.proofs.Common.{◌≡◌, ℕ, ◌<◌, ◌≤◌, ◌+◌, Bool, true, false, List, [], ◌∷◌, ◌++◌, length, drop, refl, sym, ◌∙◌, ap, subst, arith, length-append, length-drop, get_or, get_or-drop, true≢false}
use Rattle.std.proofs.Math.Seq.{drop-append_seam, drop-append-add}
use Rattle.std.proofs.lemmas.Bool.Decides.{nat_tests}
use Rattle.std.proofs.lemmas.List.{append_cancel_left}
use Rattle.std.specs.Char.{is_ascii_digit}
use Rattle.rl_base.specs.FoundTexts.{AreFound}
use Rattle.rl_base.proofs.ClosedTexts.{one_text}
use Rattle.rl_text.specs.Notation.{Tree, Said, Count, Flag, Spells, IsWritable, spelling, height}
use Rattle.rl_text.specs.Places.{NoDigit, Begins, NoneBegins}
use Rattle.rl_text.specs.Atoms.{is_end, ends, StandsAt, NoneStandsAt, HasSpelling, AppendsSpelling, HaveOneSpelling, AreApart, NeverBegin, AreReadBack, SpelledAs, text_tree}
use Rattle.rl_text.proofs.Digits.{numeral-first}
use Rattle.rl_text.proofs.Spellings.{spellings-apart}
use Rattle.rl_text.proofs.Worded.{form, form_at_byte, formless, ends-from_no_digit}

end_no_digit : (byte : ℕ) → is_end byte ≡ true → is_ascii_digit byte ≡ false
end_no_digit byte h = grind (arith, nat_tests)

-- No digit follows a spelling.
ends_no_digit : (rest : List ℕ) → ends rest ≡ true → NoDigit rest
ends_no_digit [] h = tt
ends_no_digit (byte ∷ rest) h = end_no_digit byte h

module _ {X : Type 0} (spells : X → List ℕ → Type 0) (one : HaveOneSpelling spells) (apart : AreApart spells) where
  -- If spellings of `x` and `y` begin the same bytes, `x` and `y` are equal, and so are the spellings and the bytes behind them.
  pub same_begun : (x y : X) (s t u v : List ℕ) → spells x s → spells y t → ends u ≡ true → ends v ≡ true → s ++ u ≡ t ++ v → (x ≡ y) × (s ≡ t) × (u ≡ v)
  same_begun x y s t u v p q m n h =
      let same = apart x y s t u v p q m n h in
      let spelled : s ≡ t = one y s t (subst (λ z. spells z s) same p) q in
      (same, spelled, append_cancel_left s u v (h ∙ ap (λ l. l ++ v) (sym spelled)))

  -- Values that stand at one offset are equal, and end at one offset.
  pub stands_one : (bytes : List ℕ) (at n m : ℕ) (x y : X) → StandsAt spells bytes at x n → StandsAt spells bytes at y m → (x ≡ y) × (n ≡ m)
  stands_one bytes at n m x y p q =
      let both = same_begun x y p.spelling q.spelling (drop n bytes) (drop m bytes) p.spelled q.spelled p.ended q.ended (sym p.there ∙ q.there) in
      (both.0, omega (arith, p.within, q.within, length-drop n bytes, length-drop m bytes, ap length both.2))

  -- A written value is read back.
  pub read_back : NeverBegin spells 93 → AreReadBack spells
  read_back never value before s rest p h = record {
    stands = record {
      spelling = s;
      spelled = p;
      there = drop-append_seam before (s ++ rest) ∙ ap (λ l. s ++ l) (sym behind);
      forward = omega (arith, some s p);
      within = omega (arith, length-append before (s ++ rest), length-append s rest);
      ended = ap ends behind ∙ h;
    };
    unique = λ other next q.
        let both = same_begun other value q.spelling s (drop next (before ++ (s ++ rest))) rest q.spelled p q.ended h (sym q.there ∙ drop-append_seam before (s ++ rest)) in
        (both.0, omega (arith, q.within, length-drop next (before ++ (s ++ rest)), ap length both.2, length-append before (s ++ rest), length-append s rest));
  }
    where
      behind : drop (length before + length s) (before ++ (s ++ rest)) ≡ rest
      behind = drop-append-add before (s ++ rest) (length s) ∙ drop-append_seam s rest

      some : (s : List ℕ) → spells value s → 0 < length s
      some [] p = absurd (never value [] (93 ∷ []) [] p refl)
      some (byte ∷ s) p = omega arith

module _ {X : Type 0} (tree : X → Tree) where
  -- A value has one spelling.
  pub one_of_tree : HaveOneSpelling (SpelledAs tree)
  one_of_tree x s t p q = p.spelled ∙ sym q.spelled

  -- No spelling begins that of another value, where no two values have one tree.
  pub apart_of_tree : ((x y : X) → tree x ≡ tree y → x ≡ y) → AreApart (SpelledAs tree)
  apart_of_tree injective x y s t u v p q m n h =
      injective x y (spellings-apart (tree x) (tree y) u v p.writable q.writable
      (ends-from_no_digit (tree x) u (ends_no_digit u m)) (ends-from_no_digit (tree y) v (ends_no_digit v n))
      (ap (λ l. l ++ u) (sym p.spelled) ∙ h ∙ ap (λ l. l ++ v) q.spelled)).0

  -- No spelling begins with `]`.
  pub closing_of_tree : NeverBegin (SpelledAs tree) 93
  closing_of_tree x s u v p h = formless (tree x) 93 v u refl (sym h ∙ ap (λ l. l ++ u) p.spelled)

  -- No spelling begins with `-`, where no value has the tree `Absent`.
  pub absent_of_tree : ((x : X) → form (tree x) ≡ 5 → ⊥) → NeverBegin (SpelledAs tree) 45
  absent_of_tree present x s u v p h =
      present x (sym (form_at_byte (tree x) 45 v u (sym h ∙ ap (λ l. l ++ u) p.spelled)))

  -- A written value is read back.
  pub back_of_tree : ((x y : X) → tree x ≡ tree y → x ≡ y) → AreReadBack (SpelledAs tree)
  back_of_tree injective = read_back (SpelledAs tree) one_of_tree (apart_of_tree injective) closing_of_tree

  -- A value stands where its tree begins the bytes, if a spelling may end behind the tree.
  pub tree_stands : (bytes : List ℕ) (at next : ℕ) (x : X) → at < next → next ≤ length bytes → Begins 0 (tree x) (drop at bytes) (drop next bytes)
      → ends (drop next bytes) ≡ true → StandsAt (SpelledAs tree) bytes at x next
  tree_stands bytes at next x forward within begins h = record {
    spelling = spelling (tree x);
    spelled = record { writable = begins.writable; spelled = refl };
    there = begins.spelled;
    forward = forward;
    within = within;
    ended = h;
  }

  stands_begins : (bytes : List ℕ) (at next depth : ℕ) (x : X) → height (tree x) ≤ depth → StandsAt (SpelledAs tree) bytes at x next → Begins depth (tree x) (drop at bytes) (drop next bytes)
  stands_begins bytes at next depth x low s = record {
    writable = s.spelled.writable;
    low = low;
    ends = ends-from_no_digit (tree x) (drop next bytes) (ends_no_digit (drop next bytes) s.ended);
    spelled = s.there ∙ ap (λ l. l ++ drop next bytes) s.spelled.spelled;
  }

  -- No value stands where no tree of its height begins.
  pub tree_none : (bytes : List ℕ) (at : ℕ) → ((x : X) → height (tree x) ≡ 0) → NoneBegins 0 (drop at bytes) → NoneStandsAt (SpelledAs tree) bytes at
  tree_none bytes at low none x next s = none (tree x) (drop next bytes) (stands_begins bytes at next 0 x (omega (arith, low x)) s)

  -- No value stands where a tree begins, if no spelling may end behind the tree.
  pub tree_unended : (bytes : List ℕ) (at next : ℕ) (t : Tree) → Begins 0 t (drop at bytes) (drop next bytes) → ends (drop next bytes) ≡ false → NoneStandsAt (SpelledAs tree) bytes at
  tree_unended bytes at next t begins h x after s =
      let other = stands_begins bytes at after (height (tree x)) x (omega arith) s in
      let same = spellings-apart t (tree x) (drop next bytes) (drop after bytes) begins.writable other.writable begins.ends other.ends (sym begins.spelled ∙ other.spelled) in
      true≢false (sym s.ended ∙ ap ends (sym same.1) ∙ h)

  -- The spelling of a value's tree is appended.
  pub tree_appended : (old new : List ℕ) (x : X) → HasSpelling (SpelledAs tree) x → new ≡ old ++ spelling (tree x) → AppendsSpelling (SpelledAs tree) old new x
  tree_appended old new x has e = record { spelling = spelling (tree x); spelled = record { writable = has.1.writable; spelled = refl }; appended = e }

  -- A value has a spelling if the notation has its tree.
  pub tree_spelled : (x : X) → IsWritable (tree x) → HasSpelling (SpelledAs tree) x
  tree_spelled x h = (spelling (tree x), record { writable = h; spelled = refl })

-- The value in a text, a number or a flag: equal trees hold equal values.
said : Tree → List ℕ
said (Said text) = text
said _ = []

count : Tree → ℕ
count (Count number) = number
count _ = 0

flag : Tree → Bool
flag (Flag b) = b
flag _ = false

pub said_one : (s t : List ℕ) → Said s ≡ Said t → s ≡ t
unfolding said
said_one s t e = ap said e

pub count_one : (m n : ℕ) → Count m ≡ Count n → m ≡ n
unfolding count
count_one m n e = ap count e

pub flag_one : (a b : Bool) → Flag a ≡ Flag b → a ≡ b
unfolding flag
flag_one a b e = ap flag e

-- A text, a number and a flag are not `Absent`.
pub said_present : (text : List ℕ) → form (Said text) ≡ 5 → ⊥
said_present text e = omega (arith, e)

pub count_present : (number : ℕ) → form (Count number) ≡ 5 → ⊥
count_present number e = omega (arith, e)

pub flag_present : (b : Bool) → form (Flag b) ≡ 5 → ⊥
flag_present b e = omega (arith, e)

-- Values of equal trees are equal, if no two values have one text.
pub text_one : {X : Type 0} (text_of : X → List ℕ) (values : List X) → AreFound text_of values
    → (x y : X) → text_tree text_of x ≡ text_tree text_of y → x ≡ y
text_one text_of values found x y e = one_text text_of values found x y (said_one (text_of x) (text_of y) e)

pub text_present : {X : Type 0} (text_of : X → List ℕ) (x : X) → form (text_tree text_of x) ≡ 5 → ⊥
text_present text_of x e = omega (arith, e)

-- A value stands where its text stands.
pub text_stands : {X : Type 0} (text_of : X → List ℕ) (bytes : List ℕ) (at next : ℕ) (text : List ℕ) (x : X) → text_of x ≡ text
    → StandsAt (SpelledAs Said) bytes at text next → StandsAt (SpelledAs (text_tree text_of)) bytes at x next
text_stands text_of bytes at next text x e s = record {
  spelling = s.spelling;
  spelled = subst (λ t. Spells s.spelling (Said t)) (sym e) s.spelled;
  there = s.there;
  forward = s.forward;
  within = s.within;
  ended = s.ended;
}

stands_text : {X : Type 0} (text_of : X → List ℕ) (bytes : List ℕ) (at next : ℕ) (x : X)
    → StandsAt (SpelledAs (text_tree text_of)) bytes at x next → StandsAt (SpelledAs Said) bytes at (text_of x) next
stands_text text_of bytes at next x s = record {
  spelling = s.spelling;
  spelled = s.spelled;
  there = s.there;
  forward = s.forward;
  within = s.within;
  ended = s.ended;
}

-- No value stands where no text stands.
pub text_none : {X : Type 0} (text_of : X → List ℕ) (bytes : List ℕ) (at : ℕ)
    → NoneStandsAt (SpelledAs Said) bytes at → NoneStandsAt (SpelledAs (text_tree text_of)) bytes at
text_none text_of bytes at none x next s = none (text_of x) next (stands_text text_of bytes at next x s)

-- No value stands where a text stands that writes no value.
pub text_unknown : {X : Type 0} (text_of : X → List ℕ) (bytes : List ℕ) (at next : ℕ) (text : List ℕ)
    → StandsAt (SpelledAs Said) bytes at text next → ((x : X) → text_of x ≡ text → ⊥) → NoneStandsAt (SpelledAs (text_tree text_of)) bytes at
text_unknown text_of bytes at next text there differ x after s =
    differ x (sym (stands_one (SpelledAs Said) (one_of_tree Said) (apart_of_tree Said said_one) bytes at next after text (text_of x) there (stands_text text_of bytes at after x s)).0)

-- A digit stands where a number stands.
pub number_first : (bytes : List ℕ) (at next number : ℕ) → StandsAt (SpelledAs Count) bytes at number next
    → (at < length bytes) × (is_ascii_digit (get_or bytes at 0) ≡ true)
number_first bytes at next number s =
    let first = numeral-first number in
    let there : drop at bytes ≡ first.0 ∷ (first.1 ++ drop next bytes) =
    s.there ∙ ap (λ l. l ++ drop next bytes) (s.spelled.spelled ∙ first.2) in
    let zero : at + 0 ≡ at = omega arith in (
      omega (arith, ap length there, length-drop at bytes),
      ap is_ascii_digit (ap (λ n. get_or bytes n 0) (sym zero) ∙ sym (get_or-drop at bytes 0 0) ∙ ap (λ l. get_or l 0 0) there) ∙ first.3,
    )
