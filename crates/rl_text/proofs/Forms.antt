-- The forms of a tree's spelling by their first bytes.
use Rattle.std.proofs.Common.{◌≡◌, ℕ, ◌+◌, ◌-◌, ◌≤◌, ◌<◌, Bool, true, false, List, [], ◌∷◌, ◌++◌, length, take, drop, get_or, map, ap, sym, ◌∙◌, refl, arith, subst, append_assoc, true≢false, length-drop}
use Rattle.std.proofs.lemmas.List.{append-nil, length-take, drop_more}
use Rattle.std.proofs.lemmas.Str.{IsUtf8-from_ascii}
use Rattle.std.proofs.lemmas.Str.Ascii.{IsAscii-nil, IsAscii-cons}
use Rattle.std.proofs.lemmas.Bool.Decides.{nat_tests}
use Rattle.std.proofs.lemmas.Bool.{and_parts}
use Rattle.std.specs.List.{list_all}
use Rattle.std.specs.Char.{is_ascii_digit}
use Rattle.std.specs.Str.{IsUtf8, IsAscii}
use Rattle.std.specs.Fmt.{decimal}
use Rattle.rl_text.specs.Notation.{Tree, Node, Listed, Said, Count, Flag, Parts, End, Then, spelling, spelled_on, AreWritable, IsWord, Spells, height, height_of}
use Rattle.rl_text.specs.Number.{largest}
use Rattle.rl_text.specs.WrittenNumbers.{IsNumeral}
use Rattle.rl_text.specs.Quoted.{quoted_rest}
use Rattle.rl_text.specs.Raw.{tree, parts_of}
use Rattle.rl_text.specs.Places.{is_letter, StopsAt, NoDigit, IsRun, Begins, NoneBegins, GoesOn, NoneGoesOn, Adds, spelled_parts}
use Rattle.rl_text.specs.declared.raw.Raw.{Raw}
use Rattle.rl_text.specs.declared.raw.Raw.TheVariants as V
use Rattle.rl_text.proofs.Runs.{heads, runs-apart, run-there}
use Rattle.rl_text.proofs.Digits.{numeral-decimal}
use Rattle.rl_text.proofs.Spellings.{form-from_byte, no-form, spellings-apart}
use Rattle.rl_text.proofs.Worded.{begun, form_of_byte, form-of_digit, no_digit-on, no_letter-on, ends-from_no_digit}
use Rattle.rl_text.proofs.Numbers.{decimal-digits, largest-small}
use Rattle.rl_text.proofs.Trees.{tree-Node, tree-List, tree-Flag, tree-Absent, spelling-Listed}

-- Bytes that follow the first byte of each form.
pub node-inside : (depth : ℕ) (t : Tree) (bytes rest u : List ℕ) → bytes ≡ 40 ∷ rest → Begins depth t bytes u → (word : List ℕ) × (parts : Parts) × IsWord word × AreWritable parts × (height_of parts + 1 ≤ depth) × (rest ≡ word ++ (spelled_on 41 parts ++ u))
node-inside depth (Node word parts) bytes rest u o b = (word, parts, b.writable.0, b.writable.1, b.low, (heads 40 40 _ _ (sym o ∙ b.spelled)).1 ∙ append_assoc word (spelled_on 41 parts) u)
node-inside depth t bytes rest u o b = let wrong = form-from_byte t 40 rest u b.writable (sym o ∙ b.spelled) in absurd (omega arith)

pub list-inside : (depth : ℕ) (t : Tree) (bytes rest u : List ℕ) → bytes ≡ 91 ∷ rest → Begins depth t bytes u → (parts : Parts) × AreWritable parts × (height_of parts + 1 ≤ depth) × (rest ≡ spelled_parts false 93 parts ++ u)
list-inside depth (Listed parts) bytes rest u o b = (parts, b.writable, b.low, (heads 91 91 _ _ (sym o ∙ b.spelled ∙ ap (λ l. l ++ u) (spelling-Listed parts))).1)
list-inside depth t bytes rest u o b = let wrong = form-from_byte t 91 rest u b.writable (sym o ∙ b.spelled) in absurd (omega arith)

pub text-inside : (depth : ℕ) (t : Tree) (bytes rest u : List ℕ) → bytes ≡ 34 ∷ rest → Begins depth t bytes u → (text : List ℕ) × IsUtf8 text × (rest ≡ quoted_rest text ++ u)
text-inside depth (Said text) bytes rest u o b = (text, b.writable, (heads 34 34 _ _ (sym o ∙ b.spelled)).1)
text-inside depth t bytes rest u o b = let wrong = form-from_byte t 34 rest u b.writable (sym o ∙ b.spelled) in absurd (omega arith)

pub number-inside : (depth : ℕ) (t : Tree) (bytes rest u : List ℕ) (digit : ℕ) → is_ascii_digit digit ≡ true → bytes ≡ digit ∷ rest → Begins depth t bytes u → (number : ℕ) × (number ≤ largest) × NoDigit u × (bytes ≡ decimal number ++ u)
number-inside depth (Count number) bytes rest u digit d o b = (number, b.writable, b.ends, b.spelled ∙ ap (λ l. l ++ u) (numeral-decimal number (largest-small number b.writable)))
number-inside depth t bytes rest u digit d o b = let wrong = form-from_byte t digit rest u b.writable (sym o ∙ b.spelled) in absurd (omega (arith, form-of_digit digit d))

pub other-none : (depth : ℕ) (bytes rest : List ℕ) (byte : ℕ) → form_of_byte byte ≡ 6 → bytes ≡ byte ∷ rest → NoneBegins depth bytes
other-none depth bytes rest byte six o t u b = no-form t byte rest u b.writable six (sym o ∙ b.spelled)

pub nothing-none : (depth : ℕ) (bytes : List ℕ) → bytes ≡ [] → NoneBegins depth bytes
nothing-none depth bytes o t u b =
    let f = begun t u in
    let wrong : [] ≡ f.0 ∷ f.1 = sym o ∙ b.spelled ∙ f.2 in
    cc

-- Forms of nodes.
pub node-low : (depth : ℕ) (bytes rest : List ℕ) → bytes ≡ 40 ∷ rest → depth ≡ 0 → NoneBegins depth bytes
node-low depth bytes rest o low t u b = let i = node-inside depth t bytes rest u o b in omega (arith, i.4)

letter-small : (c : ℕ) → is_letter c ≡ true → c < 128
letter-small c h = grind (arith, nat_tests)

letters-ascii : (s : List ℕ) → list_all is_letter s ≡ true → IsAscii s
letters-ascii [] h = IsAscii-nil
letters-ascii (c ∷ s) h =
    let b = and_parts (is_letter c) (list_all is_letter s) h in
    IsAscii-cons c s (letter-small c b.0) (letters-ascii s b.1)

pub letters-utf8 : (s : List ℕ) → list_all is_letter s ≡ true → IsUtf8 s
letters-utf8 s h = IsUtf8-from_ascii s (letters-ascii s h)

module _ (depth : ℕ) (bytes : List ℕ) (at after : ℕ) (opened : drop at bytes ≡ 40 ∷ drop (at + 1) bytes) (run : IsRun is_letter bytes (at + 1) after) where
  -- The node's word is the run of letters.
  pub node-word : (t : Tree) (u : List ℕ) → Begins depth t (drop at bytes) u → (parts : Parts) × IsWord (take (after - (at + 1)) (drop (at + 1) bytes)) × GoesOn 41 (depth - 1) parts (drop after bytes) u
  node-word t u b =
      let i = node-inside depth t (drop at bytes) (drop (at + 1) bytes) u opened b in
      let r = runs-apart is_letter i.0 (take (after - (at + 1)) (drop (at + 1) bytes)) (spelled_on 41 i.1 ++ u) (drop after bytes) i.2.1 run.passed (no_letter-on 41 i.1 u refl) run.stopped (sym i.5 ∙ run-there bytes (at + 1) after run.forward) in
      (i.1, subst IsWord r.0 i.2, record { writable = i.3; low = omega (arith, i.4); spelled = sym r.1 })

  pub node-no_word : after ≡ at + 1 → NoneBegins depth (drop at bytes)
  node-no_word none t u b =
      let n = node-word t u b in
      omega (arith, n.1.0, length-take (after - (at + 1)) (drop (at + 1) bytes))

  pub node-none : NoneGoesOn 41 (depth - 1) (drop after bytes) → NoneBegins depth (drop at bytes)
  node-none none t u b = let n = node-word t u b in none n.0 u n.2

  longer_word : (after ≡ at + 1 → ⊥) → 0 < length (take (after - (at + 1)) (drop (at + 1) bytes))
  longer_word any = omega (arith, any, run.forward, run.within, length-take (after - (at + 1)) (drop (at + 1) bytes), length-drop (at + 1) bytes)

  pub node-found : (next : ℕ) (word : List ℕ) (old parts : List Raw) → 0 < depth → (after ≡ at + 1 → ⊥) → word ≡ take (after - (at + 1)) (drop (at + 1) bytes) → old ≡ [] → Adds 41 (depth - 1) bytes after next old parts → Begins depth (tree (V.Node word parts)) (drop at bytes) (drop next bytes)
  node-found next word old parts some any w o adds =
      let same : adds.more ≡ parts = sym (adds.added ∙ ap (λ l. l ++ adds.more) o) in
      let longer : 0 < length (take (after - (at + 1)) (drop (at + 1) bytes)) = longer_word any in
      let is_word : IsWord word = subst IsWord (sym w) (longer, run.passed) in
      subst (λ t. Begins depth t (drop at bytes) (drop next bytes)) (sym (tree-Node word parts)) (subst (λ ps. Begins depth (Node word (parts_of (map tree ps))) (drop at bytes) (drop next bytes)) same (record {
        writable = (is_word, adds.there.writable);
        low = omega (arith, adds.there.low);
        ends = tt;
        spelled = opened ∙ ap (λ l. 40 ∷ l) (run-there bytes (at + 1) after run.forward ∙ ap (λ l. l ++ drop after bytes) (sym w) ∙ ap (λ l. word ++ l) adds.there.spelled ∙ sym (append_assoc word (spelled_on 41 (parts_of (map tree adds.more))) (drop next bytes)));
      }))

-- Forms of lists.
pub list-low : (depth : ℕ) (bytes rest : List ℕ) → bytes ≡ 91 ∷ rest → depth ≡ 0 → NoneBegins depth bytes
list-low depth bytes rest o low t u b = let i = list-inside depth t bytes rest u o b in omega (arith, i.2)

module _ (depth : ℕ) (bytes : List ℕ) (at : ℕ) (opened : drop at bytes ≡ 91 ∷ drop (at + 1) bytes) where
  pub list-empty : (parts : List Raw) → 0 < depth → parts ≡ [] → drop (at + 1) bytes ≡ 93 ∷ drop (at + 1 + 1) bytes → Begins depth (tree (V.List parts)) (drop at bytes) (drop (at + 2) bytes)
  list-empty parts some e closed =
      let two : at + 1 + 1 ≡ at + 2 = omega arith in
      subst (λ t. Begins depth t (drop at bytes) (drop (at + 2) bytes)) (sym (ap (λ ps. tree (V.List ps)) e ∙ tree-List [])) (record {
        writable = tt;
        low = omega arith;
        ends = tt;
        spelled = opened ∙ ap (λ l. 91 ∷ l) (closed ∙ ap (λ n. 93 ∷ drop n bytes) two);
      })

  module _ (open_list : (u : List ℕ) → drop (at + 1) bytes ≡ 93 ∷ u → ⊥) where
    -- A list that is not empty begins with a part.
    list-first : (parts : Parts) (u : List ℕ) → AreWritable parts → height_of parts + 1 ≤ depth → drop (at + 1) bytes ≡ spelled_parts false 93 parts ++ u → (t : Tree) × (more : Parts) × Begins (depth - 1) t (drop (at + 1) bytes) (spelled_on 93 more ++ u) × AreWritable more × (height_of more ≤ depth - 1)
    list-first End u w low e = absurd (open_list u e)
    list-first (Then t more) u w low e = (
      t,
      more,
      record {
        writable = w.0;
        low = omega (arith, low);
        ends = ends-from_no_digit t (spelled_on 93 more ++ u) (no_digit-on 93 more u refl);
        spelled = e ∙ append_assoc (spelling t) (spelled_on 93 more) u;
      },
      w.1,
      omega (arith, low),
    )

    pub list-none_first : NoneBegins (depth - 1) (drop (at + 1) bytes) → NoneBegins depth (drop at bytes)
    list-none_first none t u b =
        let i = list-inside depth t (drop at bytes) (drop (at + 1) bytes) u opened b in
        let f = list-first i.0 u i.1 i.2 i.3 in
        none f.0 (spelled_on 93 f.1 ++ u) f.2

    module _ (part : Tree) (after : ℕ) (stands : Begins (depth - 1) part (drop (at + 1) bytes) (drop after bytes)) where
      pub list-none : NoneGoesOn 93 (depth - 1) (drop after bytes) → NoneBegins depth (drop at bytes)
      list-none none t u b =
          let i = list-inside depth t (drop at bytes) (drop (at + 1) bytes) u opened b in
          let f = list-first i.0 u i.1 i.2 i.3 in
          let same = spellings-apart part f.0 (drop after bytes) (spelled_on 93 f.1 ++ u) stands.writable f.2.writable stands.ends f.2.ends (sym stands.spelled ∙ f.2.spelled) in
          none f.1 u (record { writable = f.3; low = f.4; spelled = same.1 })

  pub list-found : (after next : ℕ) (raw : Raw) (old parts : List Raw) → 0 < depth → Begins (depth - 1) (tree raw) (drop (at + 1) bytes) (drop after bytes) → old ≡ raw ∷ [] → Adds 93 (depth - 1) bytes after next old parts → Begins depth (tree (V.List parts)) (drop at bytes) (drop next bytes)
  list-found after next raw old parts some stands o adds =
      let same : raw ∷ adds.more ≡ parts = sym (adds.added ∙ ap (λ l. l ++ adds.more) o) in
      subst (λ t. Begins depth t (drop at bytes) (drop next bytes)) (sym (tree-List parts)) (subst (λ ps. Begins depth (Listed (parts_of (map tree ps))) (drop at bytes) (drop next bytes)) same (record {
        writable = (stands.writable, adds.there.writable);
        low = omega (arith, adds.there.low, stands.low);
        ends = tt;
        spelled = opened ∙ ap (λ l. 91 ∷ l) (stands.spelled ∙ ap (λ l. spelling (tree raw) ++ l) adds.there.spelled ∙ sym (append_assoc (spelling (tree raw)) (spelled_on 93 (parts_of (map tree adds.more))) (drop next bytes)));
      }))

-- Forms of texts.
pub text-found : (depth : ℕ) (bytes rest u text : List ℕ) → bytes ≡ 34 ∷ rest → IsUtf8 text → rest ≡ quoted_rest text ++ u → Begins depth (Said text) bytes u
text-found depth bytes rest u text o utf8 e = record { writable = utf8; low = omega arith; ends = tt; spelled = o ∙ ap (λ l. 34 ∷ l) e }

pub text-none : (depth : ℕ) (bytes rest : List ℕ) → bytes ≡ 34 ∷ rest → ((text u : List ℕ) → IsUtf8 text → rest ≡ quoted_rest text ++ u → ⊥) → NoneBegins depth bytes
text-none depth bytes rest o none t u b = let i = text-inside depth t bytes rest u o b in none i.0 u i.1 i.2

-- Forms of numbers.
module _ (bytes : List ℕ) (at after : ℕ) (run : IsRun is_ascii_digit bytes at after) where
  pub number-found : (depth n : ℕ) → IsNumeral (take (after - at) (drop at bytes)) n → Begins depth (Count n) (drop at bytes) (drop after bytes)
  number-found depth n numeral = record {
    writable = numeral.bounded;
    low = omega arith;
    ends = run.stopped;
    spelled = run-there bytes at after run.forward ∙ ap (λ l. l ++ drop after bytes) (numeral.written ∙ sym (numeral-decimal n (largest-small n numeral.bounded)));
  }

  pub number-none : (depth digit : ℕ) (rest : List ℕ) → is_ascii_digit digit ≡ true → drop at bytes ≡ digit ∷ rest → ((n : ℕ) → IsNumeral (take (after - at) (drop at bytes)) n → ⊥) → NoneBegins depth (drop at bytes)
  number-none depth digit rest d o none t u b =
      let i = number-inside depth t (drop at bytes) rest u digit d o b in
      let r = runs-apart is_ascii_digit (decimal i.0) (take (after - at) (drop at bytes)) u (drop after bytes) (decimal-digits i.0 i.1) run.passed i.2 run.stopped (sym i.3 ∙ run-there bytes at after run.forward) in
      none i.0 (record { bounded = i.1; written = sym r.0 })

-- Forms of flags and of the sign of what is absent.
pub flag-found : (depth : ℕ) (bytes rest : List ℕ) (flag : Bool) → bytes ≡ spelling (Flag flag) ++ rest → Begins depth (tree (V.Flag flag)) bytes rest
flag-found depth bytes rest flag e = subst (λ t. Begins depth t bytes rest) (sym (tree-Flag flag)) (record { writable = tt; low = omega arith; ends = tt; spelled = e })

pub absent-found : (depth : ℕ) (bytes rest : List ℕ) → bytes ≡ 45 ∷ rest → Begins depth (tree V.Absent) bytes rest
absent-found depth bytes rest e = subst (λ t. Begins depth t bytes rest) (sym tree-Absent) (record { writable = tt; low = omega arith; ends = tt; spelled = e })

pub begins-higher : (low depth : ℕ) (t : Tree) (bytes rest : List ℕ) → low ≤ depth → Begins low t bytes rest → Begins depth t bytes rest
begins-higher low depth t bytes rest h b = record { writable = b.writable; low = omega (arith, b.low); ends = b.ends; spelled = b.spelled }

first_stops : (bytes : List ℕ) (at : ℕ) → at < length bytes → is_ascii_digit (get_or bytes at 0) ≡ true → StopsAt is_ascii_digit (drop at bytes) → ⊥
first_stops bytes at within digit stops = true≢false (sym digit ∙ subst (StopsAt is_ascii_digit) (drop_more bytes at 0 within) stops)

-- A run of digits at a digit goes on.
pub number-longer : (bytes : List ℕ) (at after : ℕ) → IsRun is_ascii_digit bytes at after → at < length bytes → is_ascii_digit (get_or bytes at 0) ≡ true → at < after
number-longer bytes at after run within digit =
    let differ : at ≡ after → ⊥ = λ e. first_stops bytes at within digit (subst (λ n. StopsAt is_ascii_digit (drop n bytes)) (sym e) run.stopped) in
    omega (arith, differ, run.forward)

-- Bytes that spell a tree begin with it.
pub begins-whole : (depth : ℕ) (bytes : List ℕ) (t : Tree) → Spells bytes t → height t ≤ depth → Begins depth t bytes []
begins-whole depth bytes t s low = record { writable = s.writable; low = low; ends = ends-from_no_digit t [] tt; spelled = s.spelled ∙ sym (append-nil (spelling t)) }

pub whole-spells : (depth : ℕ) (bytes rest : List ℕ) (t : Tree) → Begins depth t bytes rest → rest ≡ [] → Spells bytes t
whole-spells depth bytes rest t b e = record { writable = b.writable; spelled = b.spelled ∙ ap (λ l. spelling t ++ l) e ∙ append-nil (spelling t) }

-- Bytes that go on behind a tree spell no tree.
pub more-none : (depth : ℕ) (bytes rest : List ℕ) (t s : Tree) → Begins depth t bytes rest → 0 < length rest → Spells bytes s → ⊥
more-none depth bytes rest t s b some spells =
    let same = spellings-apart t s rest [] b.writable spells.writable b.ends (ends-from_no_digit s [] tt) (sym b.spelled ∙ spells.spelled ∙ sym (append-nil (spelling s))) in
    let none : length rest ≡ 0 = ap length same.1 in
    omega arith
