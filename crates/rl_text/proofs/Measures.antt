-- The measure of a tree's spelling: the tree's nodes, and the largest number of them open at once.
use Rattle.std.proofs.Common.{◌≡◌, ℕ, ◌+◌, ◌-◌, ◌/◌, ◌%◌, max, Bool, true, false, cond, not, ◌==◌, ◌||◌, List, [], ◌∷◌, ◌++◌, ap, sym, ◌∙◌, refl, arith, append_assoc, inl, inr}
use Rattle.std.proofs.lemmas.List.{append-nil}
use Rattle.std.proofs.lemmas.List.Sums.{sum_by-append}
use Rattle.std.proofs.lemmas.Bool.Decides.{nat_tests}
use Rattle.std.proofs.lemmas.Bool.{and_parts}
use Rattle.std.specs.List.{count_by, list_all}
use Rattle.std.specs.Char.{is_ascii_digit}
use Rattle.rl_text.specs.Measure.{outside, nodes_in, deepest_from, deepest_in}
use Rattle.rl_text.specs.Nodes.{count, count_of, depth, depth_of}
use Rattle.rl_text.specs.Number.{numeral}
use Rattle.rl_text.specs.Notation.{Tree, Node, Listed, Said, Count, Flag, Absent, Parts, End, Then, spelling, spelled_on, IsWritable, AreWritable}
use Rattle.rl_text.specs.Places.{is_letter}
use Rattle.rl_text.specs.Quoted.{hexadecimal, is_escaped, escape, quoted_rest, quoted}
use Rattle.rl_text.proofs.Measuring.{outside-other, outside-within, opens-cons, opens-other, open_after-other, deepest_from-low}
use Rattle.rl_text.proofs.Digits.{numeral-digits}
use Rattle.rl_text.proofs.Quotes.{tested, escape-escaped, escape-plain}

-- Bytes that, wherever they stand outside texts, open `nodes` nodes, at most `deep` of them at once, and close all of them.
pub record Balanced (bytes : List ℕ) (nodes deep : ℕ) : Type 0 where
  pub apart : (rest : List ℕ) → outside false (bytes ++ rest) ≡ outside false bytes ++ outside false rest
  pub opens : count_by (λ byte. byte == 40) (outside false bytes) ≡ nodes
  pub reaches : (from : ℕ) (rest : List ℕ) → deepest_from from (outside false bytes ++ rest) ≡ max (from + deep) (deepest_from from rest)

pub balanced-nodes_in : (bytes : List ℕ) (nodes deep : ℕ) → Balanced bytes nodes deep → nodes_in bytes ≡ nodes
balanced-nodes_in bytes nodes deep b = b.opens

pub balanced-deepest_in : (bytes : List ℕ) (nodes deep : ℕ) → Balanced bytes nodes deep → deepest_in bytes ≡ deep
balanced-deepest_in bytes nodes deep b =
    let e = rw append-nil at (b.reaches 0 []) in omega (arith, e)

-- Balanced bytes in a row are balanced.
pub balanced-append : (s t : List ℕ) (a b c d : ℕ) → Balanced s a c → Balanced t b d → Balanced (s ++ t) (a + b) (max c d)
balanced-append s t a b c d p q = record {
  apart = λ rest. ap (outside false) (append_assoc s t rest) ∙ p.apart (t ++ rest) ∙ ap (λ l. outside false s ++ l) (q.apart rest) ∙ sym (append_assoc (outside false s) (outside false t) (outside false rest)) ∙ ap (λ l. l ++ outside false rest) (sym (p.apart t));
  opens = rw (p.apart t) (sum_by-append _ (outside false s) (outside false t) ∙ (λ i. p.opens i + q.opens i));
  reaches = λ from rest. rw (p.apart t, append_assoc) (let e = p.reaches from (outside false t ++ rest) in let f = q.reaches from rest in omega (arith, e, f));
}

-- Bytes that open nothing may stand in front or behind.
pub balanced-behind : (s t : List ℕ) (nodes deep : ℕ) → Balanced s 0 0 → Balanced t nodes deep → Balanced (s ++ t) nodes deep
balanced-behind s t nodes deep p q =
    let e : 0 + nodes ≡ nodes = omega arith in
    let f : max 0 deep ≡ deep = omega arith in rw (e, f) at (balanced-append s t 0 nodes 0 deep p q)

pub balanced-before : (s t : List ℕ) (nodes deep : ℕ) → Balanced s nodes deep → Balanced t 0 0 → Balanced (s ++ t) nodes deep
balanced-before s t nodes deep p q =
    let e : nodes + 0 ≡ nodes = omega arith in
    let f : max deep 0 ≡ deep = omega arith in rw (e, f) at (balanced-append s t nodes 0 deep 0 p q)

-- True of a byte that is no quote and no parenthesis.
abbrev pub is_plain : ℕ → Bool
is_plain byte = not (byte == 34 || byte == 40 || byte == 41)

plain-no_quote : (byte : ℕ) → is_plain byte ≡ true → byte ≡ 34 → ⊥
plain-no_quote byte h e = grind (arith, nat_tests)

plain-no_open : (byte : ℕ) → is_plain byte ≡ true → byte ≡ 40 → ⊥
plain-no_open byte h e = grind (arith, nat_tests)

plain-no_close : (byte : ℕ) → is_plain byte ≡ true → byte ≡ 41 → ⊥
plain-no_close byte h e = grind (arith, nat_tests)

plain-outside : (s rest : List ℕ) → list_all is_plain s ≡ true → outside false (s ++ rest) ≡ s ++ outside false rest
plain-outside [] rest h = refl
plain-outside (byte ∷ s) rest h =
    let p = and_parts (is_plain byte) _ h in
    outside-other byte (s ++ rest) (plain-no_quote byte p.0) ∙ ap (λ l. byte ∷ l) (plain-outside s rest p.1)

plain-opens : (s : List ℕ) → list_all is_plain s ≡ true → count_by (λ byte. byte == 40) s ≡ 0
plain-opens [] h = refl
plain-opens (byte ∷ s) h =
    let p = and_parts (is_plain byte) _ h in
    opens-other byte s (plain-no_open byte p.0) ∙ plain-opens s p.1

plain-reaches : (s rest : List ℕ) (from : ℕ) → list_all is_plain s ≡ true → deepest_from from (s ++ rest) ≡ deepest_from from rest
plain-reaches [] rest from h = refl
plain-reaches (byte ∷ s) rest from h =
    let p = and_parts (is_plain byte) _ h in
    rw (open_after-other from byte (plain-no_open byte p.0) (plain-no_close byte p.0)) (omega (arith, plain-reaches s rest from p.1, deepest_from-low from rest))

pub balanced-plain : (s : List ℕ) → list_all is_plain s ≡ true → Balanced s 0 0
balanced-plain s h =
    let same : outside false s ≡ s = ap (outside false) (sym (append-nil s)) ∙ plain-outside s [] h ∙ append-nil s in record {
      apart = λ rest. plain-outside s rest h ∙ ap (λ l. l ++ outside false rest) (sym same);
      opens = rw same (plain-opens s h);
      reaches = λ from rest. rw same (omega (arith, plain-reaches s rest from h, deepest_from-low from rest));
    }

-- Balanced bytes in parentheses have a node more, and are deeper by it.
pub balanced-node : (s : List ℕ) (nodes deep : ℕ) → Balanced s nodes deep → Balanced (40 ∷ (s ++ 41 ∷ [])) (nodes + 1) (deep + 1)
balanced-node s nodes deep b = record {
  apart = λ rest. ap (λ l. 40 ∷ l) (ap (outside false) (append_assoc s (41 ∷ []) rest) ∙ b.apart (41 ∷ rest) ∙ sym (append_assoc (outside false s) (41 ∷ []) (outside false rest)) ∙ ap (λ l. l ++ outside false rest) (sym (b.apart (41 ∷ []))));
  opens = rw (b.apart (41 ∷ [])) (omega (arith, opens-cons 40 (outside false s ++ 41 ∷ []), sum_by-append (λ byte. cond (byte == 40) 1 0) (outside false s) (41 ∷ []), opens-cons 41 [], b.opens));
  reaches = λ from rest.
      let back : from + 1 - 1 ≡ from = omega arith in
      rw (b.apart (41 ∷ []), append_assoc (outside false s) (41 ∷ []) rest) (omega (arith, b.reaches (from + 1) (41 ∷ rest), ap (λ n. deepest_from n rest) back, deepest_from-low from rest));
}

hexadecimal-no_quote : (digit : ℕ) → hexadecimal digit ≡ 34 → ⊥
hexadecimal-no_quote digit h = grind (arith, nat_tests)

unescaped-no_quote : (byte : ℕ) → is_escaped byte ≡ false → byte ≡ 34 → ⊥
unescaped-no_quote byte h e = grind (arith, nat_tests)

escape-outside : (byte : ℕ) (rest : List ℕ) → outside true (escape byte ++ rest) ≡ outside true rest
escape-outside byte rest = elim (tested (is_escaped byte)) [
  | inl said ↦ (rw (escape-escaped byte said)
      (outside-within (hexadecimal (byte / 16)) (hexadecimal (byte % 16) ∷ rest) (hexadecimal-no_quote (byte / 16)) ∙ outside-within (hexadecimal (byte % 16)) rest (hexadecimal-no_quote (byte % 16))))
  | inr plain ↦ rw (escape-plain byte plain) (outside-within byte rest (unescaped-no_quote byte plain))
]

quoted_rest-outside : (text rest : List ℕ) → outside true (quoted_rest text ++ rest) ≡ outside false rest
quoted_rest-outside [] rest = refl
quoted_rest-outside (byte ∷ text) rest =
    ap (outside true) (append_assoc (escape byte) (quoted_rest text) rest) ∙ escape-outside byte (quoted_rest text ++ rest) ∙ quoted_rest-outside text rest

-- Escapes keep quotes out of texts.
pub balanced-quoted : (text : List ℕ) → Balanced (quoted text) 0 0
balanced-quoted text =
    let none : outside true (quoted_rest text) ≡ [] = ap (outside true) (sym (append-nil (quoted_rest text))) ∙ quoted_rest-outside text [] in record {
      apart = λ rest. quoted_rest-outside text rest ∙ ap (λ l. l ++ outside false rest) (sym none);
      opens = rw none refl;
      reaches = λ from rest. rw none (omega (arith, deepest_from-low from rest));
    }

letter-plain : (byte : ℕ) → is_letter byte ≡ true → is_plain byte ≡ true
letter-plain byte h = grind (arith, nat_tests)

digit-plain : (byte : ℕ) → is_ascii_digit byte ≡ true → is_plain byte ≡ true
digit-plain byte h = grind (arith, nat_tests)

all-plain : (test : ℕ → Bool) → ((byte : ℕ) → test byte ≡ true → is_plain byte ≡ true) → (s : List ℕ) → list_all test s ≡ true → list_all is_plain s ≡ true
all-plain test plain [] h = refl
all-plain test plain (byte ∷ s) h = let p = and_parts (test byte) _ h in rw (plain byte p.0, all-plain test plain s p.1) refl

pub balanced-word : (word : List ℕ) → list_all is_letter word ≡ true → Balanced word 0 0
balanced-word word h = balanced-plain word (all-plain is_letter letter-plain word h)

pub balanced-digits : (digits : List ℕ) → list_all is_ascii_digit digits ≡ true → Balanced digits 0 0
balanced-digits digits h = balanced-plain digits (all-plain is_ascii_digit digit-plain digits h)

-- Parts, each behind a space.
abbrev spaced : Parts → List ℕ
spaced End = []
spaced (Then part parts) = 32 ∷ (spelling part ++ spaced parts)

spaced-closed : (close : ℕ) (parts : Parts) → spelled_on close parts ≡ spaced parts ++ close ∷ []
spaced-closed close End = refl
spaced-closed close (Then part parts) = ap (λ l. 32 ∷ (spelling part ++ l)) (spaced-closed close parts) ∙ ap (λ l. 32 ∷ l) (sym (append_assoc (spelling part) (spaced parts) (close ∷ [])))

mutual
  -- A tree's spelling opens the tree's nodes, as deep as the tree is.
  pub balanced-spelling : (t : Tree) → IsWritable t → Balanced (spelling t) (count t) (depth t)
  balanced-spelling (Node word parts) h =
      rw (spaced-closed 41 parts, ← append_assoc word (spaced parts) (41 ∷ [])) (balanced-node (word ++ spaced parts) (count_of parts) (depth_of parts) (balanced-behind word (spaced parts) (count_of parts) (depth_of parts) (balanced-word word h.0.1) (balanced-spaced parts h.1)))
  balanced-spelling (Listed End) h = balanced-plain (91 ∷ 93 ∷ []) refl
  balanced-spelling (Listed (Then part parts)) h =
      let closed = balanced-before (spaced parts) (93 ∷ []) (count_of parts) (depth_of parts) (balanced-spaced parts h.1) (balanced-plain (93 ∷ []) refl) in
      rw (spaced-closed 93 parts) (balanced-behind (91 ∷ []) (spelling part ++ (spaced parts ++ 93 ∷ [])) (count part + count_of parts) (max (depth part) (depth_of parts)) (balanced-plain (91 ∷ []) refl) (balanced-append (spelling part) (spaced parts ++ 93 ∷ []) (count part) (count_of parts) (depth part) (depth_of parts) (balanced-spelling part h.0) closed))
  balanced-spelling (Said text) h = balanced-quoted text
  balanced-spelling (Count number) h = balanced-digits (numeral number) (numeral-digits number)
  balanced-spelling (Flag true) h = balanced-plain (121 ∷ []) refl
  balanced-spelling (Flag false) h = balanced-plain (110 ∷ []) refl
  balanced-spelling Absent h = balanced-plain (45 ∷ []) refl

  balanced-spaced : (parts : Parts) → AreWritable parts → Balanced (spaced parts) (count_of parts) (depth_of parts)
  balanced-spaced End h = balanced-plain [] refl
  balanced-spaced (Then part parts) h =
      balanced-behind (32 ∷ []) (spelling part ++ spaced parts) (count part + count_of parts) (max (depth part) (depth_of parts)) (balanced-plain (32 ∷ []) refl) (balanced-append (spelling part) (spaced parts) (count part) (count_of parts) (depth part) (depth_of parts) (balanced-spelling part h.0) (balanced-spaced parts h.1))

pub nodes_in-spelling : (t : Tree) → IsWritable t → nodes_in (spelling t) ≡ count t
nodes_in-spelling t h = balanced-nodes_in (spelling t) (count t) (depth t) (balanced-spelling t h)

pub deepest_in-spelling : (t : Tree) → IsWritable t → deepest_in (spelling t) ≡ depth t
deepest_in-spelling t h = balanced-deepest_in (spelling t) (count t) (depth t) (balanced-spelling t h)
