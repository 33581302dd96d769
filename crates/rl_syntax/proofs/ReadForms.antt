-- Trees that are read, by their first byte.
use Rattle.std.proofs.Common.{◌≡◌, ℕ, ◌+◌, ◌-◌, ◌≤◌, ◌<◌, Bool, true, false, List, [], ◌∷◌, ◌++◌, length, take, drop, map, ap, sym, ◌∙◌, refl, arith, subst, append_assoc, length-drop}
use Rattle.std.proofs.lemmas.Bool.{and_parts}
use Rattle.std.proofs.lemmas.List.{length-take}
use Rattle.std.specs.List.{list_all}
use Rattle.rl_text.specs.Notation.{IsWord, spelling, spelled_on}
use Rattle.rl_text.specs.Places.{is_letter, IsRun, Begins, NoneBegins, GoesOn}
use Rattle.rl_text.proofs.Runs.{heads, runs-apart, run-there}
use Rattle.rl_text.proofs.Spellings.{form-from_byte}
use Rattle.rl_text.proofs.Worded.{no_letter-on}
use Rattle.rl_syntax.specs.Words.{word_text}
use Rattle.rl_syntax.specs.Syntax.{Syntax, Node, Listed, Said, Pieces, End, Then, pieces_of, syntax, plain, plain_parts, nodes, scopes, references, is_item, are_few, is_shaped, are_shaped, next_byte, inside, behind, StandsAt, IsPlaced, ArePlaced}
use Rattle.rl_syntax.specs.Reads.{IsLow, IsRead, NoneIsRead, AddsRead, NoneAdds, may_stand}
use Rattle.rl_syntax.specs.declared.word.Word.{Word}
use Rattle.rl_syntax.specs.declared.numbered.At.{At}
use Rattle.rl_syntax.specs.declared.numbered.Numbered.{Numbered}
use Rattle.rl_syntax.specs.declared.numbered.Position.{Position}
use Rattle.rl_syntax.specs.declared.numbered.Numbered.TheVariants as numbered
use Rattle.rl_syntax.proofs.Layers.{syntax_node, syntax_list}
use Rattle.rl_syntax.proofs.Pieces.{read-width, First, first-of, behind-first, adds_up}

-- No tree, hence no shaped one.
pub none-read : (depth : ℕ) (bytes : List ℕ) → NoneBegins depth bytes → NoneIsRead depth bytes
none-read depth bytes none s rest shaped b = none (plain s) rest b

-- Positions are one if their numbers are.
position-one : (p q : Position) → p.byte ≡ q.byte → p.node ≡ q.node → p.scope ≡ q.scope → p.reference ≡ q.reference → p ≡ q
position-one p q byte node scope reference = λ i. record { byte = byte i; node = node i; scope = scope i; reference = reference i }

-- The position at another offset, if no node opens in between.
abbrev pub moved : (from : Position) (byte : ℕ) → Position
moved from byte = record { byte = byte; node = from.node; scope = from.scope; reference = from.reference }

-- A tree without nodes.
pub leaf-read : (depth : ℕ) (from : Position) (byte : ℕ) (bytes : List ℕ) (n : Numbered) (s : Syntax) → syntax n ≡ s → nodes s ≡ 0 → scopes s ≡ 0 → references s ≡ 0 → is_shaped s ≡ true → IsPlaced from s → from.byte < byte → byte ≤ length bytes → IsLow from → Begins 0 (plain s) (drop from.byte bytes) (drop byte bytes) → IsRead depth from bytes (syntax n) (moved from byte)
leaf-read depth from byte bytes n s is count made meant shaped placed forward within low b = subst (λ t. IsRead depth from bytes t (moved from byte)) (sym is) (record {
  forward = forward;
  within = within;
  begins = record { writable = b.writable; low = omega (arith, b.low); ends = b.ends; spelled = b.spelled };
  shaped = shaped;
  placed = placed;
  passed = position-one (moved from byte) (behind from s) (read-width 0 from.byte byte bytes s (omega (arith, forward)) within b) (omega (arith, count)) (omega (arith, made)) (omega (arith, meant));
  low = (omega (arith, low.0), low.1, low.2);
})

-- A tree that begins with the first byte of a node or of a text is one.
pub node-first : (s : Syntax) (bytes : List ℕ) (depth : ℕ) (rest u : List ℕ) → Begins depth (plain s) bytes rest → bytes ≡ 40 ∷ u → is_item s ≡ true
node-first (Node at word parts) bytes depth rest u b o = refl
node-first (Said text) bytes depth rest u b o = refl
node-first s bytes depth rest u b o = let wrong = form-from_byte (plain s) 40 u rest b.writable (sym o ∙ b.spelled) in absurd (omega arith)

pub text-first : (s : Syntax) (bytes : List ℕ) (depth : ℕ) (rest u : List ℕ) → Begins depth (plain s) bytes rest → bytes ≡ 34 ∷ u → is_item s ≡ true
text-first (Node at word parts) bytes depth rest u b o = refl
text-first (Said text) bytes depth rest u b o = refl
text-first s bytes depth rest u b o = let wrong = form-from_byte (plain s) 34 u rest b.writable (sym o ∙ b.spelled) in absurd (omega arith)

-- A node or a text may stand anywhere.
pub item-stands : (listed : Bool) (s : Syntax) → is_item s ≡ true → may_stand listed s ≡ true
item-stands true s item = item
item-stands false s item = refl

module _ (depth : ℕ) (from : Position) (bytes : List ℕ) where
  -- Nodes.
  module _ (after : ℕ) (opened : drop from.byte bytes ≡ 40 ∷ drop (from.byte + 1) bytes) (run : IsRun is_letter bytes (from.byte + 1) after) where
    -- The node's word is the run of letters.
    node-pieces : (s : Syntax) (u : List ℕ) → is_shaped s ≡ true → Begins depth (plain s) (drop from.byte bytes) u → (w : Word) × (pieces : Pieces) × (word_text w ≡ take (after - (from.byte + 1)) (drop (from.byte + 1) bytes)) × (are_few pieces ≡ true) × (are_shaped pieces ≡ true) × GoesOn 41 (depth - 1) (plain_parts pieces) (drop after bytes) u
    node-pieces (Node a w pieces) u shaped b =
        let r = runs-apart is_letter (word_text w) (take (after - (from.byte + 1)) (drop (from.byte + 1) bytes)) (spelled_on 41 (plain_parts pieces) ++ u) (drop after bytes) b.writable.0.1 run.passed (no_letter-on 41 (plain_parts pieces) u refl) run.stopped
        (sym ((heads 40 40 _ _ (sym opened ∙ b.spelled)).1 ∙ append_assoc (word_text w) (spelled_on 41 (plain_parts pieces)) u) ∙ run-there bytes (from.byte + 1) after run.forward) in
        let both = and_parts (are_few pieces) (are_shaped pieces) shaped in
        (w, pieces, r.0, both.0, both.1, record { writable = b.writable.1; low = omega (arith, b.low); spelled = sym r.1 })
    node-pieces s u shaped b = let wrong = form-from_byte (plain s) 40 (drop (from.byte + 1) bytes) u b.writable (sym opened ∙ b.spelled) in absurd (omega arith)

    pub node-unknown : ((w : Word) → word_text w ≡ take (after - (from.byte + 1)) (drop (from.byte + 1) bytes) → ⊥) → NoneIsRead depth (drop from.byte bytes)
    node-unknown none s u shaped b = let n = node-pieces s u shaped b in none n.0 n.2

    pub node-none : NoneAdds 41 (depth - 1) (drop after bytes) → NoneIsRead depth (drop from.byte bytes)
    node-none none s u shaped b = let n = node-pieces s u shaped b in none n.1 u n.3 n.4 n.5

    module _ (word : Word) (known : word_text word ≡ take (after - (from.byte + 1)) (drop (from.byte + 1) bytes)) (any : after ≡ from.byte + 1 → ⊥) where
      pub word-length : from.byte + 1 + length (word_text word) ≡ after
      word-length = omega (arith, run.forward, run.within, ap length known, length-take (after - (from.byte + 1)) (drop (from.byte + 1) bytes), length-drop (from.byte + 1) bytes)

      is-word : IsWord (word_text word)
      is-word = let long : 0 < length (word_text word) = omega (arith, any, run.forward, word-length) in (long, ap (λ l. list_all is_letter l) known ∙ run.passed)

      pub node-read : (old parts : List Numbered) (at : At) (next : Position) → 0 < depth → old ≡ [] → AddsRead 41 (depth - 1) (inside from word) bytes old parts next → StandsAt at from next → IsRead depth from bytes (syntax (numbered.Node at word parts)) next
      node-read old parts at next some empty adds stands =
          let same : adds.more ≡ parts = sym (adds.added ∙ ap (λ l. l ++ adds.more) empty) in
          let ps = pieces_of (map syntax adds.more) in
          let spelled : drop after bytes ≡ spelled_on 41 (plain_parts ps) ++ drop next.byte bytes = ap (λ n. drop n bytes) (sym word-length) ∙ adds.there.spelled in
          let begins : Begins depth (plain (Node at word ps)) (drop from.byte bytes) (drop next.byte bytes) = record {
            writable = (is-word, adds.there.writable);
            low = omega (arith, adds.there.low);
            ends = tt;
            spelled = opened ∙ ap (λ l. 40 ∷ l) (run-there bytes (from.byte + 1) after run.forward ∙ ap (λ l. l ++ drop after bytes) (sym known) ∙ ap (λ l. word_text word ++ l) spelled ∙ sym (append_assoc (word_text word) (spelled_on 41 (plain_parts ps)) (drop next.byte bytes)));
          } in
          let forward : from.byte < next.byte = omega (arith, adds.forward) in
          let sums = adds_up (inside from word) next ps adds.passed in
          let passed : next ≡ behind from (Node at word ps) = position-one next (behind from (Node at word ps))
          (read-width depth from.byte next.byte bytes (Node at word ps) (omega (arith, forward)) adds.within begins)
          (omega (arith, sums.node)) (omega (arith, sums.scope)) (omega (arith, sums.reference)) in
          let all : IsRead depth from bytes (Node at word ps) next = record {
            forward = forward;
            within = adds.within;
            begins = begins;
            shaped = rw (adds.few, adds.shaped) refl;
            placed = (subst (λ p. StandsAt at from p) passed stands, adds.placed);
            passed = passed;
            low = adds.low;
          } in
          subst (λ t. IsRead depth from bytes t next) (ap (λ qs. Node at word (pieces_of (map syntax qs))) same ∙ sym (syntax_node at word parts)) all

  -- Lists.
  module _ (opened : drop from.byte bytes ≡ 91 ∷ drop (from.byte + 1) bytes) where
    pub list-empty : (parts : List Numbered) → 0 < depth → IsLow from → parts ≡ [] → from.byte + 1 < length bytes → drop (from.byte + 1) bytes ≡ 93 ∷ drop (from.byte + 1 + 1) bytes → IsRead depth from bytes (syntax (numbered.List parts)) (moved from (from.byte + 1 + 1))
    list-empty parts some low empty lt closed =
        let all : IsRead depth from bytes (Listed End) (moved from (from.byte + 1 + 1)) = record {
          forward = omega arith;
          within = omega arith;
          begins = record { writable = tt; low = omega arith; ends = tt; spelled = opened ∙ ap (λ l. 91 ∷ l) closed };
          shaped = refl;
          placed = tt;
          passed = position-one (moved from (from.byte + 1 + 1)) (behind from (Listed End)) (omega arith) (omega arith) (omega arith) (omega arith);
          low = (omega (arith, low.0), low.1, low.2);
        } in
        subst (λ t. IsRead depth from bytes t (moved from (from.byte + 1 + 1))) (sym (ap (λ ps. syntax (numbered.List ps)) empty ∙ syntax_list [])) all

    module _ (open_list : (u : List ℕ) → drop (from.byte + 1) bytes ≡ 93 ∷ u → ⊥) where
      -- A list that is not empty begins with a piece.
      list-first : (s : Syntax) (u : List ℕ) → is_shaped s ≡ true → Begins depth (plain s) (drop from.byte bytes) u → (p : Pieces) × First 93 (depth - 1) p (drop (from.byte + 1) bytes) u
      list-first (Listed End) u shaped b = absurd (open_list u (heads 91 91 _ _ (sym opened ∙ b.spelled)).1)
      list-first (Listed (Then s p)) u shaped b =
          (Then s p, first-of 93 (depth - 1) s p (drop (from.byte + 1) bytes) u refl shaped b.writable (omega (arith, b.low)) ((heads 91 91 _ _ (sym opened ∙ b.spelled)).1 ∙ append_assoc (spelling (plain s)) (spelled_on 93 (plain_parts p)) u))
      list-first s u shaped b = let wrong = form-from_byte (plain s) 91 (drop (from.byte + 1) bytes) u b.writable (sym opened ∙ b.spelled) in absurd (omega arith)

      pub list-none_first : ((s : Syntax) (u : List ℕ) → is_item s ≡ true → is_shaped s ≡ true → Begins (depth - 1) (plain s) (drop (from.byte + 1) bytes) u → ⊥) → NoneIsRead depth (drop from.byte bytes)
      list-none_first none s u shaped b = let f = list-first s u shaped b in none f.1.piece _ f.1.allowed f.1.shaped f.1.begins

      pub list-none : (s : Syntax) (after : ℕ) → Begins (depth - 1) (plain s) (drop (from.byte + 1) bytes) (drop after bytes) → NoneAdds 93 (depth - 1) (drop after bytes) → NoneIsRead depth (drop from.byte bytes)
      list-none s after stands none t u shaped b =
          let f = list-first t u shaped b in
          let m = behind-first 93 (depth - 1) bytes (from.byte + 1) after f.0 u s f.1 stands in
          none m.0 u refl m.2.shaped m.2.there

    pub list-read : (first : Numbered) (old parts : List Numbered) (behind_first next : Position) → 0 < depth → is_item (syntax first) ≡ true → IsRead (depth - 1) (next_byte from) bytes (syntax first) behind_first → old ≡ first ∷ [] → AddsRead 93 (depth - 1) behind_first bytes old parts next → IsRead depth from bytes (syntax (numbered.List parts)) next
    list-read first old parts behind_first next some item read one adds =
        let same : first ∷ adds.more ≡ parts = sym (adds.added ∙ ap (λ l. l ++ adds.more) one) in
        let ps = pieces_of (map syntax adds.more) in
        let begins : Begins depth (plain (Listed (Then (syntax first) ps))) (drop from.byte bytes) (drop next.byte bytes) = record {
          writable = (read.begins.writable, adds.there.writable);
          low = omega (arith, adds.there.low, read.begins.low);
          ends = tt;
          spelled = opened ∙ ap (λ l. 91 ∷ l) (read.begins.spelled ∙ ap (λ l. spelling (plain (syntax first)) ++ l) adds.there.spelled ∙ sym (append_assoc (spelling (plain (syntax first))) (spelled_on 93 (plain_parts ps)) (drop next.byte bytes)));
        } in
        let forward : from.byte < next.byte = omega (arith, read.forward, adds.forward) in
        let sums = adds_up behind_first next ps adds.passed in
        let passed : next ≡ behind from (Listed (Then (syntax first) ps)) = position-one next (behind from (Listed (Then (syntax first) ps)))
        (read-width depth from.byte next.byte bytes (Listed (Then (syntax first) ps)) (omega (arith, forward)) adds.within begins)
        (omega (arith, sums.node, ap (λ p. p.node) read.passed))
        (omega (arith, sums.scope, ap (λ p. p.scope) read.passed))
        (omega (arith, sums.reference, ap (λ p. p.reference) read.passed)) in
        let all : IsRead depth from bytes (Listed (Then (syntax first) ps)) next = record {
          forward = forward;
          within = adds.within;
          begins = begins;
          shaped = rw (item, read.shaped, adds.shaped) refl;
          placed = (read.placed, subst (λ p. ArePlaced p ps) read.passed adds.placed);
          passed = passed;
          low = adds.low;
        } in
        subst (λ t. IsRead depth from bytes t next) (ap (λ qs. Listed (pieces_of (map syntax qs))) same ∙ sym (syntax_list parts)) all
