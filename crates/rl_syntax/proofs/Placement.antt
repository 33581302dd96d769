-- The text of a tree decides the ids and spans of its nodes.
use Rattle.std.proofs.Common.{◌≡◌, ℕ, ◌+◌, Bool, length, sym, ap, ◌∙◌, refl, subst}
use Rattle.rl_text.specs.Notation as notation
use Rattle.rl_syntax.specs.Words.{makes_scope}
use Rattle.rl_syntax.specs.Syntax.{Syntax, Node, Listed, Said, Count, Flag, Absent, Pieces, End, Then, plain, plain_parts, width, nodes, nodes_of, one_if, tally, tally_of, is_reference, next_byte, inside, behind, StandsAt, IsPlaced, ArePlaced}
use Rattle.rl_syntax.specs.declared.word.Word.{Word}
use Rattle.rl_syntax.specs.declared.numbered.At.{At}
use Rattle.rl_syntax.specs.declared.numbered.Position.{Position}
use Rattle.rl_syntax.proofs.Words.{word-one}

abbrev placed_at : (node last scope reference start end : ℕ) → At
placed_at node last scope reference start end = record { id = record { 0 = node }; end = record { 0 = last }; scope = record { 0 = scope }; reference = record { 0 = reference }; span = record { start = start; end = end } }

pub at-one : (a b : At) (from next : Position) → StandsAt a from next → StandsAt b from next → a ≡ b
at-one a b from next s t =
    λ i. placed_at ((s.number ∙ sym t.number) i) ((s.last ∙ sym t.last) i) ((s.scope ∙ sym t.scope) i) ((s.reference ∙ sym t.reference) i) ((s.start ∙ sym t.start) i) ((s.end ∙ sym t.end) i)

mutual
  pub nodes-one : (s t : Syntax) → plain s ≡ plain t → nodes s ≡ nodes t
  nodes-one (Node at word parts) (Node at' word' parts') e = ap (λ n. n + 1) (nodes_of-one parts parts' (cc))
  nodes-one (Listed parts) (Listed parts') e = nodes_of-one parts parts' (cc)
  nodes-one (Said text) (Said text') e = refl
  nodes-one (Count number) (Count number') e = refl
  nodes-one (Flag flag) (Flag flag') e = refl
  nodes-one Absent Absent e = refl
  nodes-one _ _ e = absurd (cc)

  pub nodes_of-one : (p q : Pieces) → plain_parts p ≡ plain_parts q → nodes_of p ≡ nodes_of q
  nodes_of-one End End e = refl
  nodes_of-one (Then s p) (Then t q) e = let first : nodes s ≡ nodes t = nodes-one s t (cc) in let rest : nodes_of p ≡ nodes_of q = nodes_of-one p q (cc) in cc
  nodes_of-one _ _ e = absurd (cc)

mutual
  pub tally-one : (counted : Word → Bool) (s t : Syntax) → plain s ≡ plain t → tally counted s ≡ tally counted t
  tally-one counted (Node at word parts) (Node at' word' parts') e =
      let rest : tally_of counted parts ≡ tally_of counted parts' = tally_of-one counted parts parts' (cc) in
      let word : word ≡ word' = word-one word word' (cc) in
      λ i. rest i + one_if counted (word i)
  tally-one counted (Listed parts) (Listed parts') e = tally_of-one counted parts parts' (cc)
  tally-one counted (Said text) (Said text') e = refl
  tally-one counted (Count number) (Count number') e = refl
  tally-one counted (Flag flag) (Flag flag') e = refl
  tally-one counted Absent Absent e = refl
  tally-one counted _ _ e = absurd (cc)

  pub tally_of-one : (counted : Word → Bool) (p q : Pieces) → plain_parts p ≡ plain_parts q → tally_of counted p ≡ tally_of counted q
  tally_of-one counted End End e = refl
  tally_of-one counted (Then s p) (Then t q) e =
      let first : tally counted s ≡ tally counted t = tally-one counted s t (cc) in
      let rest : tally_of counted p ≡ tally_of counted q = tally_of-one counted p q (cc) in
      λ i. first i + rest i
  tally_of-one counted _ _ e = absurd (cc)

-- Trees of one plain tree end at one position.
pub behind-one : (from : Position) (s t : Syntax) → plain s ≡ plain t → behind from s ≡ behind from t
behind-one from s t e =
    let wide : width s ≡ width t = ap (λ t. length (notation.spelling t)) e in
    let many : nodes s ≡ nodes t = nodes-one s t e in
    let made : tally makes_scope s ≡ tally makes_scope t = tally-one makes_scope s t e in
    let meant : tally is_reference s ≡ tally is_reference t = tally-one is_reference s t e in
    λ i. record { byte = from.byte + wide i; node = from.node + many i; scope = from.scope + made i; reference = from.reference + meant i }

mutual
  pub placed-one : (s t : Syntax) (from : Position) → plain s ≡ plain t → IsPlaced from s → IsPlaced from t → s ≡ t
  placed-one (Node at word parts) (Node at' word' parts') from e here there =
      let words : word ≡ word' = word-one word word' (cc) in
      let same : plain_parts parts ≡ plain_parts parts' = cc in
      let stands = subst (λ p. StandsAt at' from p) (sym (behind-one from (Node at word parts) (Node at' word' parts') e)) there.0 in
      let places : at ≡ at' = at-one at at' from (behind from (Node at word parts)) here.0 stands in
      let pieces : parts ≡ parts' = placed_parts-one parts parts' (inside from word) same here.1 (subst (λ w. ArePlaced (inside from w) parts') (sym words) there.1) in
      cc
  placed-one (Listed parts) (Listed parts') from e here there = ap Listed (placed_parts-one parts parts' from (cc) here there)
  placed-one (Said text) (Said text') from e here there = cc
  placed-one (Count number) (Count number') from e here there = cc
  placed-one (Flag flag) (Flag flag') from e here there = cc
  placed-one Absent Absent from e here there = refl
  placed-one _ _ from e here there = absurd (cc)

  pub placed_parts-one : (p q : Pieces) (from : Position) → plain_parts p ≡ plain_parts q → ArePlaced from p → ArePlaced from q → p ≡ q
  placed_parts-one End End from e here there = refl
  placed_parts-one (Then s p) (Then t q) from e here there =
      let first : s ≡ t = placed-one s t (next_byte from) (cc) here.0 there.0 in
      let rest : p ≡ q = placed_parts-one p q (behind (next_byte from) s) (cc) here.1 (subst (λ x. ArePlaced (behind (next_byte from) x) q) (sym first) there.1) in
      cc
  placed_parts-one _ _ from e here there = absurd (cc)
