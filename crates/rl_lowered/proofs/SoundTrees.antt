-- The parts of a small tree are small.
use Rattle.std.proofs.Common.{◌≡◌, ℕ, ◌≤◌, true, nat_le, List, sym, subst, arith}
use Rattle.std.proofs.lemmas.Bool.{leb-true, and_parts}
use Rattle.rl_lowered.proofs.Common.{End, Node, Pieces, Said, Syntax, Then}
use Rattle.rl_text.specs.Number.{largest}
use Rattle.rl_text.specs.Numeral.{is_numeral, number_of}
use Rattle.rl_syntax.specs.Syntax.{Listed, Count, Flag, Absent, span_of}
use Rattle.rl_promises.specs.Locals.{IsSmallSpan}
use Rattle.rl_lowered.specs.Sound.{HasSmallSpans, HaveSmallSpans}
use Rattle.rl_lowered.specs.Spanned.{EachSpan, EachSpanAmong}

-- A numeral spells a number up to the largest.
pub numeral_fits : (text : List ℕ) (number : ℕ) → is_numeral text ≡ true → number ≡ number_of text → number ≤ largest
numeral_fits text number is same =
    subst (λ (n : ℕ). n ≤ largest) (sym same)
    (leb-true (number_of text) largest (and_parts (nat_le (number_of text) largest) _ is).0)

-- The spans of a small tree's nodes are small.
mutual
  pub each_small : (e : Syntax) → HasSmallSpans e → EachSpan IsSmallSpan e
  each_small (Node at w parts) small = (small.0, each_small_among parts small.1)
  each_small (Listed parts) small = each_small_among parts small
  each_small (Said text) small = tt
  each_small (Count number) small = tt
  each_small (Flag flag) small = tt
  each_small Absent small = tt

  each_small_among : (parts : Pieces) → HaveSmallSpans parts → EachSpanAmong IsSmallSpan parts
  each_small_among End small = tt
  each_small_among (Then piece pieces) small = (each_small piece small.0, each_small_among pieces small.1)

-- The span of a part is small.
pub span_small : (e : Syntax) → HasSmallSpans e → IsSmallSpan (span_of e)
span_small (Node at w parts) small = small.0
span_small _ small = (omega arith, omega arith)
