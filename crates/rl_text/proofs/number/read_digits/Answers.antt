use Rattle.std.proofs.Common.{◌≡◌, ◌+◌, ◌-◌, ◌*◌, ◌<◌, true, [], ◌&&◌, length, drop, get_or, ap, sym, ◌∙◌, arith, true≢false}
use Rattle.std.proofs.lemmas.List.{drop_more}
use Rattle.std.proofs.Math.ListN.{drop_of_length-le}
use Rattle.std.proofs.lemmas.Bool.{and_parts}
use Rattle.std.specs.List.{list_all}
use Rattle.std.specs.Char.{is_ascii_digit}
use Rattle.rl_text.proofs.Numbers.{read_on, read_on-grows, numeral-from_value, numeral-digits, numeral-value, numeral-some, numeral-no_zero}
use Rattle.rl_text.proofs.number.read_digits.Goals as goal
use Rattle.rl_text.proofs.number.read_digits.Goals.{else-text-gt1-via-then-text-gt1+else-text-eq48, else-text-gt1-via-else-text-gt1}

pub returns-then-is_empty-clause-none : goal.returns-then-is_empty-clause-none
returns-then-is_empty-clause-none c n h = grind (arith, numeral-some c.args.text.now n h)

pub returns-then-text-eq48-clause-none : goal.returns-then-text-eq48-clause-none
returns-then-text-eq48-clause-none c n h =
    let one : length c.args.text.now ≡ 1 = numeral-no_zero c.args.text.now n h c.if-text-eq48.true in
    omega arith

pub returns-then-not-is_ascii_digit-clause-none : goal.returns-then-not-is_ascii_digit-clause-none
returns-then-not-is_ascii_digit-clause-none c n h =
    let text = c.args.text.now in
    let i = c.read.digit-index in
    let more = drop_more text i 0 c.read-test.true in
    let all : list_all is_ascii_digit (drop i text) ≡ true = c.read.invariant.digits ∙ numeral-digits text n h in
    let here = and_parts (is_ascii_digit (get_or text i 0)) _ (ap (list_all is_ascii_digit) (sym more) ∙ all) in
    true≢false (sym here.0 ∙ sym c.is_ascii_digit.ensures.value ∙ c.if-not-is_ascii_digit.true)

pub read-preserved : goal.read-preserved
read-preserved c =
    let text = c.args.text.now in
    let i = c.read.digit-index in
    let more = drop_more text i 0 c.read-test.true in
    let digit : is_ascii_digit (get_or text i 0) ≡ true = sym c.is_ascii_digit.ensures.value ∙ c.if-not-is_ascii_digit.false in
    record {
      rest = ap (λ n. read_on n (drop (i + 1) text)) (ap (λ n. 10 * c.read.value + n) c.from.ensures) ∙ sym (ap (read_on c.read.value) more) ∙ c.read.invariant.rest;
      digits = sym (ap (λ b. b && list_all is_ascii_digit (drop (i + 1) text)) digit) ∙ sym (ap (list_all is_ascii_digit) more) ∙ c.read.invariant.digits;
      small = omega arith;
    }

pub returns-then-value-gt-LARGEST-clause-none : goal.returns-then-value-gt-LARGEST-clause-none
returns-then-value-gt-LARGEST-clause-none c n h =
    let text = c.args.text.now in
    let i = c.read.digit-index in
    let v = c.read.value in
    let more = drop_more text i 0 c.read-test.true in
    let grown = read_on-grows (10 * v + (get_or text i 0 - 48)) (drop (i + 1) text) in
    let same : read_on (10 * v + (get_or text i 0 - 48)) (drop (i + 1) text) ≡ n = sym (ap (read_on v) more) ∙ (c.read.invariant.rest ∙ numeral-value text n h) in
    omega (arith, grown, same, h.bounded, c.if-value-gt-LARGEST.true, c.from.ensures)

pub returns-clause-some : goal.returns-clause-some
returns-clause-some c =
    let text = c.args.text.now in
    let ended : drop c.read.digit-index text ≡ [] = drop_of_length-le text c.read-test.false in
    let digits : list_all is_ascii_digit text ≡ true = sym c.read.invariant.digits ∙ ap (list_all is_ascii_digit) ended in
    let value : read_on 0 text ≡ c.read.value = sym c.read.invariant.rest ∙ ap (read_on c.read.value) ended in
    let some : 0 < length text = grind arith in
    let lead : get_or text 0 0 ≡ 48 → length text ≡ 1 = λ z. elim c.else-text-gt1.branch [
      | else-text-gt1-via-then-text-gt1+else-text-eq48 w ↦ absurd (w.if-text-eq48.false z)
      | else-text-gt1-via-else-text-gt1 w ↦ omega arith
    ] in
    numeral-from_value text c.read.value digits some lead value c.read.invariant.small
