use Rattle.std.proofs.Common.{◌≡◌, ◌-◌, arith, true, false, drop, take, ap, sym, ◌∙◌}
use Rattle.rl_lint.proofs.Endings.{boundary, ends, goes_on}
use Rattle.rl_lint.specs.Stems.{is_ending}
use Rattle.rl_lint.proofs.stems.stem.Goals as goal

pub range-requires-clause-end_boundary : goal.range-requires-clause-end_boundary
range-requires-clause-end_boundary c =
    let name = c.args.name.now in let i = c.bytes.index in
    let there : is_ending (drop i name) ≡ true = ap (λ l. is_ending (drop i l)) (sym c.as_bytes.ensures.value) ∙ sym c.ends_at.ensures
    ∙ c.if-ends_at.true in
    boundary name i c.bytes-test.true there

pub returns-then-ends_at : goal.returns-then-ends_at
returns-then-ends_at c =
    let name = c.args.name.now in let i = c.bytes.index in
    let there : is_ending (drop i name) ≡ true = ap (λ l. is_ending (drop i l)) (sym c.as_bytes.ensures.value) ∙ sym c.ends_at.ensures
    ∙ c.if-ends_at.true in
    let whole : i - 0 ≡ i = omega arith in
    c.range.ensures.value ∙ ap (λ n. take n name) whole ∙ ends (take i name) (drop i name) name there c.bytes.invariant

pub bytes-preserved : goal.bytes-preserved
bytes-preserved c =
    let name = c.args.name.now in let i = c.bytes.index in
    let fails : is_ending (drop i name) ≡ false = ap (λ l. is_ending (drop i l)) (sym c.as_bytes.ensures.value) ∙ sym c.ends_at.ensures
    ∙ c.if-ends_at.false in
    goes_on name i c.bytes-test.true fails c.bytes.invariant
