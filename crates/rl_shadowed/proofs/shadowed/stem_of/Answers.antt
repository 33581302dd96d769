use Rattle.std.proofs.Common.{drop, take, ap, sym, ◌∙◌}
use Rattle.std.proofs.lemmas.List.{take_rest}
use Rattle.rl_shadowed.proofs.Stems.{ends, goes_on}
use Rattle.rl_shadowed.specs.Shadowed.{is_ending}
use Rattle.rl_shadowed.proofs.shadowed.stem_of.Goals as goal

pub returns-then-is_ending : goal.returns-then-is_ending
returns-then-is_ending c =
    let name = c.args.name.now in
    ends (take c.bytes.index name) (drop c.bytes.index name) name
    (ap is_ending (sym (take_rest name c.bytes.index)) ∙ sym c.is_ending.ensures ∙ c.if-is_ending.true) c.bytes.invariant

pub bytes-preserved : goal.bytes-preserved
bytes-preserved c =
    let name = c.args.name.now in
    goes_on name c.bytes.index c.bytes-test.true
    (ap is_ending (sym (take_rest name c.bytes.index)) ∙ sym c.is_ending.ensures ∙ c.if-is_ending.false) c.bytes.invariant
