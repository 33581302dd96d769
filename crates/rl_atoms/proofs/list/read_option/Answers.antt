use Rattle.std.proofs.Common.{◌∙◌, ◌+◌, sym, refl, true≢false, None, Some}
use Rattle.rl_atoms.proofs.ListLaws.{absent_stands, some_stands, option_none, option_one}
use Rattle.rl_atoms.proofs.list.read_option.Goals as goal

pub returns-then-has_byte-clause-unique : goal.returns-then-has_byte-clause-unique
returns-then-has_byte-clause-unique g c = λ value next stands.
    let laws = g.met.A.Atom in
    let there = c.if-has_byte.ensures.yes refl in
    option_one g.A.Atom.spells laws.one_spelling laws.apart laws.not_absent c.args.bytes.now c.args.at next (c.args.at + 1) value None stands
    (absent_stands g.A.Atom.spells c.args.bytes.now c.args.at there.0 there.1 (sym c.ends_at.ensures ∙ c.if-not-ends_at.false))

pub returns-in_default-clause-none : goal.returns-in_default-clause-none
returns-in_default-clause-none g c =
    option_none g.A.Atom.spells c.args.bytes.now c.args.at (λ v e. true≢false (sym (c.if-has_byte.ensures.no v e))) (rw c.in_default.is at c.in_ok-value.ensures.none)

pub returns-clause-unique : goal.returns-clause-unique
returns-clause-unique g c = λ value next stands.
    let laws = g.met.A.Atom in
    option_one g.A.Atom.spells laws.one_spelling laws.apart laws.not_absent c.args.bytes.now c.args.at next c.in-Some.next value (Some c.in-Some.value) stands
    (some_stands g.A.Atom.spells c.args.bytes.now c.args.at c.in-Some.next c.in-Some.value (rw c.in-Some.is at c.in_ok-value.ensures.found))
