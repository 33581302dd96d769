use Rattle.std.proofs.Common.{sym, refl, true≢false}
use Rattle.rl_atoms.proofs.Rows.{row_read, row_unread, row_unclosed}
use Rattle.rl_atoms.proofs.list.read_more.Goals as goal

pub values-preserved : goal.values-preserved
values-preserved g c =
    row_read g.A.Atom.spells c.args.bytes.now c.args.at c.values.place c.in-Some.after c.args.values.now c.values.values c.push.new.self c.in-Some.value
    c.values.invariant (c.values-test.ensures.yes refl).1 (rw c.in-Some.is at c.in_ok-value.ensures.found) c.in_ok-push.ensures.ok

pub returns-in_default-clause-none : goal.returns-in_default-clause-none
returns-in_default-clause-none g c =
    let laws = g.met.A.Atom in
    row_unread g.A.Atom.spells laws.one_spelling laws.apart laws.not_closing c.args.bytes.now c.args.at c.values.place c.args.values.now c.values.values
    c.values.invariant (c.values-test.ensures.yes refl).1 (rw c.in_default.is at c.in_ok-value.ensures.none)

pub returns-else-has_byte-clause-none : goal.returns-else-has_byte-clause-none
returns-else-has_byte-clause-none g c =
    let laws = g.met.A.Atom in
    row_unclosed g.A.Atom.spells laws.one_spelling laws.apart c.args.bytes.now c.args.at c.values.place c.args.values.now c.values.values
    c.values.invariant (λ v e. true≢false (sym (c.values-test.ensures.no v e))) (λ v e. true≢false (sym (c.if-has_byte.ensures.no v e)))
