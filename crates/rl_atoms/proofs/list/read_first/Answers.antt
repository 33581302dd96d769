use Rattle.std.proofs.Common.{sym, true≢false}
use Rattle.rl_atoms.proofs.Rows.{first_none, first_row, first_no_row}
use Rattle.rl_atoms.proofs.list.read_first.Goals as goal

pub returns-in_default-clause-none : goal.returns-in_default-clause-none
returns-in_default-clause-none g c =
    first_none g.A.Atom.spells g.met.A.Atom.not_closing c.args.bytes.now c.args.at (rw c.in_default.is at c.in_ok-value.ensures.none)
    (λ v e. true≢false (sym (c.if-has_byte.ensures.no v e)))

pub returns-in_default-2-clause-none : goal.returns-in_default-2-clause-none
returns-in_default-2-clause-none g c =
    let laws = g.met.A.Atom in
    first_no_row g.A.Atom.spells laws.one_spelling laws.apart c.args.bytes.now c.args.at c.in-Some.after c.in-Some.value (rw c.in-Some.is at c.in_ok-value.ensures.found)
    (rw c.in_default-2.is at c.in_ok-next.ensures.none) (λ v e. true≢false (sym (c.if-has_byte.ensures.no v e)))

pub returns-clause-found : goal.returns-clause-found
returns-clause-found g c =
    first_row g.A.Atom.spells c.args.bytes.now c.args.at c.in-Some.after c.in-Some-2.next c.args.values.now c.push.new.self c.read_more.new.values c.in-Some.value
    (rw c.in-Some.is at c.in_ok-value.ensures.found) c.in_ok-push.ensures.ok (rw c.in-Some-2.is at c.in_ok-next.ensures.found)
