use Rattle.std.proofs.Common.{◌∙◌, sym, refl}
use Rattle.rl_atoms.proofs.ListLaws.{list_stands, list_one, list_unended}
use Rattle.rl_atoms.proofs.list.read_list.Goals as goal

pub returns-then-not-ends_at-clause-none : goal.returns-then-not-ends_at-clause-none
returns-then-not-ends_at-clause-none g c =
    let laws = g.met.A.Atom in
    list_unended g.A.Atom.spells laws.one_spelling laws.apart laws.not_closing c.args.bytes.now c.args.at c.in-Some.next c.new-values.result c.read_first.new.values
    (c.if-not-has_byte.ensures.yes refl).1 (rw c.in-Some.is at c.in_ok-next.ensures.found) (sym c.ends_at.ensures ∙ c.if-not-ends_at.true)

pub returns-clause-found : goal.returns-clause-found
returns-clause-found g c =
    list_stands g.A.Atom.spells c.args.bytes.now c.args.at c.in-Some.next c.new-values.result c.read_first.new.values c.new-values.ensures
    (c.if-not-has_byte.ensures.yes refl).1 (rw c.in-Some.is at c.in_ok-next.ensures.found) (sym c.ends_at.ensures ∙ c.if-not-ends_at.false)

pub returns-clause-unique : goal.returns-clause-unique
returns-clause-unique g c = λ values next stands.
    let laws = g.met.A.Atom in
    list_one g.A.Atom.spells laws.one_spelling laws.apart laws.not_closing c.args.bytes.now c.args.at next c.in-Some.next values c.read_first.new.values stands
    (returns-clause-found g c)
