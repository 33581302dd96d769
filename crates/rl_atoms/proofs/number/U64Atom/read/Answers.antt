use Rattle.std.proofs.Common.{◌∙◌, sym, true≢false, refl, arith}
use Rattle.rl_text.specs.Notation.{Count}
use Rattle.rl_text.proofs.Atoms.{number_first, tree_none, tree_unended}
use Rattle.rl_atoms.proofs.number.U64Atom.read.Goals as goal
use Rattle.rl_atoms.proofs.number.U64Atom.read.Goals.{then-at-bytes-via-then-at-bytes, then-at-bytes-via-else-at-bytes+then-not-is_ascii_digit}

pub returns-then-at-bytes-clause-none : goal.returns-then-at-bytes-clause-none
returns-then-at-bytes-clause-none c = λ number next stands.
    let first = number_first c.args.bytes.now c.args.at next number stands in
    elim c.then-at-bytes.branch [
      | then-at-bytes-via-then-at-bytes w ↦ omega (arith, first.0, w.if-at-bytes.true)
      | then-at-bytes-via-else-at-bytes+then-not-is_ascii_digit w ↦ true≢false (sym first.1 ∙ sym w.is_ascii_digit.ensures.value ∙ w.if-not-is_ascii_digit.true)
    ]

pub returns-in_default-clause-none : goal.returns-in_default-clause-none
returns-in_default-clause-none c =
    tree_none Count c.args.bytes.now c.args.at (λ _. refl) (rw c.in_default.is at c.read_number_at.ensures.none 0)

pub returns-then-not-ends_at-clause-none : goal.returns-then-not-ends_at-clause-none
returns-then-not-ends_at-clause-none c =
    tree_unended Count c.args.bytes.now c.args.at c.in-Some.next (Count c.in-Some.number) c.in-Some.ensures.found.2 (sym c.ends_at.ensures ∙ c.if-not-ends_at.true)
