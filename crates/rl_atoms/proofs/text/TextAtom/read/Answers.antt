use Rattle.std.proofs.Common.{◌∙◌, sym, refl}
use Rattle.rl_text.specs.Notation.{Said}
use Rattle.rl_text.proofs.Atoms.{tree_none, tree_unended}
use Rattle.rl_atoms.proofs.text.TextAtom.read.Goals as goal

pub returns-in_default-clause-none : goal.returns-in_default-clause-none
returns-in_default-clause-none c =
    tree_none Said c.args.bytes.now c.args.at (λ _. refl) (rw c.in_default.is at c.in_ok-text.ensures.none 0)

pub returns-then-not-ends_at-clause-none : goal.returns-then-not-ends_at-clause-none
returns-then-not-ends_at-clause-none c =
    tree_unended Said c.args.bytes.now c.args.at c.in-Some.next (Said c.in-Some.text) (rw c.in-Some.is at c.in_ok-text.ensures.found).2 (sym c.ends_at.ensures ∙ c.if-not-ends_at.true)
