use Rattle.std.proofs.Common.{◌∙◌, sym}
use Rattle.rl_text.proofs.Atoms.{text_none, text_unknown}
use Rattle.rl_atoms.proofs.operator.read_closed.Goals as goal

pub returns-in_default-clause-none : goal.returns-in_default-clause-none
returns-in_default-clause-none g c =
    text_none g.O.ClosedText.text c.args.bytes.now c.args.at (rw c.in_default.is at c.in_ok-text.ensures.none)

pub returns-clause-none : goal.returns-clause-none
returns-clause-none g c =
    text_unknown g.O.ClosedText.text c.args.bytes.now c.args.at c.in-Some.next c.in-Some.text
    (rw c.in-Some.is at c.in_ok-text.ensures.found)
    (λ value same. c.in-None.ensures.none value (same ∙ sym c.as_str.ensures))
