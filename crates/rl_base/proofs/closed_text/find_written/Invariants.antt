use Rattle.std.proofs.Common.{◌≡◌, drop}
use Rattle.rl_base.specs.FoundTexts.{written_in}
use Rattle.rl_base.proofs.closed_text.find_written.Given as goal

-- No value before this one is written so.
abbrev pub invariant-loop-value : goal.invariant-loop-value
invariant-loop-value g l =
    written_in g.O.ClosedText.text (drop l.value-index l.values) l.text ≡ written_in g.O.ClosedText.text l.values l.text
