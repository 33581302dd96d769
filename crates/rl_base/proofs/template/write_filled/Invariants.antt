use Rattle.std.proofs.Common.{◌≡◌, ◌++◌, length}
use denote.Text.{Utf8}
use denote.Shadow.{shadow}
use Rattle.rl_base.specs.Templates.{filled}
use Rattle.rl_base.proofs.template.write_filled.Given as goal

abbrev pub invariant-filling : goal.invariant-filling
invariant-filling g l =
    record {
      utf8 : shadow (Utf8 l.rest);
      kept : g.B.TextBuffer.bytes l.out ++ filled l.rest l.word ≡ g.B.TextBuffer.bytes l.initial.out ++ filled l.template l.word;
    }

abbrev pub decreases-filling : goal.decreases-filling
decreases-filling g l = length l.rest
