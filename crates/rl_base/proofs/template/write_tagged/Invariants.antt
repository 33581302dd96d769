use Rattle.std.proofs.Common.{◌≡◌, ◌++◌, length}
use denote.Text.{Utf8}
use denote.Shadow.{shadow}
use Rattle.rl_base.specs.Tags.{tagged}
use Rattle.rl_base.proofs.template.write_tagged.Given as goal

abbrev pub invariant-tagging : goal.invariant-tagging
invariant-tagging g l =
    record {
      utf8 : shadow (Utf8 l.rest);
      kept : g.B.TextBuffer.bytes l.out ++ tagged l.rest l.tag ≡ g.B.TextBuffer.bytes l.initial.out ++ tagged l.template l.tag;
    }

abbrev pub decreases-tagging : goal.decreases-tagging
decreases-tagging g l = length l.rest
