use Rattle.std.proofs.Common.{◌≡◌, ◌++◌, length}
use denote.Text.{Utf8}
use denote.Shadow.{shadow}
use Rattle.rl_jsx.specs.JsxTexts.{split_line_endings}
use Rattle.rl_jsx.proofs.lines.split_line_endings.Given as goal

abbrev pub invariant-splitting : goal.invariant-splitting
invariant-splitting l = record { utf8 : shadow (Utf8 l.rest); kept : l.lines ++ split_line_endings l.rest ≡ split_line_endings l.text }

abbrev pub decreases-splitting : goal.decreases-splitting
decreases-splitting l = length l.rest
