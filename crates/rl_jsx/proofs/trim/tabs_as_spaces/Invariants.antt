use Rattle.std.proofs.Common.{◌≡◌, ◌++◌, length, string_bytes}
use denote.Text.{Utf8}
use denote.Shadow.{shadow}
use Rattle.rl_jsx.specs.JsxTexts.{tabs_as_spaces}
use Rattle.rl_jsx.proofs.trim.tabs_as_spaces.Given as goal

abbrev pub invariant-replacing : goal.invariant-replacing
invariant-replacing l = record { utf8 : shadow (Utf8 l.rest); kept : string_bytes l.spaced ++ tabs_as_spaces l.rest ≡ tabs_as_spaces l.text }

abbrev pub decreases-replacing : goal.decreases-replacing
decreases-replacing l = length l.rest
