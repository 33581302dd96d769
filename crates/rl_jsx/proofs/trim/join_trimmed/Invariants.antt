use Rattle.std.proofs.Common.{length, string_bytes}
use denote.Text.{Utf8}
use denote.Shadow.{shadow}
use Rattle.rl_jsx.proofs.Joined.{Joins}
use Rattle.rl_jsx.proofs.trim.join_trimmed.Given as goal

abbrev pub invariant-joining : goal.invariant-joining
invariant-joining l = record { utf8 : shadow (Utf8 l.rest); joins : Joins l.text (string_bytes l.joined) l.rest }

abbrev pub decreases-joining : goal.decreases-joining
decreases-joining l = length l.rest
