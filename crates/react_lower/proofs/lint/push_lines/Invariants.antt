use Rattle.std.proofs.Common.{◌≡◌, ◌++◌, drop}
use Rattle.react_lower.specs.Linted.{lines_of}
use Rattle.react_lower.proofs.lint.push_lines.Given as goal

abbrev pub invariant-found : goal.invariant-found
invariant-found l = l.text.items ++ lines_of (drop l.finding-index l.found) ≡ l.initial.text.items ++ lines_of l.found
