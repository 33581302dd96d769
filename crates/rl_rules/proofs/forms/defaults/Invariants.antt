use Rattle.std.proofs.Common.{◌≡◌, ◌+◌, ◌≤◌, map, drop}
use Rattle.rl_syntax.specs.Syntax.{pieces_of, syntax}
use Rattle.rl_rules.specs.Forms.{defaults}
use Rattle.rl_rules.proofs.forms.defaults.Given as goal

abbrev pub invariant-cases : goal.invariant-cases
invariant-cases l = record {
  counted : l.count + defaults (pieces_of (map syntax (drop l.case-index l.cases))) ≡ defaults (pieces_of (map syntax l.cases));
  few : l.count ≤ l.case-index;
}
