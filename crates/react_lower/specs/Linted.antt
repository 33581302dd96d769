-- The command `lint`: its lines, and its statuses.
use Rattle.std.specs.Prelude.{◌≡◌, ℕ, Option, Some, None, List, [], ◌∷◌, ◌++◌, codes, length}
use Rattle.std.specs.Fmt.{decimal}
use Rattle.rl_base.specs.Diagnostics.{span_text}
use Rattle.rl_base.specs.declared.span.Span.{Span}
use Rattle.rl_lint.specs.Findings.{Lists}
use Rattle.rl_lint.specs.Rules.{findings_in}
use Rattle.rl_lint.specs.declared.finding.Finding.{Finding}
use Rattle.rl_lint.specs.declared.finding.LintRule.{LintRule}
use Rattle.rl_lint.specs.declared.finding.LintRule.TheVariants as rule
use Rattle.rl_semantic.specs.Rules.{least_broken}
use Rattle.rl_syntax.specs.Syntax.{Syntax}
use Rattle.rl_text.specs.Quoted.{quoted}
use Rattle.rl_unit.specs.Answers.{BreaksRules}
use Rattle.rl_unit.specs.declared.run.Status.{Status}
use Rattle.rl_unit.specs.declared.run.Status.TheVariants.{Done, Reported, Malformed, TooLarge, ReadFault, WriteFault, OutOfMemory, Usage}

abbrev pub rule_name : LintRule → List ℕ
rule_name rule.L1 = codes "L1"
rule_name rule.L2 = codes "L2"
rule_name rule.L3 = codes "L3"
rule_name rule.L4 = codes "L4"

-- A space and `START..END`.
abbrev pub spaced : Span → List ℕ
spaced s = codes " " ++ span_text s

abbrev pub other_text : Option Span → List ℕ
other_text None = []
other_text (Some s) = spaced s

-- The line of a finding: its rule, its span, its name as a text of the notation, and its other span if it has one.
abbrev pub line_of : Finding → List ℕ
line_of f = rule_name f.rule ++ spaced f.span ++ codes " " ++ quoted f.name ++ other_text f.other ++ codes "\n"

abbrev pub lines_of : List Finding → List ℕ
lines_of [] = []
lines_of (f ∷ found) = line_of f ++ lines_of found

-- The text of findings: their lines, and `K findings` with their number.
abbrev pub text_of : List Finding → List ℕ
text_of found = lines_of found ++ decimal (length found) ++ codes " findings\n"

-- The text of the findings in a unit that keeps the rules, each once and in order.
pub record IsLinted (u : Syntax) (text : List ℕ) : Type 0 where
  pub rules : least_broken u ≡ None
  pub listed : List Finding
  pub lists : Lists (findings_in u) listed
  pub written : text ≡ text_of listed

-- The text is the output of a status for a unit: of Done the text of its findings.
abbrev pub IsLintOutput : Status → Syntax → List ℕ → Type 0
IsLintOutput Done u text = IsLinted u text
IsLintOutput _ u text = ⊥

-- The unit keeps the rules.
pub record KeepsRules (u : Syntax) : Type 0 where
  pub rules : least_broken u ≡ None

-- The status of a unit, unless an allocation, the source or the sink failed.
abbrev pub IsLintAnswer : Syntax → Status → Type 0
IsLintAnswer u Done = KeepsRules u
IsLintAnswer u Malformed = BreaksRules u
IsLintAnswer u ReadFault = Unit {0}
IsLintAnswer u WriteFault = Unit {0}
IsLintAnswer u OutOfMemory = Unit {0}
IsLintAnswer u Reported = ⊥
IsLintAnswer u TooLarge = ⊥
IsLintAnswer u Usage = ⊥
