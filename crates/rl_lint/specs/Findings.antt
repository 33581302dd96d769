-- Findings of the linter, and their order.
use Rattle.std.specs.Prelude.{ℕ, Option, List}
use Rattle.std.specs.List.Sorted.{IsPermutation, IsSortedByKey}
use Rattle.std.specs.Ordering.{nat_cmp, ordering_then}
use Rattle.std.specs.declared.cmp.Ordering.{Ordering}
use Rattle.rl_base.specs.declared.span.Span.{Span}
use Rattle.rl_lint.specs.declared.finding.Finding.{Finding}
use Rattle.rl_lint.specs.declared.finding.LintRule.{LintRule}
use Rattle.rl_lint.specs.declared.finding.LintRule.TheVariants as rule

abbrev pub finding : LintRule → Span → (name : List ℕ) → (other : Option Span) → Finding
finding r span name other = record { rule = r; span = span; name = name; other = other }

-- The index of a rule, from 1.
abbrev pub rank : LintRule → ℕ
rank rule.L1 = 1
rank rule.L2 = 2
rank rule.L3 = 3
rank rule.L4 = 4

-- The start and the end of a finding's span, and its rule.
abbrev pub place_of : Finding → ℕ × ℕ × ℕ
place_of f = (f.span.start, f.span.end, rank f.rule)

-- The order of findings: by start, then by end, then by rule.
abbrev pub place_cmp : ℕ × ℕ × ℕ → ℕ × ℕ × ℕ → Ordering
place_cmp x y = ordering_then (ordering_then (nat_cmp x.0 y.0) (nat_cmp x.1 y.1)) (nat_cmp x.2 y.2)

-- The list `listed` has each of the findings `found` once, and no others, in order.
pub record Lists (found listed : List Finding) : Type 0 where
  pub each : IsPermutation found listed
  pub sorted : IsSortedByKey place_of place_cmp listed
