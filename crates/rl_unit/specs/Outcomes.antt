-- Outcomes of units that were read, and the program's output for them.
use Rattle.std.specs.Prelude.{◌≡◌, ℕ, List, Option, None, Some, IfSome}
use Rattle.rl_syntax.specs.Limits.{IsTooLarge}
use Rattle.rl_syntax.specs.Syntax.{Syntax}
use Rattle.rl_ast.specs.Units.{Spells}
use Rattle.rl_promises.specs.Headline.{IsLowered}
use Rattle.rl_semantic.specs.Rules.{least_broken}
use Rattle.rl_base.specs.Diagnostics.{line_of}
use Rattle.rl_unit.specs.Answers.{IsReportOf, lines, output, pending_line, skipped_line}
use Rattle.rl_unit.specs.declared.run.Outcome.{Outcome}
use Rattle.rl_unit.specs.declared.run.Outcome.TheVariants as outcomes
use Rattle.rl_unit.specs.declared.run.Status.{Status}
use Rattle.rl_unit.specs.declared.run.Status.TheVariants.{Done, Reported, Malformed, TooLarge, OutOfMemory}
use Rattle.rl_unit.specs.declared.unit.LowerError.{LowerError}
use Rattle.rl_unit.specs.declared.unit.LowerError.TheVariants as errors

-- The result of a unit, or the report on it.
abbrev pub IsOutcome : Outcome → Syntax → Type 0
IsOutcome (outcomes.Lowered l) u = (least_broken u ≡ None) × IsLowered u l
IsOutcome (outcomes.Reported text) u = IsReportOf u text.items

-- A unit has this outcome. Bytes that are known are within the limits, and spell that unit.
pub record ComesToKnown (bytes : Option (List ℕ)) (outcome : Outcome) : Type 0 where
  pub source : Syntax
  pub spelled : IfSome bytes (λ known. Spells known source)
  pub within : IfSome bytes (λ known. IsTooLarge known → ⊥)
  pub is_outcome : IsOutcome outcome source

-- The status of a run that writes the outcome.
abbrev pub outcome_status : Outcome → Status
outcome_status (outcomes.Lowered l) = Done
outcome_status (outcomes.Reported text) = Reported

-- The bytes that the program `lower` writes of the outcome.
abbrev pub outcome_text : Outcome → List ℕ
outcome_text (outcomes.Lowered l) = output l
outcome_text (outcomes.Reported text) = text.items

-- The lines of the report on a unit that has no result. None of an error without a report.
abbrev pub reported : LowerError → Option (List ℕ)
reported (errors.Pending node) = Some (pending_line node.0)
reported (errors.Stopped said) = Some (line_of said)
reported (errors.Refused said) = Some (lines said)
reported errors.Skipped = Some skipped_line
reported errors.TooLarge = None
reported errors.Malformed = None
reported errors.OutOfMemory = None

-- The status of a program that has nothing to write for an error: its own, or `OutOfMemory`, where an allocation failed.
abbrev pub IsStatusOf : LowerError → Status → Type 0
IsStatusOf errors.TooLarge status = status ≡ TooLarge
IsStatusOf errors.Malformed status = status ≡ Malformed
IsStatusOf error status = status ≡ OutOfMemory
