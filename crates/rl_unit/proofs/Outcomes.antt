-- Outcomes of a unit that was read, where the bytes that were left may not be known.
use Rattle.std.proofs.Common.{◌≡◌, inl, inr, ℕ, List, Option, Some, refl, sym, subst}
use Rattle.std.proofs.lemmas.Option.{none-some, same_Some}
use Rattle.rl_syntax.specs.Syntax.{Syntax}
use Rattle.rl_unit.proofs.Answering.{output_complete, refusals_row, skip_row, stop_row}
use Rattle.rl_unit.specs.Answers.{IsComplete, IsReportOf, IsRowReport, WritesKnown}
use Rattle.rl_unit.specs.Functions.{IsUnitError}
use Rattle.rl_unit.specs.Known.{RefusesUnit}
use Rattle.rl_unit.specs.Outcomes.{ComesToKnown, IsStatusOf, outcome_status, outcome_text, reported}
use Rattle.rl_unit.specs.declared.run.Outcome.{Outcome}
use Rattle.rl_unit.specs.declared.run.Outcome.TheVariants as outcomes
use Rattle.rl_unit.specs.declared.run.Status.{Status}
use Rattle.rl_unit.specs.declared.run.Status.TheVariants.{Reported}
use Rattle.rl_unit.specs.declared.unit.LowerError.{LowerError}
use Rattle.rl_unit.specs.declared.unit.LowerError.TheVariants as errors

-- The report on a unit without a result.
pub error_report : (u : Syntax) (e : LowerError) (text : List ℕ) → IsUnitError u e → reported e ≡ Some text → IsReportOf u text
error_report u (errors.Pending node) text cause is = inl (record {
  uncovered = record { rules = cause.0; node = node.0; waits = cause.1 };
  written = sym (same_Some _ _ is);
})
error_report u (errors.Stopped said) text cause is =
    inr (subst (λ (t : List ℕ). IsRowReport u t) (same_Some _ _ is) (stop_row u cause.rules cause.covered said cause.cause))
error_report u (errors.Refused said) text cause is =
    inr (subst (λ (t : List ℕ). IsRowReport u t) (same_Some _ _ is)
    (refusals_row u cause.rules cause.covered said cause.cause.0 cause.cause.1 cause.cause.2))
error_report u errors.Skipped text cause is =
    inr (subst (λ (t : List ℕ). IsRowReport u t) (same_Some _ _ is)
    (skip_row u cause.rules cause.covered cause.cause.0 cause.cause.1 cause.cause.2))
error_report u errors.TooLarge text cause is = absurd cause
error_report u errors.Malformed text cause is = absurd (none-some text is)
error_report u errors.OutOfMemory text cause is = absurd (none-some text is)

-- The status of a unit without a result or a report.
pub error_status : (u : Syntax) (e : LowerError) (status : Status) → IsUnitError u e → IsStatusOf e status → RefusesUnit u status
error_status u (errors.Pending node) status cause is = inr is
error_status u (errors.Stopped said) status cause is = inr is
error_status u (errors.Refused said) status cause is = inr is
error_status u errors.Skipped status cause is = inr is
error_status u errors.TooLarge status cause is = absurd cause
error_status u errors.Malformed status cause is = inl (is, cause)
error_status u errors.OutOfMemory status cause is = inr is

-- The output for an outcome.
pub writes_outcome : (left : Option (List ℕ)) (outcome : Outcome) (status : Status) (text : List ℕ) → status ≡ outcome_status outcome
    → text ≡ outcome_text outcome → ComesToKnown left outcome → WritesKnown left status text
writes_outcome left (outcomes.Lowered l) status text done written comes =
    subst (λ (s : Status). WritesKnown left s text) (sym done) (record {
      source = comes.source;
      spelled = comes.spelled;
      within = comes.within;
      is_output = record { rules = comes.is_outcome.0; result = l; is_lowered = comes.is_outcome.1; written = written };
    })
writes_outcome left (outcomes.Reported report) status text done written comes =
    subst (λ (s : Status). WritesKnown left s text) (sym done)
    (subst (λ (t : List ℕ). WritesKnown left Reported t) (sym written)
    (record { source = comes.source; spelled = comes.spelled; within = comes.within; is_output = comes.is_outcome }))

-- A program that reads a unit and writes its outcome in some form is complete.
pub outcome_complete : (left : Option (List ℕ)) (outcome : Outcome) → ComesToKnown left outcome
    → IsComplete left (outcome_status outcome)
outcome_complete left outcome comes =
    output_complete left (outcome_status outcome) (outcome_text outcome)
    (writes_outcome left outcome (outcome_status outcome) (outcome_text outcome) refl refl comes)
