-- The bytes that were read, and the answer to them, if the bytes that were left need not be known.
use Rattle.std.proofs.Common.{◌≡◌, ◌≢◌, inl, inr, ℕ, true, true≢false, [], ◌++◌, ◌≤◌, ◌<◌, min, List, Option, Some, None, IfSome, length, length-take, take, refl, ap, sym, subst, ◌∙◌, arith}
use Rattle.std.proofs.lemmas.Bool.{cases_lt}
use Rattle.std.proofs.lemmas.List.{take_all}
use Rattle.std.specs.Io.KnownBytes.{Consumes}
use Rattle.rl_syntax.specs.Limits.{IsTooLarge, most_bytes, most_read}
use Rattle.rl_base.specs.Diagnostics.{line_of}
use Rattle.rl_base.specs.declared.diagnostic.Diagnostic.{Diagnostic}
use Rattle.rl_syntax.specs.Syntax.{Syntax}
use Rattle.rl_ast.specs.Units.{Spells}
use Rattle.rl_ast.proofs.Units.{one_unit}
use Rattle.rl_promises.specs.Rows.{IsTold, Nothing, refusals_of}
use Rattle.rl_promises.specs.Stops.{has_using, stop_of}
use Rattle.rl_model.specs.Marked.{marked}
use Rattle.rl_model.specs.Units.{names_of}
use Rattle.rl_names.specs.Functions.{body_in}
use Rattle.rl_promises.specs.Covered.{pending}
use Rattle.rl_semantic.specs.Rules.{least_broken}
use Rattle.rl_unit.specs.Answers.{AnswersSteadily, Explains, IsAnswer, IsOutput, IsComplete, IsMalformed, IsReportOf, IsRowReport, IsRowText, WritesKnown, ReadsWhole, Refuses, RefusesKnown, lines, skipped_line}
use Rattle.rl_unit.specs.Answers.{StopText, RefusalsText, SkipText}
use Rattle.rl_unit.specs.declared.run.Status.{Status}
use Rattle.rl_unit.specs.declared.run.Status.TheVariants.{Done, Reported, Malformed, TooLarge, ReadFault, WriteFault, OutOfMemory, Usage}

-- Bytes read within the limit are all that were left.
pub all_read : (left : Option (List ℕ)) (bytes : List ℕ) → IfSome left (λ known. bytes ≡ take most_read known) → length bytes ≤ most_bytes
    → IfSome left (λ known. bytes ≡ known)
all_read None bytes first within = tt
all_read (Some known) bytes first within =
    let count : length bytes ≡ min most_read (length known) = ap length first ∙ length-take most_read known in
    first ∙ take_all most_read known (omega arith)

-- A part that is past the limit of bytes is past the limits.
more_left : (left : Option (List ℕ)) (bytes : List ℕ) → IfSome left (λ known. bytes ≡ take most_read known) → most_bytes < length bytes
    → RefusesKnown left TooLarge
more_left None bytes first past = record { no_output = tt; refuses = tt }
more_left (Some known) bytes first past =
    let count : length bytes ≡ min most_read (length known) = ap length first ∙ length-take most_read known in
    record { no_output = tt; refuses = inl (omega arith) }

-- The bytes that were read pass the limits if all that were left do.
too_large_known : (left : Option (List ℕ)) (bytes : List ℕ) → IfSome left (λ known. bytes ≡ take most_read known) → IsTooLarge bytes
    → RefusesKnown left TooLarge
too_large_known None bytes first large = record { no_output = tt; refuses = tt }
too_large_known (Some known) bytes first large = elim (cases_lt most_bytes (length bytes)) [
  | inl past ↦ more_left (Some known) bytes first past
  | inr within ↦ record { no_output = tt; refuses = subst IsTooLarge (all_read (Some known) bytes first (omega (arith, within))) large }
]

-- An option is not both `Some` and `None`.
never_both : (o : Option Diagnostic) (d : Diagnostic) → o ≡ Some d → o ≡ None → ⊥
never_both o d some none = absurd (cc)

-- Of no refusals none is told.
told_none : (told : List Diagnostic) → IsTold [] told → told ≡ []
told_none told Nothing = refl

-- The causes of a report on rows, of a unit that keeps the rules and whose marked function is covered.
module _ (u : Syntax) (rules : least_broken u ≡ None) (covered : pending u ≡ None) where
  pub stop_row : (said : Diagnostic) → stop_of (names_of u) (marked u) ≡ Some said → IsRowReport u (line_of said)
  stop_row said stops = record {
    row = record {
      rules = rules;
      covered = covered;
      unsupported = λ supported. never_both (stop_of (names_of u) (marked u)) said stops supported.goes_on;
    };
    written = subst (λ (o : Option Diagnostic). IsRowText o (refusals_of (names_of u) (marked u)) (line_of said)) (sym stops)
        (StopText said);
  }

  pub refusals_row : (said : List Diagnostic) → stop_of (names_of u) (marked u) ≡ None
      → IsTold (refusals_of (names_of u) (marked u)) said → said ≢ [] → IsRowReport u (lines said)
  refusals_row said goes_on told some = record {
    row = record {
      rules = rules;
      covered = covered;
      unsupported = λ supported. some (told_none said (subst (λ (l : List Diagnostic). IsTold l said) supported.accepted told));
    };
    written = subst (λ (o : Option Diagnostic). IsRowText o (refusals_of (names_of u) (marked u)) (lines said)) (sym goes_on)
        (RefusalsText said told some);
  }

  pub skip_row : stop_of (names_of u) (marked u) ≡ None → refusals_of (names_of u) (marked u) ≡ []
      → has_using (body_in (marked u)) ≡ true → IsRowReport u skipped_line
  skip_row goes_on accepted skips = record {
    row = record {
      rules = rules;
      covered = covered;
      unsupported = λ supported. true≢false (sym skips ∙ supported.unskipped);
    };
    written = subst (λ (o : Option Diagnostic). IsRowText o (refusals_of (names_of u) (marked u)) skipped_line) (sym goes_on)
        (subst (λ (l : List Diagnostic). IsRowText None l skipped_line) (sym accepted) SkipText);
  }

malformed_known : (left : Option (List ℕ)) (bytes : List ℕ) → IfSome left (λ known. bytes ≡ known) → IsMalformed bytes
    → RefusesKnown left Malformed
malformed_known None bytes same m = record { no_output = tt; refuses = tt }
malformed_known (Some known) bytes same m = record { no_output = tt; refuses = subst IsMalformed same m }

pub within_bytes : (bytes : List ℕ) → (IsTooLarge bytes → ⊥) → length bytes ≤ most_bytes
within_bytes bytes small = elim (cases_lt most_bytes (length bytes)) [
  | inl past ↦ absurd (small (inl past))
  | inr within ↦ within
]

pub nothing_said : (left : Option (List ℕ)) → IfSome left (λ known. Unit {0})
nothing_said None = tt
nothing_said (Some known) = tt

pub refuses_left : (left : Option (List ℕ)) (bytes : List ℕ) (status : Status) → IfSome left (λ known. bytes ≡ take most_read known)
    → RefusesKnown (Some bytes) status → RefusesKnown left status
refuses_left left bytes Malformed first r =
    malformed_known left bytes (all_read left bytes first (within_bytes bytes r.refuses.within)) r.refuses
refuses_left left bytes TooLarge first r = too_large_known left bytes first r.refuses
refuses_left left bytes ReadFault first r = record { no_output = tt; refuses = nothing_said left }
refuses_left left bytes OutOfMemory first r = record { no_output = tt; refuses = nothing_said left }
refuses_left left bytes Usage first r = absurd r.no_output
refuses_left left bytes Reported first r = absurd r.no_output
refuses_left left bytes Done first r = absurd r.no_output
refuses_left left bytes WriteFault first r = absurd r.no_output

-- A fact about the unit that was read holds of each unit that the bytes spell.
reported : (u : Syntax) (text : List ℕ) → IsReportOf u text → IsAnswer u Reported
reported u text (inl waits) = inl waits.uncovered
reported u text (inr row) = inr row.row

output_answers : (status : Status) (u : Syntax) (text : List ℕ) → IsOutput status u text → IsAnswer u status
output_answers Done u text is = record { covered = is.is_lowered.covered; rules = is.rules; supported = is.is_lowered.supported }
output_answers Reported u text is = reported u text is
output_answers Malformed u text is = absurd is
output_answers TooLarge u text is = absurd is
output_answers ReadFault u text is = absurd is
output_answers WriteFault u text is = absurd is
output_answers OutOfMemory u text is = absurd is
output_answers Usage u text is = absurd is

spelled_known : (left : Option (List ℕ)) (bytes : List ℕ) (u : Syntax) → left ≡ Some bytes → IfSome left (λ known. Spells known u)
    → Spells bytes u
spelled_known left bytes u is spelled = subst (λ o. IfSome o (λ known. Spells known u)) is spelled

pub output_complete : (left : Option (List ℕ)) (status : Status) (text : List ℕ) → WritesKnown left status text → IsComplete left status
output_complete left status text w = record {
  answers = λ bytes u is within spells.
      let read : Spells bytes w.source = spelled_known left bytes w.source is w.spelled in
      subst (λ (s : Syntax). IsAnswer s status) (one_unit bytes w.source u read spells) (output_answers status w.source text w.is_output);
}

-- A status without output, of bytes within the limits, is the answer to each unit that they spell.
no_unit : (left : Option (List ℕ)) (status : Status) (bytes : List ℕ) → RefusesKnown left status → left ≡ Some bytes → Refuses status bytes
no_unit left status bytes r is = subst (λ o. IfSome o (λ known. Refuses status known)) is r.refuses

refusal_answers : (status : Status) (left : Option (List ℕ)) (bytes : List ℕ) (u : Syntax) → RefusesKnown left status → left ≡ Some bytes
    → (IsTooLarge bytes → ⊥) → Spells bytes u → IsAnswer u status
refusal_answers Malformed left bytes u r is within spells = (no_unit left Malformed bytes r is).no_unit u spells
refusal_answers TooLarge left bytes u r is within spells = absurd (within (no_unit left TooLarge bytes r is))
refusal_answers ReadFault left bytes u r is within spells = tt
refusal_answers OutOfMemory left bytes u r is within spells = tt
refusal_answers Usage left bytes u r is within spells = absurd r.no_output
refusal_answers Reported left bytes u r is within spells = absurd r.no_output
refusal_answers Done left bytes u r is within spells = absurd r.no_output
refusal_answers WriteFault left bytes u r is within spells = absurd r.no_output

pub refusal_complete : (left : Option (List ℕ)) (status : Status) → RefusesKnown left status → IsComplete left status
refusal_complete left status r = record { answers = λ bytes u is within spells. refusal_answers status left bytes u r is within spells }

pub reads_whole : (left new : Option (List ℕ)) (bytes : List ℕ) → Consumes left new bytes
    → IfSome left (λ known. bytes ≡ take most_read known) → ReadsWhole left new
reads_whole None new bytes gone first = tt
reads_whole (Some known) None bytes gone first = absurd gone
reads_whole (Some known) (Some rest) bytes gone first = gone ∙ ap (λ (b : List ℕ). b ++ rest) first

-- A status determines the bytes if neither source nor sink fails.
pub steady_answer : (status : Status) (bytes : List ℕ) (left old new : Option (List ℕ)) → left ≡ Some bytes → Explains status left old new
    → (status ≢ Usage) → (status ≡ ReadFault → ⊥) → (status ≡ WriteFault → ⊥) → AnswersSteadily bytes status
steady_answer Done bytes left old new is e command read write =
    (e.1.source, spelled_known left bytes e.1.source is e.1.spelled, output_answers Done e.1.source e.0 e.1.is_output)
steady_answer Reported bytes left old new is e command read write =
    (e.1.source, spelled_known left bytes e.1.source is e.1.spelled, reported e.1.source e.0 e.1.is_output)
steady_answer Malformed bytes left old new is e command read write = subst (λ o. IfSome o (λ known. Refuses Malformed known)) is e.0.refuses
steady_answer TooLarge bytes left old new is e command read write = subst (λ o. IfSome o (λ known. Refuses TooLarge known)) is e.0.refuses
steady_answer ReadFault bytes left old new is e command read write = read refl
steady_answer WriteFault bytes left old new is e command read write = write refl
steady_answer OutOfMemory bytes left old new is e command read write = tt
steady_answer Usage bytes left old new is e command read write = command refl
