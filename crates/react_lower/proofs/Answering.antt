-- The outputs of `trace` for a unit, and their answers.
use Rattle.std.proofs.Common.{◌≡◌, inl, inr, ℕ, true, List, [], Option, Some, None, refl, ap, sym, subst, ◌∙◌}
use Rattle.std.proofs.lemmas.Option.{none-some, same_Some}
use Rattle.rl_unit.proofs.Known.{FitsRefusals}
use Rattle.react_lower.specs.Traced.{IsTraceAnswer, IsTraceOutput, id_of, node_of}
use Rattle.rl_hir.specs.declared.function.Lowered.{Lowered}
use Rattle.rl_machine.specs.declared.trace.Answer.{Answer}
use Rattle.rl_machine.specs.declared.trace.Assignment.{Assignment}
use Rattle.rl_machine.specs.declared.trace.Trace.{Trace}
use Rattle.rl_machine.specs.declared.trace.Value.{Value}
use Rattle.rl_promises.specs.Headline.{IsLowered}
use Rattle.rl_model.specs.Source.{is_orderly, source_trace_of}
use Rattle.rl_model.specs.Worlds.{graph_trace_of}
use Rattle.rl_syntax.specs.Syntax.{Syntax}
use Rattle.rl_trace_text.specs.declared.words.Arguments.{Arguments}
use Rattle.rl_unit.specs.Answers.{IsAnswer, IsReportOf}
use Rattle.rl_unit.specs.declared.run.Status.{Status}
use Rattle.rl_unit.specs.declared.run.Status.TheVariants.{Done, Reported, Malformed, TooLarge, ReadFault, WriteFault, OutOfMemory, Usage}

-- A result has no inner functions yet, so a function with a trace is the marked one.
pub is_marked : (l : Lowered) (function : Option ℕ) (start : List Assignment) (arguments : List Value) (answers : List Answer) (t : Trace)
    → l.inner ≡ [] → graph_trace_of l (id_of function) start arguments answers ≡ Some t → function ≡ None
is_marked l None start arguments answers t none some = refl
is_marked l (Some number) start arguments answers t none some = absurd (absent (sym (nothing none) ∙ some))
  where
    nothing : l.inner ≡ [] → graph_trace_of l (id_of (Some number)) start arguments answers ≡ None
    nothing none = rw none refl

    absent : None ≡ Some t → ⊥
    absent = none-some t

-- The two traces of the marked function are equal, if it is orderly.
pub same_traces : (u : Syntax) (l : Lowered) (function : Option ℕ) (start : List Assignment) (arguments : List Value)
    → (answers : List Answer) (source graph : Trace) → IsLowered u l → function ≡ None → is_orderly u (node_of l function) ≡ true
    → source_trace_of u (node_of l function) start arguments answers ≡ Some source
    → graph_trace_of l (id_of function) start arguments answers ≡ Some graph → source ≡ graph
same_traces u l function start arguments answers source graph lowers is orderly by_source by_graph =
    same_Some source graph
    (sym by_source ∙ ap (λ (f : Option ℕ). source_trace_of u (node_of l f) start arguments answers) is
    ∙ ap Some (sym (lowers.orderly (subst (λ (f : Option ℕ). is_orderly u (node_of l f) ≡ true) is orderly) start arguments answers))
    ∙ sym (ap (λ (f : Option ℕ). graph_trace_of l (id_of f) start arguments answers) is) ∙ by_graph)

-- Answers of `trace`.

reports : (u : Syntax) (text : List ℕ) → IsReportOf u text → IsAnswer u Reported
reports u text (inl waits) = inl waits.uncovered
reports u text (inr row) = inr row.row

reported_answer : (a : Arguments) (u : Syntax) (text : List ℕ) → IsTraceOutput a Reported u text → IsTraceAnswer a u Reported
reported_answer a u text (inl report) = inl (reports u text report)
reported_answer a u text (inr none) = inr none.0

pub trace_answers : (a : Arguments) (status : Status) (u : Syntax) (text : List ℕ) → IsTraceOutput a status u text
    → IsTraceAnswer a u status
trace_answers a Done u text is = record { rules = is.rules; covered = is.is_lowered.covered; supported = is.is_lowered.supported }
trace_answers a Reported u text is = reported_answer a u text is
trace_answers a Malformed u text is = absurd is
trace_answers a TooLarge u text is = absurd is
trace_answers a ReadFault u text is = absurd is
trace_answers a WriteFault u text is = absurd is
trace_answers a OutOfMemory u text is = absurd is
trace_answers a Usage u text is = absurd is

pub trace_fits : (a : Arguments) → FitsRefusals (IsTraceAnswer a)
trace_fits a = record { malformed = λ u broken. broken; read = λ u. tt; memory = λ u. tt }
