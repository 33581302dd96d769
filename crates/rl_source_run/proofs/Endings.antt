-- The ends of runs.
use Rattle.std.proofs.Common.{◌≡◌, List, append-nil, sym}
use Rattle.rl_source_run.specs.Ends.{ending_in, last_of}
use Rattle.rl_source_run.specs.declared.drive.Ended.{Ended}
use Rattle.rl_source_run.specs.declared.drive.Ended.TheVariants as ended
use Rattle.rl_source_stack.specs.Controls.{trace_of}
use Rattle.rl_source_stack.specs.States.{state_by}
use Rattle.rl_source_stack.specs.declared.stack.Frame.{Frame}
use Rattle.rl_source_stack.specs.declared.texts.JsxTexts.{JsxTexts}
use Rattle.rl_names.specs.declared.names.FunctionNames.{FunctionNames}
use Rattle.rl_trace.specs.Progress.{Seen}
use Rattle.rl_trace.specs.Shared.{ident_of}
use Rattle.rl_trace.specs.declared.shared.Numbers.TheVariants as numbers

-- The progress of a run whose variables are symbols.
abbrev pub own : Seen → Seen
own s = record s { ident = ident_of numbers.Own }

pub ended_trace : (names : FunctionNames) (texts : JsxTexts) (frames : List Frame) (s : Seen) (e : Ended)
    → record { events = s.events; ending = ending_in (own s) e } ≡ trace_of (last_of e) (state_by names texts frames s)
ended_trace names texts frames s (ended.Returned variant v) =
    λ i. record { events = sym (append-nil s.events) i; ending = ending_in (own s) (ended.Returned variant v) }
ended_trace names texts frames s (ended.Threw v) =
    λ i. record { events = sym (append-nil s.events) i; ending = ending_in (own s) (ended.Threw v) }
ended_trace names texts frames s ended.Waiting =
    λ i. record { events = sym (append-nil s.events) i; ending = ending_in (own s) ended.Waiting }
