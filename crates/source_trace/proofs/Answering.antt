-- The outputs of `source_trace` for a unit, and their answers.
use Rattle.std.proofs.Common.{◌≡◌, ◌≢◌, ℕ, List, Option, Some, None, sym}
use Rattle.std.proofs.lemmas.Option.{none-some}
use Rattle.std.specs.Option.{option_map}
use Rattle.rl_unit.proofs.Known.{FitsRefusals}
use Rattle.rl_machine.specs.declared.trace.Trace.{Trace}
use Rattle.rl_model.specs.Source.{function_at}
use Rattle.rl_syntax.specs.Syntax.{Syntax}
use Rattle.rl_trace_text.specs.declared.words.Arguments.{Arguments}
use Rattle.rl_unit.specs.declared.run.Status.{Status}
use Rattle.rl_unit.specs.declared.run.Status.TheVariants.{Done, Reported, Malformed, TooLarge, ReadFault, WriteFault, OutOfMemory, Usage}
use Rattle.source_trace.specs.SourceTraced.{IsSourceAnswer, IsSourceOutput}

some_there : {X : Type 0} (o : Option X) (f : X → Trace) (t : Trace) → option_map f o ≡ Some t → o ≢ None
some_there None f t is = absurd (none-some t is)
some_there (Some x) f t is = λ none. none-some x (sym none)

pub source_answers : (a : Arguments) (status : Status) (u : Syntax) (text : List ℕ) → IsSourceOutput a status u text
    → IsSourceAnswer a u status
source_answers a Done u text is = record { rules = is.rules; there = some_there (function_at u a.function) _ is.trace is.runs }
source_answers a Reported u text is = is.0
source_answers a Malformed u text is = absurd is
source_answers a TooLarge u text is = absurd is
source_answers a ReadFault u text is = absurd is
source_answers a WriteFault u text is = absurd is
source_answers a OutOfMemory u text is = absurd is
source_answers a Usage u text is = absurd is

pub source_fits : (a : Arguments) → FitsRefusals (IsSourceAnswer a)
source_fits a = record { malformed = λ u broken. broken; read = λ u. tt; memory = λ u. tt }
