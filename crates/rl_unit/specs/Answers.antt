-- The results of `lower_unit`, and the exit statuses of the program, each with its cause.
use Rattle.std.specs.Prelude.{◌≡◌, ◌≢◌, ◌⊎◌, ℕ, true, List, [], ◌∷◌, ◌++◌, take, None, Some, IfSome, ⊤, codes}
use Rattle.std.specs.Fmt.{decimal}
use Rattle.std.specs.declared.option.Option.{Option}
use Rattle.std.specs.Io.KnownBytes.{Consumes, Keeps, Appends}
use Rattle.rl_base.specs.Pieces.{AppendsPrefix}
use Rattle.rl_text.specs.Notation.{spelling}
use Rattle.rl_hir.specs.Listing.{lowered}
use Rattle.rl_syntax.specs.Limits.{IsTooLarge, most_read}
use Rattle.rl_syntax.specs.Syntax.{Syntax}
use Rattle.rl_ast.specs.Units.{Spells}
use Rattle.rl_base.specs.Diagnostics.{line_of}
use Rattle.rl_base.specs.declared.diagnostic.Diagnostic.{Diagnostic}
use Rattle.rl_promises.specs.Covered.{pending}
use Rattle.rl_names.specs.Functions.{body_in}
use Rattle.rl_promises.specs.Rows.{IsSupported, IsTold, refusals_of}
use Rattle.rl_promises.specs.Stops.{has_using, stop_of}
use Rattle.rl_model.specs.Marked.{marked}
use Rattle.rl_promises.specs.Headline.{IsLowered}
use Rattle.rl_model.specs.Units.{IsUnit, names_of}
use Rattle.rl_semantic.specs.Rules.{least_broken}
use Rattle.rl_unit.specs.declared.run.Status.{Status}
use Rattle.rl_unit.specs.declared.run.Status.TheVariants.{Done, Reported, Malformed, TooLarge, ReadFault, WriteFault, OutOfMemory, Usage}
use Rattle.rl_hir.specs.declared.function.Lowered.{Lowered}

-- The unit keeps the rules, its marked function is covered, no row applies to that, and it is not skipped.
pub record IsAccepted (u : Syntax) : Type 0 where
  pub rules : least_broken u ≡ None
  pub covered : pending u ≡ None
  pub supported : IsSupported (names_of u) (marked u)

-- The unit keeps the rules, its marked function is covered, and a row applies to that or it is skipped.
pub record MeetsRow (u : Syntax) : Type 0 where
  pub rules : least_broken u ≡ None
  pub covered : pending u ≡ None
  pub unsupported : IsSupported (names_of u) (marked u) → ⊥

-- The unit breaks a rule.
pub record BreaksRules (u : Syntax) : Type 0 where
  pub broken : least_broken u ≢ None

-- The unit keeps the rules, and a node of its marked function is not covered; the least has the id `node`.
pub record IsUncovered (u : Syntax) : Type 0 where
  pub rules : least_broken u ≡ None
  pub node : ℕ
  pub waits : pending u ≡ Some node

-- The unit has the status, unless an allocation, the source or the sink failed.
abbrev pub IsAnswer : (u : Syntax) → Status → Type 0
IsAnswer u Done = IsAccepted u
IsAnswer u Reported = IsUncovered u ⊎ MeetsRow u
IsAnswer u Malformed = BreaksRules u
IsAnswer u ReadFault = Unit {0}
IsAnswer u WriteFault = Unit {0}
IsAnswer u OutOfMemory = Unit {0}
IsAnswer u TooLarge = ⊥
IsAnswer u Usage = ⊥

-- The bytes are within the limits, and each unit that they spell breaks a rule.
pub record IsMalformed (bytes : List ℕ) : Type 0 where
  pub within : IsTooLarge bytes → ⊥
  pub no_unit : (u : Syntax) → Spells bytes u → BreaksRules u

-- The bytes are within the limits, and spell a unit that keeps the rules and whose marked function has the node `node` as the
-- least that is not covered.
pub record IsPending (bytes : List ℕ) (node : ℕ) : Type 0 where
  pub within : IsTooLarge bytes → ⊥
  pub source : Syntax
  pub spelled : IsUnit bytes source
  pub waits : pending source ≡ Some node

-- The output for a result: its text, and a line feed.
abbrev pub output : Lowered → List ℕ
output l = spelling (lowered l) ++ 10 ∷ []

-- The bytes spell a unit whose marked function is covered and is stopped, by the diagnostic `said`.
pub record IsStopped (bytes : List ℕ) (said : Diagnostic) : Type 0 where
  pub source : Syntax
  pub spelled : IsUnit bytes source
  pub covered : pending source ≡ None
  pub stops : stop_of (names_of source) (marked source) ≡ Some said

-- The bytes spell a unit whose marked function is covered, not stopped, and refused, by the diagnostics `said`, at least one: those of its
-- nodes to which a row applies, but that F40 may lack where a variable got another name.
pub record IsRefused (bytes : List ℕ) (said : List Diagnostic) : Type 0 where
  pub source : Syntax
  pub spelled : IsUnit bytes source
  pub covered : pending source ≡ None
  pub goes_on : stop_of (names_of source) (marked source) ≡ None
  pub names : IsTold (refusals_of (names_of source) (marked source)) said
  pub some : said ≢ []

-- The bytes spell a unit whose marked function is covered, to which no row applies, and which declares a variable by `using`.
pub record IsSkipped (bytes : List ℕ) : Type 0 where
  pub source : Syntax
  pub spelled : IsUnit bytes source
  pub covered : pending source ≡ None
  pub goes_on : stop_of (names_of source) (marked source) ≡ None
  pub accepted : refusals_of (names_of source) (marked source) ≡ []
  pub skips : has_using (body_in (marked source)) ≡ true

-- The lines of diagnostics, in order.
abbrev pub lines : List Diagnostic → List ℕ
lines [] = []
lines (d ∷ ds) = line_of d ++ lines ds

-- The report on a function that is skipped, and a line feed.
abbrev pub skipped_line : List ℕ
skipped_line = codes "Skipped: an enum or a using declaration\n"

-- The report on a function with this stop and these refusals: the line of its stop, or else a line for each refusal that is told, or else
-- that it is skipped.
pub data IsRowText : Option Diagnostic → (refusals : List Diagnostic) → (text : List ℕ) → Type 0 where
  StopText : {refusals : List Diagnostic} (stop : Diagnostic) → IsRowText (Some stop) refusals (line_of stop)
  RefusalsText : {refusals : List Diagnostic} (told : List Diagnostic) → IsTold refusals told → told ≢ []
      → IsRowText None refusals (lines told)
  SkipText : IsRowText None [] skipped_line

-- The report on a unit whose marked function is not covered, by the id of the least uncovered node: `Pending N`, and a line feed.
abbrev pub pending_line : (node : ℕ) → List ℕ
pending_line node = codes "Pending " ++ decimal node ++ codes "\n"

-- The text is the output for a result of the unit, which keeps the rules.
pub record IsResultOf (u : Syntax) (text : List ℕ) : Type 0 where
  pub rules : least_broken u ≡ None
  pub result : Lowered
  pub is_lowered : IsLowered u result
  pub written : text ≡ output result

-- A node of the marked function is not covered, and the text is the report of the least.
pub record IsPendingReport (u : Syntax) (text : List ℕ) : Type 0 where
  pub uncovered : IsUncovered u
  pub written : text ≡ pending_line uncovered.node

-- A row applies to the unit or it is skipped, and the text is its report.
pub record IsRowReport (u : Syntax) (text : List ℕ) : Type 0 where
  pub row : MeetsRow u
  pub written : IsRowText (stop_of (names_of u) (marked u)) (refusals_of (names_of u) (marked u)) text

-- The text is the report on the unit.
abbrev pub IsReportOf : Syntax → List ℕ → Type 0
IsReportOf u text = IsPendingReport u text ⊎ IsRowReport u text

-- The text is the output of a status for a unit: of Done a result, of Reported a report.
abbrev pub IsOutput : Status → Syntax → List ℕ → Type 0
IsOutput Done u text = IsResultOf u text
IsOutput Reported u text = IsReportOf u text
IsOutput _ u text = ⊥

-- The text is the output of the status for a unit. Bytes that are known are within the limits, and spell that unit.
pub record WritesKnown (bytes : Option (List ℕ)) (status : Status) (text : List ℕ) : Type 0 where
  pub source : Syntax
  pub spelled : IfSome bytes (λ known. Spells known source)
  pub within : IfSome bytes (λ known. IsTooLarge known → ⊥)
  pub is_output : IsOutput status source text

-- The cause of a status without output, about the bytes that the source had left.
abbrev pub Refuses : Status → List ℕ → Type 0
Refuses Malformed left = IsMalformed left
Refuses TooLarge left = IsTooLarge left
Refuses ReadFault left = Unit {0}
Refuses OutOfMemory left = Unit {0}
Refuses Usage left = ⊥
Refuses Reported left = ⊥
Refuses Done left = ⊥
Refuses WriteFault left = ⊥

-- The statuses of runs that lower no unit and write nothing.
abbrev pub HasNoOutput : Status → Type 0
HasNoOutput Malformed = Unit {0}
HasNoOutput TooLarge = Unit {0}
HasNoOutput ReadFault = Unit {0}
HasNoOutput OutOfMemory = Unit {0}
HasNoOutput Usage = ⊥
HasNoOutput Reported = ⊥
HasNoOutput Done = ⊥
HasNoOutput WriteFault = ⊥

pub record RefusesKnown (left : Option (List ℕ)) (status : Status) : Type 0 where
  pub no_output : HasNoOutput status
  pub refuses : IfSome left (λ known. Refuses status known)

-- The meaning of a status: about the bytes `left` that the source had, and the bytes `old` and `new` that the sink held before
-- and after the run.
abbrev pub Explains : Status → Option (List ℕ) → Option (List ℕ) → Option (List ℕ) → Type 0
Explains Done left old new = (text : List ℕ) × WritesKnown left Done text × Appends old new text
Explains Reported left old new = (text : List ℕ) × WritesKnown left Reported text × Appends old new text
Explains WriteFault left old new = (status : Status) × (text : List ℕ) × WritesKnown left status text × AppendsPrefix old new text
Explains Malformed left old new = RefusesKnown left Malformed × Keeps old new
Explains TooLarge left old new = RefusesKnown left TooLarge × Keeps old new
Explains ReadFault left old new = Keeps old new
Explains OutOfMemory left old new = Keeps old new
Explains Usage left old new = Keeps old new

-- The exit status of the process.
abbrev pub exit_code : Status → ℕ
exit_code Done = 0
exit_code Reported = 1
exit_code Malformed = 2
exit_code TooLarge = 3
exit_code ReadFault = 4
exit_code WriteFault = 5
exit_code OutOfMemory = 6
exit_code Usage = 7

-- The statuses that come after the bytes were read.
abbrev pub HasRead : Status → Type 0
HasRead Done = Unit {0}
HasRead Reported = Unit {0}
HasRead Malformed = Unit {0}
HasRead TooLarge = Unit {0}
HasRead WriteFault = Unit {0}
HasRead ReadFault = ⊥
HasRead OutOfMemory = ⊥
HasRead Usage = ⊥

-- The source was read to its end, or until one byte more than the limit was there.
abbrev pub ReadsWhole : Option (List ℕ) → Option (List ℕ) → Type 0
ReadsWhole None new = ⊤
ReadsWhole (Some left) new = Consumes (Some left) new (take (most_read) left)

-- Bytes that were left, are known, are within the limits and spell a unit have the status of that unit.
pub record IsComplete (left : Option (List ℕ)) (status : Status) : Type 0 where
  pub answers : (bytes : List ℕ) (u : Syntax) → left ≡ Some bytes → (IsTooLarge bytes → ⊥) → Spells bytes u → IsAnswer u status

-- The answer to a unit over a source and a sink that never fail: its result or its report, as the unit has one, and neither where
-- the bytes are malformed or pass a limit; or `OutOfMemory`, where an allocation failed.
abbrev pub AnswersSteadily : List ℕ → Status → Type 0
AnswersSteadily bytes Done = (u : Syntax) × Spells bytes u × IsAnswer u Done
AnswersSteadily bytes Reported = (u : Syntax) × Spells bytes u × IsAnswer u Reported
AnswersSteadily bytes Malformed = IsMalformed bytes
AnswersSteadily bytes TooLarge = IsTooLarge bytes
AnswersSteadily bytes ReadFault = ⊥
AnswersSteadily bytes WriteFault = ⊥
AnswersSteadily bytes OutOfMemory = Unit {0}
AnswersSteadily bytes Usage = ⊥
