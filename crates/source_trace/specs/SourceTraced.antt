-- The command `source_trace`: its words, its lines, and its statuses.
use Rattle.std.specs.Prelude.{◌≡◌, ◌≢◌, ℕ, Bool, true, false, List, [], ◌∷◌, ◌++◌, Option, Some, None, codes}
use Rattle.rl_unit.specs.Lines.{no_function, trace_line}
use Rattle.rl_machine.specs.declared.trace.Trace.{Trace}
use Rattle.rl_model.specs.Source.{function_at, is_orderly, is_supported, source_trace_of}
use Rattle.rl_semantic.specs.Rules.{least_broken}
use Rattle.rl_syntax.specs.Syntax.{Syntax}
use Rattle.rl_trace_text.specs.RunWords.{SpellArguments}
use Rattle.rl_trace_text.specs.declared.words.Arguments.{Arguments}
use Rattle.rl_unit.specs.Answers.{BreaksRules}
use Rattle.rl_unit.specs.declared.run.Status.{Status}
use Rattle.rl_unit.specs.declared.run.Status.TheVariants.{Done, Reported, Malformed, TooLarge, ReadFault, WriteFault, OutOfMemory, Usage}

-- The words `F START ARGS ANSWERS`, which spell the arguments.
abbrev pub AreSourceWords : List (List ℕ) → Arguments → Type 0
AreSourceWords (function ∷ start ∷ args ∷ answers ∷ []) a = SpellArguments function start args answers a
AreSourceWords words a = ⊥

-- A line of a name and `y` or `n`.
abbrev pub flag_line : (name : List ℕ) → Bool → List ℕ
flag_line name true = name ++ codes " y\n"
flag_line name false = name ++ codes " n\n"

-- The three lines of a function of a unit with this trace: that, whether the function is orderly, and whether the unit is supported.
abbrev pub lines : (u : Syntax) → (function : Option ℕ) → Trace → List ℕ
lines u function trace =
    (trace_line trace ++ flag_line (codes "orderly") (is_orderly u function)) ++ flag_line (codes "supported") (is_supported u)

-- The three lines for a function of a unit that keeps the rules.
pub record IsSourceTraced (u : Syntax) (a : Arguments) (text : List ℕ) : Type 0 where
  pub rules : least_broken u ≡ None
  pub trace : Trace
  pub runs : source_trace_of u a.function a.start a.args a.answers ≡ Some trace
  pub written : text ≡ lines u a.function trace

-- The unit keeps the rules, and the number names no function of it that is lowered.
pub record NamesNoNode (u : Syntax) (a : Arguments) : Type 0 where
  pub rules : least_broken u ≡ None
  pub none : function_at u a.function ≡ None

-- The text is the output of a status for a unit: of Done the three lines, of Reported that the number names no function.
abbrev pub IsSourceOutput : Arguments → Status → Syntax → List ℕ → Type 0
IsSourceOutput a Done u text = IsSourceTraced u a text
IsSourceOutput a Reported u text = NamesNoNode u a × (text ≡ no_function)
IsSourceOutput a _ u text = ⊥

-- The unit keeps the rules, and the number names a function of it that is lowered.
pub record NamesNode (u : Syntax) (a : Arguments) : Type 0 where
  pub rules : least_broken u ≡ None
  pub there : function_at u a.function ≢ None

-- The status of a unit, unless an allocation, the source or the sink failed.
abbrev pub IsSourceAnswer : Arguments → Syntax → Status → Type 0
IsSourceAnswer a u Done = NamesNode u a
IsSourceAnswer a u Reported = NamesNoNode u a
IsSourceAnswer a u Malformed = BreaksRules u
IsSourceAnswer a u ReadFault = Unit {0}
IsSourceAnswer a u WriteFault = Unit {0}
IsSourceAnswer a u OutOfMemory = Unit {0}
IsSourceAnswer a u TooLarge = ⊥
IsSourceAnswer a u Usage = ⊥
